use Rattle.std.proofs.Common.{ℕ, List}
use Rattle.std.specs.Prelude.{codes}
use Rattle.show_text.specs.Number.{labelled}
use Rattle.show_text.proofs.Append.{numbered, then}
use Rattle.show_text.proofs.msr.push_message.Goals as goal

pub returns-in-ApHoldRequest-clause-text : goal.returns-in-ApHoldRequest-clause-text
returns-in-ApHoldRequest-clause-text c = rw c.in-ApHoldRequest.is c.push_str-in-ApHoldRequest.ensures.text

pub returns-in-FeatureRequest-clause-text : goal.returns-in-FeatureRequest-clause-text
returns-in-FeatureRequest-clause-text c = rw c.in-FeatureRequest.is c.push_str-in-FeatureRequest.ensures.text

pub returns-in-ApHoldResponse-clause-text : goal.returns-in-ApHoldResponse-clause-text
returns-in-ApHoldResponse-clause-text c = rw c.in-ApHoldResponse.is c.push_number-in-ApHoldResponse.ensures.text

pub returns-in-FeatureResponse-clause-text : goal.returns-in-FeatureResponse-clause-text
returns-in-FeatureResponse-clause-text c = rw c.in-FeatureResponse.is c.push_number-in-FeatureResponse.ensures.text

pub returns-in-CpuidResponse-clause-text : goal.returns-in-CpuidResponse-clause-text
returns-in-CpuidResponse-clause-text c =
    let a : List ℕ = labelled (codes "cpuid-response value ") c.in-CpuidResponse.value in
    let b : List ℕ = labelled (codes " register ") c.in-CpuidResponse.register in
    let first = numbered _ _ (codes "cpuid-response value ") _ _ c.push_number-in-CpuidResponse.ensures.text c.into-in-CpuidResponse.ensures in
    let second = numbered _ _ (codes " register ") _ _ c.push_number-in-CpuidResponse-2.ensures.text c.into-in-CpuidResponse-2.ensures in
    rw c.in-CpuidResponse.is (then c.args.text.now c.push_number-in-CpuidResponse.new.self c.push_number-in-CpuidResponse-2.new.self a b first second)

pub returns-in-Terminate-clause-text : goal.returns-in-Terminate-clause-text
returns-in-Terminate-clause-text c =
    let a : List ℕ = labelled (codes "terminate set ") c.in-Terminate.set in
    let b : List ℕ = labelled (codes " code ") c.in-Terminate.code in
    let first = numbered _ _ (codes "terminate set ") _ _ c.push_number-in-Terminate.ensures.text c.into-in-Terminate.ensures in
    let second = numbered _ _ (codes " code ") _ _ c.push_number-in-Terminate-2.ensures.text c.into-in-Terminate-2.ensures in
    rw c.in-Terminate.is (then c.args.text.now c.push_number-in-Terminate.new.self c.push_number-in-Terminate-2.new.self a b first second)
