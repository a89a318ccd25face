use Rattle.std.proofs.Common.{ℕ, List, ◌++◌}
use Rattle.std.specs.Prelude.{codes}
use Rattle.show_text.specs.Number.{labelled}
use Rattle.show_text.proofs.Append.{numbered, then}
use Rattle.show_text.proofs.msr.push_sev_info.Goals as goal

pub returns-clause-text : goal.returns-clause-text
returns-clause-text c =
    let a : List ℕ = labelled (codes "sev-info max ") c.args.max in
    let b : List ℕ = labelled (codes " min ") c.args.min in
    let d : List ℕ = labelled (codes " c-bit ") c.args.c_bit in
    let first = numbered _ _ (codes "sev-info max ") _ _ c.push_number.ensures.text c.into.ensures in
    let second = numbered _ _ (codes " min ") _ _ c.push_number-2.ensures.text c.into-2.ensures in
    let third = numbered _ _ (codes " c-bit ") _ _ c.push_number-3.ensures.text c.into-3.ensures in
    let both = then c.args.text.now c.push_number.new.self c.push_number-2.new.self a b first second in
    then c.args.text.now c.push_number-2.new.self c.push_number-3.new.self (a ++ b) d both third
