use Rattle.std.proofs.Common.{arith, rules, ◌≡◌, ◌-◌, ◌+◌, ℕ, ap, sym, ◌∙◌}
use Rattle.event_table.specs.Plan.{Moved}
use Rattle.guest_interp.specs.Guest.{counted_vcpu}
use Rattle.guest_interp.specs.Stepping.{Counted, at_count}
use Rattle.secret_labels.specs.Following.{met_of, met_within, noted_step}
use Rattle.secret_labels.specs.Labels.{Quiet}
use Rattle.secret_labels.proofs.Going.{met_by}
use Rattle.secret_labels.proofs.stepping.next.Goals as goal

pub loop-guest-preserved : goal.loop-guest-preserved
loop-guest-preserved c =
    let budget = c.args.budget in
    let start : Counted = counted_vcpu c.loop-guest.guest in
    let before : Counted = counted_vcpu c.note_step.new.guest in
    let gone : Counted = counted_vcpu c.step_once.new.self in
    let labels = c.loop-guest.marks in
    let marks = c.note_step.new.marks in
    let same : before ≡ start = c.note_step.ensures.same in
    let one : gone.steps ≡ before.steps + 1 = c.in-Goes.ensures.counted in
    let less : budget - gone.steps ≡ budget - before.steps - 1 = omega (arith, one) in
    let steps : before.steps ≡ start.steps = ap (λ (x : Counted). x.steps) same in
    let quiet : Quiet marks ≡ noted_step labels start.vcpu = search rules in
    let noted : Quiet marks ≡ noted_step labels before.vcpu = quiet ∙ ap (λ (x : Counted). noted_step labels x.vcpu) (sym same) in
    ap (λ left. met_of left marks gone) less
    ∙ ap (λ (n : ℕ). met_of (budget - before.steps - 1) marks (at_count gone.vcpu n)) one
    ∙ sym (met_by (budget - before.steps) labels before (Quiet marks) (Moved gone.vcpu) (omega (arith, steps, c.loop-guest-test.true)) noted c.in-Goes.ensures.value)
    ∙ ap (λ (x : Counted). met_within budget labels x) same
    ∙ c.loop-guest.invariant
