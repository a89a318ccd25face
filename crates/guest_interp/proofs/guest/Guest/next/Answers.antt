use Rattle.std.proofs.Common.{arith, ◌≡◌, ◌-◌, ◌+◌, ℕ, ap, sym, ◌∙◌}
use Rattle.event_table.specs.Plan.{Moved}
use Rattle.guest_interp.specs.Stepping.{at_count, next_of}
use Rattle.guest_interp.specs.Guest.{counted_vcpu, vcpu_in}
use Rattle.guest_interp.proofs.Going.{next_by}
use Rattle.guest_interp.proofs.guest.Guest.next.Goals as goal

pub loop-self-preserved : goal.loop-self-preserved
loop-self-preserved c =
    let before = counted_vcpu c.loop-self.self in
    let gone = c.step_once.new.self in
    let one : gone.steps ≡ before.steps + 1 = c.in-Goes.ensures.counted in
    let less : c.args.budget - gone.steps ≡ c.args.budget - before.steps - 1 = omega (arith, one) in
    ap (λ left. next_of left (counted_vcpu gone)) less
    ∙ ap (λ (steps : ℕ). next_of (c.args.budget - before.steps - 1) (at_count (vcpu_in gone) steps)) one
    ∙ sym (next_by (c.args.budget - before.steps) before (Moved (vcpu_in gone)) (omega arith) c.in-Goes.ensures.value)
    ∙ c.loop-self.invariant
