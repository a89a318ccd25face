use Rattle.std.proofs.Common.{◌-◌, ◌≡◌}
use Rattle.guest_interp.specs.Stepping.{next_within}
use Rattle.guest_interp.specs.Guest.{counted_vcpu}
use Rattle.guest_interp.proofs.guest.Guest.next.Given as goal

-- it stops where it would have from the start
abbrev pub invariant-loop-self : goal.invariant-loop-self
invariant-loop-self l = next_within l.budget (counted_vcpu l.self) ≡ next_within l.budget (counted_vcpu l.initial.self)

abbrev pub decreases-loop-self : goal.decreases-loop-self
decreases-loop-self l = l.budget - l.self.steps
