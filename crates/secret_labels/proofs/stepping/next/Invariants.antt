use Rattle.std.proofs.Common.{◌-◌, ◌≡◌}
use Rattle.guest_interp.specs.Guest.{counted_vcpu}
use Rattle.secret_labels.specs.Following.{met_within}
use Rattle.secret_labels.proofs.stepping.next.Given as goal

-- it comes to where it would have from the start
abbrev pub invariant-loop-guest : goal.invariant-loop-guest
invariant-loop-guest l = met_within l.budget l.marks (counted_vcpu l.guest) ≡ met_within l.budget l.initial.marks (counted_vcpu l.initial.guest)

abbrev pub decreases-loop-guest : goal.decreases-loop-guest
decreases-loop-guest l = l.budget - l.guest.steps
