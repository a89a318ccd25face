use Rattle.std.proofs.Common.{◌≡◌}
use Rattle.bus_lock.specs.Carried.{IsOf}
use Rattle.bus_lock.proofs.tests.all_turn_apart.Given as goal

abbrev pub invariant-loop-number : goal.invariant-loop-number
invariant-loop-number g l = IsOf l.lock l.all × (l.all.view.share ≡ 1024)
