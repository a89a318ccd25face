use Rattle.std.proofs.Common.{◌≡◌}
use Rattle.bus_lock.specs.Carried.{IsOf}
use Rattle.bus_lock.proofs.thread_tests.work.Given as goal

abbrev pub invariant-loop-number : goal.invariant-loop-number
invariant-loop-number g l = IsOf l.lock l.pass × (l.pass.view.share ≡ l.initial.pass.view.share)
