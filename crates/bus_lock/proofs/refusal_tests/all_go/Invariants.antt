use Rattle.std.proofs.Common.{◌≡◌}
use Rattle.bus_lock.specs.Carried.{IsOf}
use Rattle.bus_lock.proofs.refusal_tests.all_go.Given as goal

abbrev pub invariant-loop-turn : goal.invariant-loop-turn
invariant-loop-turn g l = IsOf l.lock l.pass × (l.pass.view.share ≡ l.initial.pass.view.share)
