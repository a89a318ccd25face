use Rattle.std.proofs.Common.{sym, subst, arith}
use Rattle.std.proofs.lemmas.Grind.{common_steps}
use Rattle.round_runner.specs.Standing.{AreFresh}
use Rattle.round_runner.proofs.Seating.{fresh_push}
use Rattle.round_runner.proofs.rounds.open.Goals as goal

pub loop-number-preserved : goal.loop-number-preserved
loop-number-preserved c = record {
  fresh =
      subst (λ ss. AreFresh c.args.image.now 0 ss) (sym c.in_ok-push.ensures.items)
      (fresh_push c.args.image.now c.loop-number.number c.loop-number.seats.items c.first_exit.result c.loop-number.invariant.fresh c.loop-number.invariant.many c.first_exit.ensures.vcpu c.first_exit.ensures.page);
  many = grind (arith, common_steps);
}
