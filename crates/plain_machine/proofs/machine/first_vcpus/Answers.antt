use Rattle.plain_machine.proofs.Turns.{first_push}
use Rattle.plain_machine.proofs.machine.first_vcpus.Goals as goal

pub loop-number-preserved : goal.loop-number-preserved
loop-number-preserved c = cc (first_push c.args.image.now c.args.budget c.loop-number.number, c.in_ok-push.ensures.items, c.start.ensures.stop, c.loop-number.invariant)
