use Rattle.smp_runner.proofs.Running.{hears}
use Rattle.smp_runner.proofs.running_vcpu.exchange.Goals as goal

pub returns-clause-ready : goal.returns-clause-ready
returns-clause-ready g c = λ budget out.
    hears c.agree.ensures.law c.args.image.now budget c.args.number (g.T.Turns.pass c.args.turns.now).view (g.T.Turns.pass c.turn.new.self).view
    c.args.seat.now.vcpu c.resume.new.self c.args.seat.now.page c.turn.new.page c.resume.new.page c.in_ok-turn.field-0
    c.requires.few c.requires.waits c.turn.ensures.learns c.in_ok-turn.ensures.turned c.resume.ensures.runs out
