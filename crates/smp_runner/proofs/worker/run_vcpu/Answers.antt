use Rattle.std.proofs.Common.{rules, ◌≡◌, ◌≢◌}
use Rattle.vcpu_core.specs.declared.vcpu.Progress.TheVariants as progress
use Rattle.smp_runner.proofs.Running.{over_of, waits_of}
use Rattle.smp_runner.proofs.Working.{same_on}
use Rattle.smp_runner.proofs.worker.run_vcpu.Goals as goal

pub returns-in-Ended-clause-ended : goal.returns-in-Ended-clause-ended
returns-in-Ended-clause-ended g c =
    let v = (g.T.Turns.pass c.loop.turns).view in
    let ended : c.go_on.result ≡ progress.Ended = search rules in
    over_of c.args.image.now c.args.budget c.args.number v c.go_on.new.seat c.go_on.result c.go_on.ensures.progress ended (c.go_on.ensures.out c.args.number v c.loop.invariant.ready)

pub exchange-requires-clause-waits : goal.exchange-requires-clause-waits
exchange-requires-clause-waits g c =
    let v = (g.T.Turns.pass c.loop.turns).view in
    let not : c.go_on.result ≢ progress.Ended = search rules in
    waits_of c.args.image.now c.args.budget c.args.number v c.go_on.new.seat c.go_on.result c.go_on.ensures.progress not (c.go_on.ensures.out c.args.number v c.loop.invariant.ready)

pub loop-preserved : goal.loop-preserved
loop-preserved g c = record {
  same = same_on (g.T.Turns.pass c.args.turns.now) (g.T.Turns.pass c.loop.turns) (g.T.Turns.pass c.exchange.new.turns) c.loop.invariant.same c.exchange.ensures.same;
  ready =
      let v = (g.T.Turns.pass c.loop.turns).view in
      let after = c.exchange.ensures.ready c.args.budget (c.go_on.ensures.out c.args.number v c.loop.invariant.ready) in
      search rules;
}
