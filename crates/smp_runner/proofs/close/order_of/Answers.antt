use Rattle.std.proofs.Common.{rules, ◌≡◌, ◌+◌, suc, Some, arith}
use Rattle.smp_runner.proofs.Closing.{turn_read, turns_read}
use Rattle.smp_runner.proofs.close.order_of.Goals as goal

pub loop-index-preserved : goal.loop-index-preserved
loop-index-preserved g c = λ log told.
    let there : c.turn_at.result ≡ Some c.unwrap.result = search rules in
    let one : c.loop-index.index + 1 ≡ suc c.loop-index.index = omega arith in
    turn_read (g.H.Host.told c.args.host.now).history log c.turn_at.result c.unwrap.result c.loop-index.index (c.loop-index.index + 1) c.loop-index.order.items c.push.new.self.items
    told c.turn_at.ensures.turn there c.in_ok-push.ensures.items one (c.loop-index.invariant log told)

pub returns : goal.returns
returns g c = record {
  turns = λ log told.
      let all : c.loop-index.index ≡ c.turns-index-end.result = search rules in
      turns_read (g.H.Host.told c.args.host.now).history log c.turns-index-end.result c.loop-index.index c.loop-index.order.items told c.turns-index-end.ensures.count all (c.loop-index.invariant log told);
}
