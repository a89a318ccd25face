use Rattle.std.proofs.Common.{rules, ◌<◌, ◌≤◌, arith}
use Rattle.smp_runner.proofs.deal.deal.Goals as goal

pub split-pass-requires-clause-of : goal.split-pass-requires-clause-of
split-pass-requires-clause-of g c = c.loop-number.invariant.all.of

pub split-pass-requires-clause-shares : goal.split-pass-requires-clause-shares
split-pass-requires-clause-shares g c =
    let share = c.loop-number.invariant.share in
    let few : c.args.count ≤ 8 = c.requires.few in
    let less : c.loop-number.number < c.args.count = search rules in
    omega (arith, share, few, less)
