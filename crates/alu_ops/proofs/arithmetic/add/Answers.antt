use Rattle.std.proofs.Common.{◌≡◌, pos, ◌+ℤ◌, ◌+◌, ◌^◌, ap, ◌∙◌, arith}
use Rattle.std.proofs.lemmas.Int.{ints}
use Rattle.alu_ops.specs.Number.{modulo}
use Rattle.alu_ops.proofs.Overflow.{sum_overflow}
use Rattle.alu_ops.proofs.arithmetic.add.Goals as goal

pub returns : goal.returns
returns g c =
    let n = g.row.BITS in
    let value : c.wrapped-value.result ≡ modulo n (pos c.args.a +ℤ pos c.args.b +ℤ pos c.args.carry) =
    c.wrapped-value.ensures.value ∙ ap (modulo n) {y = pos c.args.a +ℤ pos c.args.b +ℤ pos c.args.carry} (omega (arith, ints)) in
    let limit : c.half-half.result + c.half-half.result ≡ 2 ^ n = c.half-half.ensures.twice in
    let overflow = sum_overflow n c.half-half.result c.args.a c.args.b c.args.carry c.wrapped-value.result c.half-half.ensures.value limit
    c.requires.left c.requires.right c.requires.carry value in
    cc
