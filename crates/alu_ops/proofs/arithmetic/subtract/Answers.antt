use Rattle.std.proofs.Common.{◌≡◌, pos, ◌-ℤ◌, ◌-◌, ◌^◌, ap, ◌∙◌, refl, arith}
use Rattle.std.proofs.lemmas.Int.{ints}
use Rattle.alu_ops.specs.Number.{modulo}
use Rattle.alu_ops.proofs.Overflow.{difference_overflow, twice_half}
use Rattle.alu_ops.proofs.arithmetic.subtract.Goals as goal

pub returns : goal.returns
returns g c =
    let n = g.row.BITS in
    let value : c.wrapped-value.result ≡ modulo n (pos c.args.a -ℤ pos c.args.b -ℤ pos c.args.borrow) =
    c.wrapped-value.ensures.value ∙ ap (modulo n) (omega (arith, ints)) in
    let overflow = difference_overflow n (2 ^ (n - 1)) c.args.a c.args.b c.args.borrow c.wrapped-value.result refl
    (twice_half n c.requires.width) c.requires.left c.requires.right c.requires.borrow value in
    cc
