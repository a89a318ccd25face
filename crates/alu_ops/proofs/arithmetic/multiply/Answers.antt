use Rattle.std.proofs.Common.{◌≡◌, ◌*ℤ◌, ◌≤◌, ◌^◌, ap, ◌∙◌, rules, lit<, FitsSigned, to_z, of_z, ℤ}
use Rattle.std.specs.Prelude.{unsigned_abs}
use Rattle.std.specs.Int.{w128}
use Rattle.std.proofs.lemmas.Int.{to_z-of_z, fits_signed_mul}
use Rattle.alu_ops.specs.Number.{modulo, is_out_of_range}
use Rattle.alu_ops.proofs.arithmetic.multiply.Goals as goal

product_fits : (a b : ℤ) → unsigned_abs a ≤ 2 ^ 63 → unsigned_abs b ≤ 2 ^ 63 → FitsSigned w128 (a *ℤ b)
product_fits a b p q = fits_signed_mul w128 a b (2 ^ 63) (2 ^ 63) p q (lit< tt)

back : (a b : ℤ) → FitsSigned w128 a → FitsSigned w128 b → FitsSigned w128 (a *ℤ b) →
    to_z w128 (of_z w128 (to_z w128 (of_z w128 a) *ℤ to_z w128 (of_z w128 b))) ≡ a *ℤ b
back a b p q r = simp to_z-of_z

pub overflow_mul-product : goal.overflow_mul-product
overflow_mul-product g c =
    let a : FitsSigned w128 c.to_signed.result = search rules in
    let b : FitsSigned w128 c.to_signed-2.result = search rules in
    simp to_z-of_z (product_fits c.to_signed.result c.to_signed-2.result c.to_signed.ensures.magnitude c.to_signed-2.ensures.magnitude)

pub returns : goal.returns
returns g c =
    let n = g.row.BITS in
    let x = c.to_signed.result in
    let y = c.to_signed-2.result in
    let e = back x y (search rules) (search rules) (product_fits x y c.to_signed.ensures.magnitude c.to_signed-2.ensures.magnitude) in
    let value : c.wrapped.result ≡ modulo n (x *ℤ y) = c.wrapped.ensures.value ∙ ap (modulo n) e in
    let out : c.is_out_of_range-is_out.result ≡ is_out_of_range n (x *ℤ y) = c.is_out_of_range-is_out.ensures ∙ ap (is_out_of_range n) e in
    rw (← c.to_signed.ensures.value, ← c.to_signed-2.ensures.value) (cc)
