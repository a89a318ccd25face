-- Low bits by masks.
use Rattle.std.proofs.Common.{◌≡◌, ℕ, ◌-◌, ◌*◌, ◌/◌, ◌%◌, ◌^◌, ◌<◌, ◌∙◌, arith}
use Rattle.std.specs.Prelude.{bit_and, bit_or}
use Rattle.std.proofs.lemmas.Nat.{and_mask, or_shifted}
use Rattle.std.proofs.lemmas.Nat.Bits.{and_high_mask}
use Rattle.std.specs.Int.Bits.{and_zero_r}
use Rattle.x86_base.specs.declared.reg.Width.{Width}
use Rattle.x86_base.specs.declared.reg.Width.TheVariants.{B8, B16, B32, B64}
use Rattle.x86_base.specs.Registers.{merged}
use Rattle.x86_base.specs.Widths.{bits_of, low}

pub low_masked : (w : Width) (value : ℕ) → value < 2 ^ 64 → bit_and value (2 ^ bits_of w - 1) ≡ low w value
low_masked B8 value h = and_mask value 8
low_masked B16 value h = and_mask value 16
low_masked B32 value h = and_mask value 32
low_masked B64 value h = and_mask value 64 ∙ omega arith

pub low_fits : (w : Width) (value : ℕ) → value < 2 ^ 64 → low w value < 2 ^ bits_of w
low_fits B8 value h = omega arith
low_fits B16 value h = omega arith
low_fits B32 value h = omega arith
low_fits B64 value h = h

pub kept_8 : (old : ℕ) → old < 2 ^ 64 → bit_and old 0xFFFF_FFFF_FFFF_FF00 ≡ merged B8 old 0
kept_8 old h = and_high_mask 64 8 (omega arith) old h ∙ omega arith

pub kept_16 : (old : ℕ) → old < 2 ^ 64 → bit_and old 0xFFFF_FFFF_FFFF_0000 ≡ merged B16 old 0
kept_16 old h = and_high_mask 64 16 (omega arith) old h ∙ omega arith

pub kept_none : (old : ℕ) → bit_and old 0 ≡ 0
kept_none old = and_zero_r old

pub merged_masked : (w : Width) (old value kept : ℕ) → kept ≡ merged w old 0 → value < 2 ^ 64
    → bit_or kept (low w value) ≡ merged w old value
merged_masked B8 old value kept e h =
    let is : kept ≡ old / 2 ^ 8 * 2 ^ 8 = omega (arith, e) in
    rw is (or_shifted (old / 2 ^ 8) 8 (value % 2 ^ 8) (omega arith))
merged_masked B16 old value kept e h =
    let is : kept ≡ old / 2 ^ 16 * 2 ^ 16 = omega (arith, e) in
    rw is (or_shifted (old / 2 ^ 16) 16 (value % 2 ^ 16) (omega arith))
merged_masked B32 old value kept e h = rw e (or_shifted 0 32 (value % 2 ^ 32) (omega arith) ∙ omega arith)
merged_masked B64 old value kept e h = rw e (or_shifted 0 64 value h ∙ omega arith)
