-- The table of operations of n-bit numbers: the result, and the flags after it (APM volume 3, chapter 3).
use Rattle.std.specs.Prelude.{ℕ, ◌-◌, ◌^◌, Bool, if◌then◌else◌, ◌==◌, bit_and, bit_or, bit_xor}
use Rattle.x86_base.specs.declared.flags.Flags.{Flags}
use Rattle.alu_ops.specs.declared.op.AluOp.{AluOp}
use Rattle.alu_ops.specs.declared.op.AluOp.TheVariants.{Add, Or, Adc, Sbb, And, Sub, Xor, Cmp, Test, Inc, Dec, Neg, Not, Shl, Shr, Sar, Imul}
use Rattle.alu_ops.specs.declared.outcome.Outcome.{Outcome}
use Rattle.alu_ops.specs.Outcome.{outcome_of_sum, difference_of, product_of, plain_of, shift_count_of, shl_of, shr_of, sar_of, all_set, carry_kept}

-- the carry flag as a number
abbrev pub operand_at : Bool → ℕ
operand_at flag = if flag then 1 else 0

-- a shift by 0 changes nothing
abbrev pub shifted : ℕ → Flags → ℕ → (ℕ → Outcome) → ℕ → ℕ × Flags
shifted n old a shift c = if c == 0 then (a, old) else all_set n old (shift c)

abbrev pub alu_of : ℕ → AluOp → ℕ → ℕ → Flags → ℕ × Flags
alu_of n Add a b f = all_set n f (outcome_of_sum n a b 0)
alu_of n Or a b f = all_set n f (plain_of (bit_or a b))
alu_of n Adc a b f = all_set n f (outcome_of_sum n a b (operand_at f.cf))
alu_of n Sbb a b f = all_set n f (difference_of n a b (operand_at f.cf))
alu_of n And a b f = all_set n f (plain_of (bit_and a b))
alu_of n Sub a b f = all_set n f (difference_of n a b 0)
alu_of n Xor a b f = all_set n f (plain_of (bit_xor a b))
alu_of n Cmp a b f = all_set n f (difference_of n a b 0)
alu_of n Test a b f = all_set n f (plain_of (bit_and a b))
alu_of n Inc a b f = carry_kept n f (outcome_of_sum n a 1 0)
alu_of n Dec a b f = carry_kept n f (difference_of n a 1 0)
alu_of n Neg a b f = all_set n f (difference_of n 0 a 0)
alu_of n Not a b f = (2 ^ n - 1 - a, f)
alu_of n Shl a b f = shifted n f a (shl_of n a) (shift_count_of n b)
alu_of n Shr a b f = shifted n f a (shr_of n a) (shift_count_of n b)
alu_of n Sar a b f = shifted n f a (sar_of n a) (shift_count_of n b)
alu_of n Imul a b f = all_set n f (product_of n a b)
