-- What holds of every row of the table, and so of every spelling.
use Rattle.std.proofs.Common.{◌≡◌, ℕ, ◌%◌, ◌<◌, Bool, true, false, cond, List, [], ◌∷◌, Option, Some, None, sym, subst, inl, inr, arith}
use Rattle.std.specs.Prelude.{◌==◌, unwrap_or}
use Rattle.x86_base.specs.declared.insn.Insn.{Insn}
use Rattle.x86_base.specs.declared.op.Op.{Op}
use Rattle.x86_base.specs.declared.op.Op.TheVariants as op
use Rattle.x86_base.specs.declared.row.Ops.{Ops}
use Rattle.x86_base.specs.declared.row.Ops.TheVariants.{One, OnlyZero, Arithmetic, Shift, TestNotNeg, IncDec}
use Rattle.x86_base.specs.declared.row.Row.{Row}
use Rattle.x86_base.specs.Table.{opcode_row, one_byte, two_bytes, three_bytes, row_00_to_3F, row_40_to_BF, row_C0_to_FF, arithmetic_of, op_at}
use Rattle.x86_base.specs.ModRm.{modrm, reg_bits}
use Rattle.x86_base.specs.Operands.{insn_of}
use Rattle.x86_base.specs.Spelling.{Spells}
use Rattle.insn_decode.specs.Laws.{HasCondition}
use Rattle.insn_decode.proofs.Rows.{OnRow, OnRow-cond, OnRow-some}
use Rattle.insn_decode.proofs.Tests.{bool_cases}

-- a fact of the three maps is one of every row
every_row : (P : Row → Type 0) → ((b : ℕ) → OnRow P (one_byte b)) → ((b : ℕ) → OnRow P (two_bytes b)) → ((b : ℕ) → OnRow P (three_bytes b)) →
    (s : List ℕ) (r : Row) → opcode_row s ≡ Some r → P r
every_row P one two three [] r e = absurd cc
every_row P one two three (b ∷ []) r e = OnRow-some P (one_byte b) r (one b) e
every_row P one two three (b ∷ c ∷ []) r e = elim (bool_cases (b == 0x0F)) [
  | inl holds ↦ OnRow-some P (two_bytes c) r (two c) (rw holds at e)
  | inr fails ↦ absurd (let f = rw fails at e in cc)
]
every_row P one two three (b ∷ c ∷ d ∷ []) r e = elim (bool_cases (b == 0x0F)) [
  | inl holds ↦ elim (bool_cases (c == 1)) [
    | inl second ↦ OnRow-some P (three_bytes d) r (three d) (rw (holds, second) at e)
    | inr other ↦ absurd (let f = rw (holds, other) at e in cc)
  ]
  | inr fails ↦ absurd (let f = rw fails at e in cc)
]
every_row P one two three (b ∷ c ∷ d ∷ k ∷ s) r e = absurd cc

-- ---- conditions

HasCondition-cond : (t : Bool) (x y : Op) → HasCondition x → HasCondition y → HasCondition (cond t x y)
HasCondition-cond true x y p q = p
HasCondition-cond false x y p q = q

arithmetic-condition : (k : ℕ) → HasCondition (arithmetic_of k)
arithmetic-condition k = search HasCondition-cond depth 20

-- the operations of a row have conditions
abbrev OpsHave : Ops → Type 0
OpsHave (One o) = HasCondition o
OpsHave (OnlyZero o) = HasCondition o
OpsHave _ = Unit {0}

abbrev RowHas : Row → Type 0
RowHas r = OpsHave r.ops

row_00_to_3F-condition : (b : ℕ) → OnRow RowHas (row_00_to_3F b)
unfolding row_00_to_3F
row_00_to_3F-condition b = search (OnRow-cond, arithmetic-condition) depth 40

below_16 : (b : ℕ) → b % 16 < 16
below_16 b = omega arith

row_40_to_BF-condition : (b : ℕ) → OnRow RowHas (row_40_to_BF b)
unfolding row_40_to_BF
row_40_to_BF-condition b = search (OnRow-cond, below_16) depth 60

row_C0_to_FF-condition : (b : ℕ) → OnRow RowHas (row_C0_to_FF b)
unfolding row_C0_to_FF
row_C0_to_FF-condition b = search OnRow-cond depth 60 fits 10000

one_byte-condition : (b : ℕ) → OnRow RowHas (one_byte b)
one_byte-condition b = search (OnRow-cond, row_00_to_3F-condition, row_40_to_BF-condition, row_C0_to_FF-condition)

two_bytes-condition : (b : ℕ) → OnRow RowHas (two_bytes b)
unfolding two_bytes
two_bytes-condition b = search (OnRow-cond, below_16) depth 60

three_bytes-condition : (b : ℕ) → OnRow RowHas (three_bytes b)
unfolding three_bytes
three_bytes-condition b = search OnRow-cond

-- the operation at some reg bits has its condition
abbrev SomeHas : Option Op → Type 0
SomeHas None = Unit {0}
SomeHas (Some o) = HasCondition o

SomeHas-cond : (t : Bool) (x y : Option Op) → SomeHas x → SomeHas y → SomeHas (cond t x y)
SomeHas-cond true x y p q = p
SomeHas-cond false x y p q = q

SomeHas-unwrap : (o : Option Op) → SomeHas o → HasCondition (unwrap_or o op.Nop)
SomeHas-unwrap None p = tt
SomeHas-unwrap (Some o) p = p

op_at-condition : (ops : Ops) (reg : ℕ) → OpsHave ops → SomeHas (op_at ops reg)
op_at-condition (One o) reg p = p
op_at-condition (OnlyZero o) reg p = SomeHas-cond (reg == 0) (Some o) None p tt
op_at-condition Arithmetic reg p = arithmetic-condition reg
op_at-condition Shift reg p = search SomeHas-cond depth 20
op_at-condition TestNotNeg reg p = search SomeHas-cond depth 20
op_at-condition IncDec reg p = search SomeHas-cond depth 20

pub has_condition : (bytes : List ℕ) (insn : Insn) → Spells bytes insn → HasCondition insn.op
unfolding insn_of
has_condition bytes insn h =
    let has : RowHas h.row = every_row RowHas one_byte-condition two_bytes-condition three_bytes-condition h.opcode h.row h.is_row in
    let reg = reg_bits (modrm h.row h.tail) in
    subst (λ (i : Insn). HasCondition i.op) (sym h.gives) (SomeHas-unwrap (op_at h.row.ops reg) (op_at-condition h.row.ops reg has))
