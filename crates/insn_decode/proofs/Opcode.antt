-- The opcode bytes.
use Rattle.std.proofs.Common.{◌≡◌, ℕ, true, false, List, [], ◌∷◌, ◌++◌, Option, Some, None, Ok, Err, refl, sym, ap, ◌∙◌, subst, inl, inr, arith}
use Rattle.std.specs.Prelude.{◌==◌}
use Rattle.std.proofs.lemmas.Bool.Decides.{nat_tests}
use Rattle.x86_base.specs.declared.row.Context.{Context}
use Rattle.x86_base.specs.declared.row.Row.{Row}
use Rattle.insn_decode.specs.declared.reader.Refusal.TheVariants.{End, Never}
use Rattle.x86_base.specs.ModRm.{allows}
use Rattle.x86_base.specs.Rows.{row, plain, o, o_r}
use Rattle.x86_base.specs.Notation.{Gv_Ev, Yz_DX, no_operands}
use Rattle.x86_base.specs.Table.{opcode_row, one_byte, two_bytes, three_bytes, row_00_to_3F, row_40_to_BF}
use Rattle.x86_base.specs.declared.op.Op.TheVariants as op
use Rattle.x86_base.specs.declared.row.Ops.TheVariants.{One}
use Rattle.insn_decode.specs.Reading.{chosen, third_at, second_at, opcode_at}
use Rattle.insn_decode.proofs.Decides.{Front, Longer, Decides, ok_pair}
use Rattle.insn_decode.proofs.Rows.{OnRow, OnRow-cond, OnRow-some}
use Rattle.insn_decode.proofs.Tests.{bool_cases, past, passed, stopped, stops}

pub record IsOpcode (c : Context) (s : List ℕ) (r : Row) : Type 0 where
  pub is_row : opcode_row s ≡ Some r
  pub is_allowed : allows c r ≡ true

chosen_ok : (c : Context) (o : Option Row) (bs rest : List ℕ) (r : Row) → chosen c o bs ≡ Ok (r, rest) → (o ≡ Some r) × (allows c r ≡ true) × (bs ≡ rest)
unfolding chosen
chosen_ok c None bs rest r e = absurd cc
chosen_ok c (Some q) bs rest r e =
    elim (bool_cases (allows c q)) [
      | inl holds ↦ let f = ok_pair q r bs rest (rw holds at e) in (ap (λ (x : Row). Some x) f.0, subst (λ (x : Row). allows c x ≡ true) f.0 holds, f.1)
      | inr fails ↦ absurd (let f = rw fails at e in cc)
    ]

chosen_again : (c : Context) (o : Option Row) (bs : List ℕ) (r : Row) → o ≡ Some r → allows c r ≡ true → chosen c o bs ≡ Ok (r, bs)
unfolding chosen
chosen_again c o bs r is holds = rw (is, holds) refl

chosen_end : (c : Context) (o : Option Row) (bs : List ℕ) → chosen c o bs ≡ Err End → ⊥
unfolding chosen
chosen_end c None bs e = absurd cc
chosen_end c (Some q) bs e = elim (bool_cases (allows c q)) [ inl holds ↦ absurd (let f = rw holds at e in cc) | inr fails ↦ absurd (let f = rw fails at e in cc) ]

chosen_never : (c : Context) (o : Option Row) (bs more : List ℕ) → chosen c o bs ≡ Err Never → chosen c o (bs ++ more) ≡ Err Never
unfolding chosen
chosen_never c None bs more e = refl
chosen_never c (Some q) bs more e = elim (bool_cases (allows c q)) [ inl holds ↦ absurd (let f = rw holds at e in cc) | inr fails ↦ rw fails refl ]

-- ---- what the tables have at their ends

one_byte-escape : one_byte 0x0F ≡ None
unfolding row_00_to_3F
one_byte-escape = refl

two_bytes-escape : two_bytes 1 ≡ None
unfolding two_bytes
two_bytes-escape = refl

two_bytes-rep : (b : ℕ) → OnRow (λ r. r.rep ≡ false) (two_bytes b)
unfolding two_bytes
two_bytes-rep b = search OnRow-cond depth 40

three_bytes-marks : (b : ℕ) → OnRow (λ r. (r.rep ≡ false) × (r.size ≡ false)) (three_bytes b)
unfolding three_bytes
three_bytes-marks b = search OnRow-cond

three_bytes-size : (b : ℕ) → OnRow (λ r. r.size ≡ false) (three_bytes b)
unfolding three_bytes
three_bytes-size b = search OnRow-cond

-- rows that complete an opcode
abbrev imul : Row
imul = row (One op.Imul) Gv_Ev o

abbrev vmmcall : Row
vmmcall = row (One op.Vmmcall) no_operands plain

abbrev ins : Row
ins = row (One op.Ins) Yz_DX o_r

allows-imul : (c : Context) → c.rep ≡ false → allows c imul ≡ true
allows-imul c e = grind arith

allows-vmmcall : (c : Context) → c.rep ≡ false → c.size ≡ false → allows c vmmcall ≡ true
allows-vmmcall c e h = grind arith

-- what the marks say
allows-rep : (c : Context) (r : Row) → r.rep ≡ false → allows c r ≡ true → c.rep ≡ false
allows-rep c r e h = grind arith

allows-size : (c : Context) (r : Row) → r.size ≡ false → allows c r ≡ true → c.size ≡ false
allows-size c r e h = grind arith

pub is_15 : (b : ℕ) → (b == 0x0F) ≡ true → b ≡ 0x0F
is_15 b h = grind (arith, nat_tests)

is_1 : (b : ℕ) → (b == 1) ≡ true → b ≡ 1
is_1 b h = grind (arith, nat_tests)

-- no row is the byte 0F alone, nor 0F 01 alone
not_escape : (b : ℕ) (r : Row) → one_byte b ≡ Some r → (b == 0x0F) ≡ false
not_escape b r e = elim (bool_cases (b == 0x0F)) [
  | inl holds ↦ absurd (let f : one_byte 0x0F ≡ Some r = subst (λ (n : ℕ). one_byte n ≡ Some r) (is_15 b holds) e in let g = sym one_byte-escape ∙ f in cc)
  | inr fails ↦ fails
]

not_second_escape : (b : ℕ) (r : Row) → two_bytes b ≡ Some r → (b == 1) ≡ false
not_second_escape b r e = elim (bool_cases (b == 1)) [
  | inl holds ↦ absurd (let f : two_bytes 1 ≡ Some r = subst (λ (n : ℕ). two_bytes n ≡ Some r) (is_1 b holds) e in let g = sym two_bytes-escape ∙ f in cc)
  | inr fails ↦ fails
]

-- ---- what is read is an opcode

third_sound : (c : Context) (b d : ℕ) (bs rest : List ℕ) (r : Row) → (b == 0x0F) ≡ true → (d == 1) ≡ true → third_at c bs ≡ Ok (r, rest) → Front (IsOpcode c) (b ∷ d ∷ bs) r rest
unfolding third_at
third_sound c b d [] rest r is_escape is_one e = elim (bool_cases c.size) [
  | inl holds ↦ absurd (let f = stopped c.size _ _ _ holds e in cc)
  | inr fails ↦ absurd (let f = passed c.size _ _ _ fails e in cc)
]
third_sound c b d (k ∷ bs) rest r is_escape is_one e =
    let f = chosen_ok c (three_bytes k) bs rest r e in
    record { front = b ∷ d ∷ k ∷ []; split = ap (λ (t : List ℕ). b ∷ d ∷ k ∷ t) f.2; spelled = record { is_row = rw (is_escape, is_one) f.0; is_allowed = f.1 } }

second_sound : (c : Context) (b : ℕ) (bs rest : List ℕ) (r : Row) → (b == 0x0F) ≡ true → second_at c bs ≡ Ok (r, rest) → Front (IsOpcode c) (b ∷ bs) r rest
unfolding second_at
second_sound c b [] rest r is_escape e = absurd cc
second_sound c b (d ∷ bs) rest r is_escape e = elim (bool_cases (d == 1)) [
  | inl holds ↦ third_sound c b d bs rest r is_escape holds (rw holds at e)
  | inr fails ↦
      let f = chosen_ok c (two_bytes d) bs rest r (rw fails at e) in
      record { front = b ∷ d ∷ []; split = ap (λ (t : List ℕ). b ∷ d ∷ t) f.2; spelled = record { is_row = rw is_escape f.0; is_allowed = f.1 } }
]

opcode_sound : (c : Context) (bs rest : List ℕ) (r : Row) → opcode_at c bs ≡ Ok (r, rest) → Front (IsOpcode c) bs r rest
unfolding opcode_at
opcode_sound c [] rest r e = absurd cc
opcode_sound c (b ∷ bs) rest r e = elim (bool_cases (b == 0x0F)) [
  | inl holds ↦
      let f = rw holds at e in
      elim (bool_cases c.rep) [
        | inl rep ↦ absurd (let g = stopped c.rep _ _ _ rep f in cc)
        | inr rep ↦ second_sound c b bs rest r holds (passed c.rep _ _ _ rep f)
      ]
  | inr fails ↦
      let f = chosen_ok c (one_byte b) bs rest r (rw fails at e) in
      record { front = b ∷ []; split = ap (λ (t : List ℕ). b ∷ t) f.2; spelled = record { is_row = f.0; is_allowed = f.1 } }
]

-- ---- an opcode is read

opcode_complete : (c : Context) (s rest : List ℕ) (r : Row) → IsOpcode c s r → opcode_at c (s ++ rest) ≡ Ok (r, rest)
unfolding opcode_at second_at third_at
opcode_complete c [] rest r h = absurd (let e = h.is_row in cc)
opcode_complete c (b ∷ []) rest r h =
    rw (not_escape b r h.is_row) (chosen_again c (one_byte b) rest r h.is_row h.is_allowed)
opcode_complete c (b ∷ d ∷ []) rest r h = elim (bool_cases (b == 0x0F)) [
  | inl holds ↦
      let e : two_bytes d ≡ Some r = rw holds at h.is_row in
      let rep = allows-rep c r (OnRow-some (λ r. r.rep ≡ false) (two_bytes d) r (two_bytes-rep d) e) h.is_allowed in
      rw holds (past c.rep _ _ _ rep (rw (not_second_escape d r e) (chosen_again c (two_bytes d) rest r e h.is_allowed)))
  | inr fails ↦ absurd (let e = rw fails at h.is_row in cc)
]
opcode_complete c (b ∷ d ∷ k ∷ []) rest r h = elim (bool_cases (b == 0x0F)) [
  | inl holds ↦ elim (bool_cases (d == 1)) [
    | inl one ↦
        let e : three_bytes k ≡ Some r = rw (holds, one) at h.is_row in
        let marks = OnRow-some (λ r. (r.rep ≡ false) × (r.size ≡ false)) (three_bytes k) r (three_bytes-marks k) e in
        let rep = allows-rep c r marks.0 h.is_allowed in
        rw holds (past c.rep _ _ _ rep (rw one (chosen_again c (three_bytes k) rest r e h.is_allowed)))
    | inr other ↦ absurd (let e = rw (holds, other) at h.is_row in cc)
  ]
  | inr fails ↦ absurd (let e = rw fails at h.is_row in cc)
]
opcode_complete c (b ∷ d ∷ k ∷ j ∷ s) rest r h = absurd (let e = h.is_row in cc)

-- ---- more bytes complete an opcode

third_ends : (c : Context) (b d : ℕ) (bs : List ℕ) → (b == 0x0F) ≡ true → (d == 1) ≡ true → c.rep ≡ false → third_at c bs ≡ Err End → Longer (IsOpcode c) (b ∷ d ∷ bs)
unfolding third_at three_bytes
third_ends c b d [] is_escape is_one rep e = elim (bool_cases c.size) [
  | inl holds ↦ absurd (let f = stopped c.size _ _ _ holds e in cc)
  | inr fails ↦ record { more = 0xD9 ∷ []; are_bytes = refl; value = vmmcall; spelled = record { is_row = rw (is_escape, is_one) refl; is_allowed = allows-vmmcall c rep fails } }
]
third_ends c b d (k ∷ bs) is_escape is_one rep e = absurd (chosen_end c (three_bytes k) bs e)

second_ends : (c : Context) (b : ℕ) (bs : List ℕ) → (b == 0x0F) ≡ true → c.rep ≡ false → second_at c bs ≡ Err End → Longer (IsOpcode c) (b ∷ bs)
unfolding second_at two_bytes
second_ends c b [] is_escape rep e = record { more = 0xAF ∷ []; are_bytes = refl; value = imul; spelled = record { is_row = rw is_escape refl; is_allowed = allows-imul c rep } }
second_ends c b (d ∷ bs) is_escape rep e = elim (bool_cases (d == 1)) [
  | inl holds ↦ third_ends c b d bs is_escape holds rep (rw holds at e)
  | inr fails ↦ absurd (chosen_end c (two_bytes d) bs (rw fails at e))
]

opcode_ends : (c : Context) (bs : List ℕ) → opcode_at c bs ≡ Err End → Longer (IsOpcode c) bs
unfolding opcode_at row_40_to_BF
opcode_ends c [] e = record { more = 0x6D ∷ []; are_bytes = refl; value = ins; spelled = record { is_row = refl; is_allowed = refl } }
opcode_ends c (b ∷ bs) e = elim (bool_cases (b == 0x0F)) [
  | inl holds ↦
      let f = rw holds at e in
      elim (bool_cases c.rep) [
        | inl rep ↦ absurd (let g = stopped c.rep _ _ _ rep f in cc)
        | inr rep ↦ second_ends c b bs holds rep (passed c.rep _ _ _ rep f)
      ]
  | inr fails ↦ absurd (chosen_end c (one_byte b) bs (rw fails at e))
]

-- ---- a refusal stands

chosen_refused : (c : Context) (o : Option Row) (bs : List ℕ) → OnRow (λ r. r.size ≡ false) o → c.size ≡ true → chosen c o bs ≡ Err Never
unfolding chosen
chosen_refused c None bs h size = refl
chosen_refused c (Some r) bs h size = past (allows c r) _ _ _ (refused c r h size) refl
  where
    refused : (c : Context) (r : Row) → r.size ≡ false → c.size ≡ true → allows c r ≡ false
    refused c r h size = grind arith

third_never : (c : Context) (bs more : List ℕ) → third_at c bs ≡ Err Never → third_at c (bs ++ more) ≡ Err Never
unfolding third_at
third_never c [] [] e = e
third_never c [] (k ∷ more) e = elim (bool_cases c.size) [
  | inl holds ↦ chosen_refused c (three_bytes k) more (three_bytes-size k) holds
  | inr fails ↦ absurd (let f = passed c.size _ _ _ fails e in cc)
]
third_never c (k ∷ bs) more e = chosen_never c (three_bytes k) bs more e

second_never : (c : Context) (bs more : List ℕ) → second_at c bs ≡ Err Never → second_at c (bs ++ more) ≡ Err Never
unfolding second_at
second_never c [] more e = absurd cc
second_never c (d ∷ bs) more e = elim (bool_cases (d == 1)) [
  | inl holds ↦ rw holds (third_never c bs more (rw holds at e))
  | inr fails ↦ rw fails (chosen_never c (two_bytes d) bs more (rw fails at e))
]

opcode_never : (c : Context) (bs more : List ℕ) → opcode_at c bs ≡ Err Never → opcode_at c (bs ++ more) ≡ Err Never
unfolding opcode_at
opcode_never c [] more e = absurd cc
opcode_never c (b ∷ bs) more e = elim (bool_cases (b == 0x0F)) [
  | inl holds ↦
      let f = rw holds at e in
      rw holds (elim (bool_cases c.rep) [
        | inl rep ↦ stops c.rep _ _ _ rep refl
        | inr rep ↦ past c.rep _ _ _ rep (second_never c bs more (passed c.rep _ _ _ rep f))
      ])
  | inr fails ↦ rw fails (chosen_never c (one_byte b) bs more (rw fails at e))
]

pub opcode_decides : (c : Context) → Decides (IsOpcode c) (opcode_at c)
opcode_decides c = record { sound = opcode_sound c; complete = opcode_complete c; ends = opcode_ends c; never = opcode_never c }
