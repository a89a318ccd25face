-- The bytes behind the opcode.
use Rattle.std.proofs.Common.{◌≡◌, ℕ, zero, suc, ◌-◌, ◌<◌, ◌≤◌, Bool, true, false, List, [], ◌∷◌, ◌++◌, length, get_or, take, drop, replicate, Ok, Err, refl, sym, ap, ◌∙◌, inl, inr, arith, length-append}
use Rattle.std.specs.Prelude.{◌==◌, not, ◌&&◌, ◌||◌, nat_lt, is_some}
use Rattle.std.proofs.lemmas.Bool.{ltb-false, ltb-true, le-ltb}
use Rattle.std.proofs.lemmas.Bool.Decides.{nat_tests}
use Rattle.std.proofs.lemmas.List.{take_at, drop_at, take-append-drop, length-take, length-replicate, get_or-take, get_or_append_left}
use Rattle.x86_base.specs.declared.row.Context.{Context}
use Rattle.x86_base.specs.declared.row.Row.{Row}
use Rattle.x86_base.specs.declared.row.Ops.{Ops}
use Rattle.x86_base.specs.declared.row.Ops.TheVariants.{One, OnlyZero, Arithmetic, Shift, TestNotNeg, IncDec}
use Rattle.insn_decode.specs.declared.reader.Refusal.TheVariants.{End, Never}
use Rattle.x86_base.specs.ModRm.{has_modrm, modrm, needs_sib, reg_bits, mode, is_address, accepts, tail_len}
use Rattle.std.specs.List.{list_all}
use Rattle.x86_base.specs.Spelling.{IsTail, is_byte}
use Rattle.x86_base.specs.Table.{op_at}
use Rattle.insn_decode.specs.Reading.{tail_at}
use Rattle.insn_decode.proofs.Decides.{Front, Longer, Decides, ok_pair}
use Rattle.insn_decode.proofs.Tests.{bool_cases, past, passed, stopped, stops}

pub record IsTailOf (c : Context) (r : Row) (s : List ℕ) (y : List ℕ) : Type 0 where
  pub same : y ≡ s
  pub is_tail : IsTail c r s

-- the number of bytes that the front of the bytes asks for
abbrev len_of : Context → Row → List ℕ → ℕ
len_of c r bytes = tail_len c r (modrm r bytes) (get_or bytes 1 0)

-- both have the ModRM and SIB byte that the row reads
record SameFront (r : Row) (a b : List ℕ) : Type 0 where
  first : modrm r a ≡ modrm r b
  second : has_modrm r.form ≡ true → needs_sib (modrm r b) ≡ true → get_or a 1 0 ≡ get_or b 1 0

same_modrm : (r : Row) (a b : List ℕ) → (has_modrm r.form ≡ true → get_or a 0 0 ≡ get_or b 0 0) → modrm r a ≡ modrm r b
same_modrm r a b h = elim (bool_cases (has_modrm r.form)) [
  | inl holds ↦ let e = h holds in rw holds e
  | inr fails ↦ rw fails refl
]

tail_len-no_modrm : (c : Context) (r : Row) (m sib other : ℕ) → has_modrm r.form ≡ false → tail_len c r m sib ≡ tail_len c r m other
tail_len-no_modrm c r m sib other h = rw h refl

tail_len-no_sib : (c : Context) (r : Row) (m sib other : ℕ) → needs_sib m ≡ false → tail_len c r m sib ≡ tail_len c r m other
tail_len-no_sib c r m sib other h = rw h refl

same_len : (c : Context) (r : Row) (a b : List ℕ) → SameFront r a b → len_of c r a ≡ len_of c r b
same_len c r a b s = ap (λ (m : ℕ). tail_len c r m (get_or a 1 0)) s.first ∙ elim (bool_cases (has_modrm r.form)) [
  | inl holds ↦ elim (bool_cases (needs_sib (modrm r b))) [
    | inl sib ↦ ap (tail_len c r (modrm r b)) (s.second holds sib)
    | inr none ↦ tail_len-no_sib c r (modrm r b) (get_or a 1 0) (get_or b 1 0) none
  ]
  | inr fails ↦ tail_len-no_modrm c r (modrm r b) (get_or a 1 0) (get_or b 1 0) fails
]

same_accepts : (r : Row) (a b : List ℕ) → modrm r a ≡ modrm r b → accepts r (modrm r a) ≡ accepts r (modrm r b)
same_accepts r a b e = ap (accepts r) e

-- a row that reads the ModRM byte asks for it, and for the SIB byte
len_of-modrm : (c : Context) (r : Row) (m sib : ℕ) → has_modrm r.form ≡ true → 1 ≤ tail_len c r m sib
len_of-modrm c r m sib h = rw h (elim (bool_cases (needs_sib m)) [ inl holds ↦ rw holds (omega arith) | inr fails ↦ rw fails (omega arith) ])

len_of-sib : (c : Context) (r : Row) (m sib : ℕ) → has_modrm r.form ≡ true → needs_sib m ≡ true → 2 ≤ tail_len c r m sib
len_of-sib c r m sib h holds = rw (h, holds) (omega arith)

same_taken : (c : Context) (r : Row) (bytes : List ℕ) → len_of c r bytes ≤ length bytes → SameFront r (take (len_of c r bytes) bytes) bytes
same_taken c r bytes long = record {
  first = same_modrm r (take (len_of c r bytes) bytes) bytes (λ h. get_or-take (len_of c r bytes) bytes 0 0 (len_of-modrm c r (modrm r bytes) (get_or bytes 1 0) h));
  second = λ h sib. get_or-take (len_of c r bytes) bytes 1 0 (len_of-sib c r (modrm r bytes) (get_or bytes 1 0) h sib);
}

same_longer : (c : Context) (r : Row) (bytes more : List ℕ) → length bytes ≡ len_of c r bytes → SameFront r (bytes ++ more) bytes
same_longer c r bytes more whole = record {
  first = same_modrm r (bytes ++ more) bytes (λ h. let long : 0 < length bytes = omega (arith, len_of-modrm c r (modrm r bytes) (get_or bytes 1 0) h, whole) in get_or_append_left bytes more 0 0 long);
  second = λ h sib. let long : 1 < length bytes = omega (arith, len_of-sib c r (modrm r bytes) (get_or bytes 1 0) h sib, whole) in get_or_append_left bytes more 0 1 long;
}

-- zeros behind the bytes change nothing that is read
padded : (bytes : List ℕ) (n i : ℕ) → get_or (bytes ++ replicate n 0) i 0 ≡ get_or bytes i 0
padded [] zero i = refl
padded [] (suc n) zero = refl
padded [] (suc n) (suc i) = padded [] n i
padded (b ∷ bytes) n zero = refl
padded (b ∷ bytes) n (suc i) = padded bytes n i

same_padded : (r : Row) (bytes : List ℕ) (n : ℕ) → SameFront r (bytes ++ replicate n 0) bytes
same_padded r bytes n = record { first = same_modrm r (bytes ++ replicate n 0) bytes (λ h. padded bytes n 0); second = λ h sib. padded bytes n 1 }

-- ---- the four laws

-- the tests of the reader
abbrev is_missing : Row → List ℕ → Bool
is_missing r bytes = has_modrm r.form && (length bytes == 0)

abbrev is_refused : Row → List ℕ → Bool
is_refused r bytes = not (accepts r (modrm r bytes))

abbrev is_short : Context → Row → List ℕ → Bool
is_short c r bytes = nat_lt (length bytes) (len_of c r bytes)

not-true : (b : Bool) → not b ≡ true → b ≡ false
not-true true e = absurd cc
not-true false e = refl

not-false : (b : Bool) → not b ≡ false → b ≡ true
not-false true e = refl
not-false false e = absurd cc

tail_sound : (c : Context) (r : Row) (bytes rest tail : List ℕ) → tail_at c r bytes ≡ Ok (tail, rest) → Front (IsTailOf c r) bytes tail rest
unfolding tail_at
tail_sound c r bytes rest tail e = elim (bool_cases (is_missing r bytes)) [
  | inl missing ↦ absurd (let f = stopped (is_missing r bytes) _ _ _ missing e in cc)
  | inr here ↦
      let e = passed (is_missing r bytes) _ _ _ here e in
      elim (bool_cases (is_refused r bytes)) [
        | inl refused ↦ absurd (let f = stopped (is_refused r bytes) _ _ _ refused e in cc)
        | inr accepted ↦
            let e = passed (is_refused r bytes) _ _ _ accepted e in
            elim (bool_cases (is_short c r bytes)) [
              | inl short ↦ absurd (let f = stopped (is_short c r bytes) _ _ _ short e in cc)
              | inr long ↦
                  let n = len_of c r bytes in
                  let p = ok_pair (take n bytes) tail (drop n bytes) rest (passed (is_short c r bytes) _ _ _ long e) in
                  let long : n ≤ length bytes = ltb-false _ _ long in
                  let same = same_taken c r bytes long in
                  record {
                    front = take n bytes;
                    split = sym (take-append-drop n bytes) ∙ ap (λ (t : List ℕ). take n bytes ++ t) p.1;
                    spelled = record {
                      same = sym p.0;
                      is_tail = record {
                        accepted = same_accepts r (take n bytes) bytes same.first ∙ not-false (accepts r (modrm r bytes)) accepted;
                        whole = omega (arith, length-take n bytes, same_len c r (take n bytes) bytes same);
                      };
                    };
                  }
            ]
      ]
]

-- where a spelling stands at the front, no test fails
tail_here : (r : Row) (bytes : List ℕ) → (has_modrm r.form ≡ true → 0 < length bytes) → is_missing r bytes ≡ false
tail_here r bytes some = elim (bool_cases (has_modrm r.form)) [
  | inl holds ↦ rw holds (let long : 0 < length bytes = some holds in grind (arith, nat_tests))
  | inr fails ↦ rw fails refl
]

tail_complete : (c : Context) (r : Row) (s rest tail : List ℕ) → IsTailOf c r s tail → tail_at c r (s ++ rest) ≡ Ok (tail, rest)
unfolding tail_at
tail_complete c r s rest tail h =
    let bytes = s ++ rest in
    let same = same_longer c r s rest h.is_tail.whole in
    let len : len_of c r bytes ≡ length s = same_len c r bytes s same ∙ sym h.is_tail.whole in
    let here = tail_here r bytes (λ m. omega (arith, len_of-modrm c r (modrm r s) (get_or s 1 0) m, h.is_tail.whole, length-append s rest)) in
    let accepted : is_refused r bytes ≡ false = ap not (same_accepts r bytes s same.first ∙ h.is_tail.accepted) in
    let long : is_short c r bytes ≡ false = le-ltb _ _ (omega (arith, length-append s rest, len)) in
    past (is_missing r bytes) _ _ _ here (past (is_refused r bytes) _ _ _ accepted (past (is_short c r bytes) _ _ _ long
    (rw (len, take_at s rest (length s) refl, drop_at s rest (length s) refl, h.same) refl)))

bytes-zeros : (n : ℕ) → list_all is_byte (replicate n 0) ≡ true
bytes-zeros zero = refl
bytes-zeros (suc n) = bytes-zeros n

-- bytes that lack only their end
filled : (c : Context) (r : Row) (bytes : List ℕ) → accepts r (modrm r bytes) ≡ true → length bytes ≤ len_of c r bytes → Longer (IsTailOf c r) bytes
filled c r bytes accepted short =
    let n = len_of c r bytes - length bytes in
    let whole = bytes ++ replicate n 0 in
    let same = same_padded r bytes n in
    record {
      more = replicate n 0;
      are_bytes = bytes-zeros n;
      value = whole;
      spelled = record {
        same = refl;
        is_tail = record {
          accepted = same_accepts r whole bytes same.first ∙ accepted;
          whole = omega (arith, length-append bytes (replicate n 0), length-replicate {A = ℕ} n 0, same_len c r whole bytes same);
        };
      };
    }

-- a ModRM byte of the row
modrm_of : Ops → ℕ
modrm_of (One o) = 0
modrm_of (OnlyZero o) = 0
modrm_of Arithmetic = 0
modrm_of TestNotNeg = 0
modrm_of IncDec = 0
modrm_of Shift = 32

modrm_of-op : (ops : Ops) → is_some (op_at ops (reg_bits (modrm_of ops))) ≡ true
unfolding modrm_of
modrm_of-op (One o) = refl
modrm_of-op (OnlyZero o) = refl
modrm_of-op Arithmetic = refl
modrm_of-op TestNotNeg = refl
modrm_of-op IncDec = refl
modrm_of-op Shift = refl

modrm_of-mode : (ops : Ops) → (mode (modrm_of ops) == 3) ≡ false
unfolding modrm_of
modrm_of-mode (One o) = refl
modrm_of-mode (OnlyZero o) = refl
modrm_of-mode Arithmetic = refl
modrm_of-mode TestNotNeg = refl
modrm_of-mode IncDec = refl
modrm_of-mode Shift = refl

modrm_of-byte : (ops : Ops) → is_byte (modrm_of ops) ≡ true
unfolding modrm_of
modrm_of-byte (One o) = refl
modrm_of-byte (OnlyZero o) = refl
modrm_of-byte Arithmetic = refl
modrm_of-byte TestNotNeg = refl
modrm_of-byte IncDec = refl
modrm_of-byte Shift = refl

any_form : (x y : Bool) → (not x || (true && not (y && false))) ≡ true
any_form true true = refl
any_form true false = refl
any_form false y = refl

some_modrm : (r : Row) → accepts r (modrm_of r.ops) ≡ true
some_modrm r = rw (modrm_of-op r.ops, modrm_of-mode r.ops) (any_form (has_modrm r.form) (is_address r.form))

modrm_first : (r : Row) (m : ℕ) → has_modrm r.form ≡ true → modrm r (m ∷ []) ≡ m
modrm_first r m h = rw h refl

-- each row has a tail
pub tail_some : (c : Context) (r : Row) → Longer (IsTailOf c r) []
tail_some c r = elim (bool_cases (has_modrm r.form)) [
  | inl holds ↦
      let m = modrm_of r.ops in
      let f = filled c r (m ∷ []) (ap (accepts r) (modrm_first r m holds) ∙ some_modrm r) (len_of-modrm c r (modrm r (m ∷ [])) 0 holds) in
      record { more = m ∷ f.more; are_bytes = rw (modrm_of-byte r.ops) f.are_bytes; value = f.value; spelled = f.spelled }
  | inr fails ↦ filled c r [] (rw fails refl) (omega arith)
]

tail_ends : (c : Context) (r : Row) (bytes : List ℕ) → tail_at c r bytes ≡ Err End → Longer (IsTailOf c r) bytes
unfolding tail_at
tail_ends c r [] e = tail_some c r
tail_ends c r (b ∷ bs) e =
    let bytes = b ∷ bs in
    let e = passed (is_missing r bytes) _ _ _ (tail_here r bytes (λ m. omega arith)) e in
    elim (bool_cases (is_refused r bytes)) [
      | inl refused ↦ absurd (let f = stopped (is_refused r bytes) _ _ _ refused e in cc)
      | inr accepted ↦
          let e = passed (is_refused r bytes) _ _ _ accepted e in
          elim (bool_cases (is_short c r bytes)) [
            | inl short ↦ filled c r bytes (not-false (accepts r (modrm r bytes)) accepted) (let lt : length bytes < len_of c r bytes = ltb-true _ _ short in omega arith)
            | inr long ↦ absurd (let f = passed (is_short c r bytes) _ _ _ long e in cc)
          ]
    ]

tail_never : (c : Context) (r : Row) (bytes more : List ℕ) → tail_at c r bytes ≡ Err Never → tail_at c r (bytes ++ more) ≡ Err Never
unfolding tail_at
tail_never c r bytes more e = elim (bool_cases (is_missing r bytes)) [
  | inl missing ↦ absurd (let f = stopped (is_missing r bytes) _ _ _ missing e in cc)
  | inr here ↦
      let e = passed (is_missing r bytes) _ _ _ here e in
      elim (bool_cases (is_refused r bytes)) [
        | inl refused ↦
            let some = some_byte r bytes here in
            past (is_missing r (bytes ++ more)) _ _ _ (tail_here r (bytes ++ more) (λ m. omega (arith, some m, length-append bytes more)))
            (stops (is_refused r (bytes ++ more)) _ _ _ (ap not (same_accepts r (bytes ++ more) bytes (same_modrm r (bytes ++ more) bytes (λ m. get_or_append_left bytes more 0 0 (some m)))) ∙ refused) refl)
        | inr accepted ↦
            let e = passed (is_refused r bytes) _ _ _ accepted e in
            elim (bool_cases (is_short c r bytes)) [
              | inl short ↦ absurd (let f = stopped (is_short c r bytes) _ _ _ short e in cc)
              | inr long ↦ absurd (let f = passed (is_short c r bytes) _ _ _ long e in cc)
            ]
      ]
]
  where
    some_byte : (r : Row) (bytes : List ℕ) → is_missing r bytes ≡ false → has_modrm r.form ≡ true → 0 < length bytes
    some_byte r [] e h = absurd (let f = rw h at e in cc)
    some_byte r (b ∷ bs) e h = omega arith

pub tail_decides : (c : Context) (r : Row) → Decides (IsTailOf c r) (tail_at c r)
tail_decides c r = record { sound = tail_sound c r; complete = tail_complete c r; ends = tail_ends c r; never = tail_never c r }
