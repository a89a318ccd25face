-- What an opcode begins with: no prefix and no REX byte.
use Rattle.std.proofs.Common.{◌≡◌, ℕ, zero, suc, ◌+◌, ◌-◌, ◌<◌, ◌≤◌, Bool, true, false, List, [], ◌∷◌, ◌++◌, Option, Some, None, refl, sym, ap, ◌∙◌, subst, inl, inr, arith}
use Rattle.std.specs.Prelude.{◌⊎◌, ◌==◌, ◌&&◌, is_none}
use Rattle.std.proofs.lemmas.Bool.Decides.{nat_tests}
use Rattle.x86_base.specs.declared.row.Row.{Row}
use Rattle.x86_base.specs.Spelling.{is_prefix}
use Rattle.x86_base.specs.Table.{opcode_row, one_byte, row_40_to_BF, row_C0_to_FF}
use Rattle.insn_decode.proofs.Opcode.{is_15}
use Rattle.insn_decode.proofs.Tests.{bool_cases}
use Rattle.insn_decode.proofs.Prefixes.{Starts, is_rex}

-- a test that computes over a range
abbrev all_below : ℕ → (ℕ → Bool) → Bool
all_below zero f = true
all_below (suc n) f = f n && all_below n f

all_below-at : (n : ℕ) (f : ℕ → Bool) → all_below n f ≡ true → (k : ℕ) → k < n → f k ≡ true
all_below-at zero f e k lt = absurd (omega arith)
all_below-at (suc n) f e k lt = elim (bool_cases (f n)) [
  | inl holds ↦ elim (at_or_below k n lt) [
    | inl here ↦ rw here holds
    | inr below ↦ all_below-at n f (rw holds at e) k below
  ]
  | inr fails ↦ absurd (let g = rw fails at e in cc)
]
  where
    at_or_below : (k n : ℕ) → k < suc n → (k ≡ n) ⊎ (k < n)
    at_or_below k n lt = grind arith

abbrev is_free : ℕ → Bool
is_free k = is_none (one_byte (0x40 + k))

free_none : (o : Option Row) → is_none o ≡ true → o ≡ None
free_none None e = refl
free_none (Some r) e = absurd cc

rex_bounds : (b : ℕ) → is_rex b ≡ true → (0x40 ≤ b) × (b - 0x40 < 16)
rex_bounds b h = grind (arith, nat_tests)

-- no opcode is a REX byte
pub rex_free : (b : ℕ) → is_rex b ≡ true → one_byte b ≡ None
unfolding row_40_to_BF
rex_free b h =
    let k = rex_bounds b h in
    let e : 0x40 + (b - 0x40) ≡ b = omega (arith, k.0) in
    subst (λ (n : ℕ). one_byte n ≡ None) e (free_none (one_byte (0x40 + (b - 0x40))) (all_below-at 16 is_free refl (b - 0x40) k.1))

-- the first byte of an opcode passes no test that holds of no row's first byte nor of 0F
pub opcode_starts : (test : ℕ → Bool) → test 0x0F ≡ false → ((b : ℕ) → test b ≡ true → one_byte b ≡ None) →
    (s : List ℕ) (r : Row) → opcode_row s ≡ Some r → Starts test s
opcode_starts test escape free [] r e = absurd cc
opcode_starts test escape free (b ∷ []) r e = record {
  first = b;
  rest = [];
  is = refl;
  other = elim (bool_cases (test b)) [
    | inl holds ↦ absurd (let f = sym (free b holds) ∙ e in cc)
    | inr fails ↦ fails
  ];
}
opcode_starts test escape free (b ∷ d ∷ []) r e = record {
  first = b;
  rest = d ∷ [];
  is = refl;
  other = elim (bool_cases (b == 0x0F)) [
    | inl holds ↦ ap test (is_15 b holds) ∙ escape
    | inr fails ↦ absurd (let f = rw fails at e in cc)
  ];
}
opcode_starts test escape free (b ∷ d ∷ k ∷ []) r e = record {
  first = b;
  rest = d ∷ k ∷ [];
  is = refl;
  other = elim (bool_cases (b == 0x0F)) [
    | inl holds ↦ ap test (is_15 b holds) ∙ escape
    | inr fails ↦ absurd (let f = rw fails at e in cc)
  ];
}
opcode_starts test escape free (b ∷ d ∷ k ∷ j ∷ s) r e = absurd cc

pub prefix_free : (b : ℕ) → is_prefix b ≡ true → one_byte b ≡ None
unfolding row_40_to_BF row_C0_to_FF
prefix_free b h = elim (is_either b h) [ inl e ↦ rw e refl | inr e ↦ rw e refl ]
  where
    is_either : (b : ℕ) → is_prefix b ≡ true → (b ≡ 0x66) ⊎ (b ≡ 0xF3)
    is_either b h = grind (arith, nat_tests)

pub rex_no_prefix : (b : ℕ) → is_rex b ≡ true → is_prefix b ≡ false
rex_no_prefix b h = grind (arith, nat_tests)

pub starts_append : (test : ℕ → Bool) (s t whole : List ℕ) → whole ≡ s ++ t → Starts test s → Starts test whole
starts_append test s t whole e h = record { first = h.first; rest = h.rest ++ t; is = e ∙ ap (λ (u : List ℕ). u ++ t) h.is; other = h.other }
