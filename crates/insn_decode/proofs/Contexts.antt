-- What stands before the opcode, byte by byte and as a whole.
use Rattle.std.proofs.Common.{◌≡◌, ℕ, Bool, true, false, List, [], ◌∷◌, refl, ap, ◌∙◌, inl, inr, arith}
use Rattle.std.specs.Prelude.{◌==◌, ◌||◌}
use Rattle.std.specs.List.{list_all, list_any}
use Rattle.std.proofs.lemmas.Bool.Decides.{nat_tests}
use Rattle.x86_base.specs.declared.row.Context.{Context}
use Rattle.x86_base.specs.Spelling.{is_prefix, context_of}
use Rattle.insn_decode.specs.Reading.{start, marked}
use Rattle.insn_decode.proofs.Tests.{bool_cases}
use Rattle.insn_decode.proofs.Prefixes.{with_rex, marks, all-cons}

or_true : (a : Bool) → (a || true) ≡ true
or_true true = refl
or_true false = refl

or_false : (a : Bool) → (a || false) ≡ a
or_false true = refl
or_false false = refl

or_assoc : (a b c : Bool) → ((a || b) || c) ≡ (a || (b || c))
or_assoc true b c = refl
or_assoc false b c = refl

marked_is : (c : Context) (b : ℕ) → is_prefix b ≡ true → marked c b ≡ record c { size = c.size || (b == 0x66); rep = c.rep || (b == 0xF3) }
marked_is c b h = elim (bool_cases (b == 0x66)) [
  | inl holds ↦
      let other : (b == 0xF3) ≡ false = grind (arith, nat_tests) in
      rw (holds, other) (rw (or_true c.size, or_false c.rep) refl)
  | inr fails ↦
      let other : (b == 0xF3) ≡ true = grind (arith, nat_tests) in
      rw (fails, other) (rw (or_false c.size, or_true c.rep) refl)
]

-- the context after some prefixes, in one step
abbrev after : Context → List ℕ → Context
after c prefixes = record c { size = c.size || list_any (λ b. b == 0x66) prefixes; rep = c.rep || list_any (λ b. b == 0xF3) prefixes }

marks_is : (c : Context) (prefixes : List ℕ) → list_all is_prefix prefixes ≡ true → marks c prefixes ≡ after c prefixes
marks_is c [] h = rw (or_false c.size, or_false c.rep) refl
marks_is c (b ∷ bs) h =
    let k = all-cons b bs h in
    marks_is (marked c b) bs k.1
    ∙ ap (λ (d : Context). after d bs) (marked_is c b k.0)
    ∙ rw (or_assoc c.size (b == 0x66) (list_any (λ b. b == 0x66) bs), or_assoc c.rep (b == 0xF3) (list_any (λ b. b == 0xF3) bs)) refl

pub context_is : (prefixes rex : List ℕ) → list_all is_prefix prefixes ≡ true → with_rex (marks start prefixes) rex ≡ context_of prefixes rex
context_is prefixes [] h = marks_is start prefixes h
context_is prefixes (b ∷ rest) h = ap (λ (c : Context). with_rex c (b ∷ rest)) (marks_is start prefixes h)
