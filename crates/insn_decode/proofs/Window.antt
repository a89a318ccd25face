-- What the answer on the first 15 bytes says of all bytes.
use Rattle.std.proofs.Common.{◌≡◌, ℕ, zero, suc, ◌-◌, ◌<◌, ◌≤◌, true, false, List, [], ◌∷◌, ◌++◌, length, get_or, take, drop, Result, Ok, Err, refl, sym, ap, ◌∙◌, subst, inl, inr, arith, append_assoc, length-append}
use Rattle.std.specs.Prelude.{◌↔◌, IfOk, OnOk, nat_lt}
use Rattle.std.proofs.lemmas.Bool.{ltb-false, ltb-true, le-ltb, lt-ltb}
use Rattle.std.proofs.lemmas.List.{take-append-drop, length-take, take_all}
use Rattle.std.proofs.Math.Nat.{sub-zero}
use mir.Syntax.{w8}
use mir.Val.{Fits}
use Rattle.x86_base.specs.declared.insn.Insn.{Insn}
use Rattle.insn_decode.specs.declared.reader.Refusal.{Refusal}
use Rattle.insn_decode.specs.declared.reader.Refusal.TheVariants.{End, Never}
use Rattle.insn_decode.specs.declared.fault.DecodeFault.{DecodeFault}
use Rattle.insn_decode.specs.declared.fault.DecodeFault.TheVariants.{TooLong, Short, Undecoded}
use Rattle.std.specs.List.{list_all}
use Rattle.x86_base.specs.Spelling.{is_byte, AreBytes, Begins, BeginsSpelling}
use Rattle.insn_decode.specs.Refusals.{IsTooLong, IsShort, SpellsNothing}
use Rattle.insn_decode.specs.Reading.{instruction_at, decoded, filled}
use Rattle.insn_decode.proofs.Decides.{front_bytes}
use Rattle.insn_decode.proofs.Tests.{bool_cases}
use Rattle.insn_decode.proofs.Whole.{Found, instruction_found, instruction_again, instruction_ends, begins_ends}

abbrev answer : List ℕ → Result Insn DecodeFault
answer bytes = decoded (length bytes) (instruction_at (take 15 bytes))

ok_only : (len : ℕ) (r : Result Insn Refusal) (insn : Insn) → decoded len r ≡ Ok insn → r ≡ Ok insn
ok_only len (Ok x) insn e = cc
ok_only len (Err End) insn e = elim (bool_cases (nat_lt len 15)) [ inl holds ↦ absurd (let f = rw holds at e in cc) | inr fails ↦ absurd (let f = rw fails at e in cc) ]
ok_only len (Err Never) insn e = absurd cc

short_only : (len : ℕ) (r : Result Insn Refusal) → decoded len r ≡ Err Short → (r ≡ Err End) × (len < 15)
short_only len (Ok x) e = absurd cc
short_only len (Err End) e = elim (bool_cases (nat_lt len 15)) [ inl holds ↦ (refl, ltb-true _ _ holds) | inr fails ↦ absurd (let f = rw fails at e in cc) ]
short_only len (Err Never) e = absurd cc

long_only : (len : ℕ) (r : Result Insn Refusal) → decoded len r ≡ Err TooLong → (r ≡ Err End) × (15 ≤ len)
long_only len (Ok x) e = absurd cc
long_only len (Err End) e = elim (bool_cases (nat_lt len 15)) [ inl holds ↦ absurd (let f = rw holds at e in cc) | inr fails ↦ (refl, ltb-false _ _ fails) ]
long_only len (Err Never) e = absurd cc

begins : (bytes : List ℕ) (insn : Insn) → Found (take 15 bytes) insn → Begins bytes insn
begins bytes insn f = record {
  front = f.front;
  rest = f.rest ++ drop 15 bytes;
  split = sym (take-append-drop 15 bytes) ∙ ap (λ (t : List ℕ). t ++ drop 15 bytes) f.split ∙ append_assoc f.front f.rest (drop 15 bytes);
  short = omega (arith, length-take 15 bytes, ap length f.split, length-append f.front f.rest);
  spelled = f.spelled;
}

if_ok : {P : Insn → Type 0} (r : Result Insn DecodeFault) → ((insn : Insn) → r ≡ Ok insn → P insn) → IfOk r P
if_ok (Ok x) h = h x refl
if_ok (Err e) h = tt

window_bytes : (bytes : List ℕ) → AreBytes bytes → AreBytes (take 15 bytes)
window_bytes bytes are =
    front_bytes (take 15 bytes) (drop 15 bytes) (ap (list_all is_byte) (take-append-drop 15 bytes) ∙ are)

-- the elements of a slice of bytes are bytes
pub slice_bytes : (bytes : List ℕ) → ((i : ℕ) → Fits w8 (get_or bytes i 0)) → AreBytes bytes
slice_bytes [] h = refl
slice_bytes (b ∷ bytes) h =
    let f = h 0 in
    let lt : b < 256 = omega arith in
    rw (lt-ltb _ _ lt) (slice_bytes bytes (λ i. h (suc i)))

answered : (bytes : List ℕ) (insn : Insn) → AreBytes bytes → answer bytes ≡ Ok insn → Begins bytes insn
answered bytes insn are e =
    begins bytes insn (instruction_found (take 15 bytes) insn (window_bytes bytes are) (ok_only (length bytes) (instruction_at (take 15 bytes)) insn e))

pub found : (bytes : List ℕ) → AreBytes bytes → IfOk (answer bytes) (Begins bytes)
found bytes are = if_ok {P = Begins bytes} (answer bytes) (λ insn. answered bytes insn are)

pub found_filled : {A : Type 0} (r : Result A DecodeFault) (bytes : List ℕ) (insn : Insn) → AreBytes bytes
    → filled r insn ≡ answer bytes → OnOk r (Begins bytes insn)
found_filled (Ok done) bytes insn are e = subst (λ (r : Result Insn DecodeFault). IfOk r (Begins bytes)) (sym e) (found bytes are)
found_filled (Err fault) bytes insn are e = tt

pub only : (bytes : List ℕ) (insn : Insn) → Begins bytes insn → answer bytes ≡ Ok insn
only bytes insn b =
    let front : take 15 b.front ≡ b.front = take_all 15 b.front b.short in
    let window : take 15 bytes ≡ b.front ++ take (15 - length b.front) b.rest = ap (take 15) b.split ∙ take_past 15 b.front b.rest b.short in
    ap (decoded (length bytes)) (ap instruction_at window ∙ instruction_again b.front (take (15 - length b.front) b.rest) insn b.spelled)
  where
    take_past : (n : ℕ) (a b : List ℕ) → length a ≤ n → take n (a ++ b) ≡ a ++ take (n - length a) b
    take_past n [] b le = rw sub-zero refl
    take_past zero (x ∷ a) b le = absurd (omega arith)
    take_past (suc n) (x ∷ a) b le = let e : suc n - suc (length a) ≡ n - length a = omega arith in rw e (ap (λ (t : List ℕ). x ∷ t) (take_past n a b (omega arith)))

pub is_found : (bytes : List ℕ) (insn : Insn) → AreBytes bytes → (answer bytes ≡ Ok insn) ↔ Begins bytes insn
is_found bytes insn are = (answered bytes insn are, only bytes insn)

pub too_long : (bytes : List ℕ) → AreBytes bytes → (answer bytes ≡ Err TooLong) ↔ IsTooLong bytes
too_long bytes are = (
  (λ e. let f = long_only (length bytes) (instruction_at (take 15 bytes)) e in (f.1, instruction_ends (take 15 bytes) (window_bytes bytes are) f.0)),
  (λ h.
      let long : nat_lt (length bytes) 15 ≡ false = le-ltb _ _ h.0 in
      ap (decoded (length bytes)) (begins_ends (take 15 bytes) h.1) ∙ rw long refl),
)

pub short : (bytes : List ℕ) → AreBytes bytes → (answer bytes ≡ Err Short) ↔ IsShort bytes
short bytes are = (
  (λ e.
      let f = short_only (length bytes) (instruction_at (take 15 bytes)) e in
      let lt = f.1 in
      (lt, subst BeginsSpelling (take_all 15 bytes (omega arith)) (instruction_ends (take 15 bytes) (window_bytes bytes are) f.0))),
  (λ h.
      let lt = h.0 in
      let below : nat_lt (length bytes) 15 ≡ true = lt-ltb _ _ lt in
      ap (decoded (length bytes)) (begins_ends (take 15 bytes) (subst BeginsSpelling (sym (take_all 15 bytes (omega arith))) h.1)) ∙ rw below refl),
)

pub undecoded : (bytes : List ℕ) → AreBytes bytes → (answer bytes ≡ Err Undecoded) ↔ SpellsNothing bytes
undecoded bytes are = (
  (λ e. (
    (λ insn b. let o = sym (only bytes insn b) ∙ e in cc),
    (λ h. let t = sym ((too_long bytes are).1 h) ∙ e in cc),
    (λ h. let t = sym ((short bytes are).1 h) ∙ e in cc),
  )),
  (λ h. nothing (answer bytes) refl h),
)
  where
    nothing : (r : Result Insn DecodeFault) → answer bytes ≡ r → SpellsNothing bytes → r ≡ Err Undecoded
    nothing (Ok x) e h = absurd (h.0 x (answered bytes x are e))
    nothing (Err TooLong) e h = absurd (h.1 ((too_long bytes are).0 e))
    nothing (Err Short) e h = absurd (h.2 ((short bytes are).0 e))
    nothing (Err Undecoded) e h = refl
