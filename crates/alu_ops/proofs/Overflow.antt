-- A sum or a difference is out of range exactly where the signs say so.
use Rattle.std.proofs.Common.{◌≡◌, ℕ, zero, suc, ◌+◌, ◌-◌, ◌^◌, ◌%◌, ◌<◌, ◌≤◌, Bool, true, false, ℤ, pos, ◌+ℤ◌, ◌-ℤ◌, refl, sym, ap, ◌∙◌, inl, inr, arith}
use Rattle.std.specs.Prelude.{◌⊎◌, not, ◌&&◌, neg_ℤ, int_lt, int_le, nat_le, nat_lt, if◌then◌else◌, unsigned_abs}
use Rattle.std.proofs.lemmas.Bool.Decides.{nat_tests}
use Rattle.std.proofs.lemmas.Int.{int_rem_euclid_is, ints}
use Rattle.std.proofs.Math.Nat.{mod-eq_of_lt, mod-eq-sub-mod, mod-lt, pow-suc}
use Rattle.std.specs.Int.{int_rem_euclid}
use Rattle.alu_ops.specs.Number.{IsWidth, differ, is_out_of_range, modulo, signed, top_bit}

-- a number below 2p with its sign
abbrev with_sign : ℕ → ℕ → ℤ
with_sign p a = if nat_lt a p then pos a else pos a -ℤ pos (p + p)

-- not from -p to p
abbrev is_out : ℕ → ℤ → Bool
is_out p z = not (int_le (neg_ℤ (pos p)) z && int_lt z (pos p))

is_in : (p : ℕ) (z : ℤ) → int_le (neg_ℤ (pos p)) z ≡ true → int_lt z (pos p) ≡ true → is_out p z ≡ false
is_in p z h k = rw (h, k) refl

is_low : (p : ℕ) (z : ℤ) → int_le (neg_ℤ (pos p)) z ≡ false → is_out p z ≡ true
is_low p z h = rw h refl

is_high : (p : ℕ) (z : ℤ) → int_le (neg_ℤ (pos p)) z ≡ true → int_lt z (pos p) ≡ false → is_out p z ≡ true
is_high p z h k = rw (h, k) refl

-- a number's top bit decides its sign
record HasSign (p a : ℕ) (x : Bool) : Type 0 where
  top : nat_le p a ≡ x
  below : nat_lt a p ≡ not x

low_sign : (p a : ℕ) → a < p → HasSign p a false
low_sign p a h = record { top = grind (arith, nat_tests); below = grind (arith, nat_tests) }

high_sign : (p a : ℕ) → p ≤ a → HasSign p a true
high_sign p a h = record { top = grind (arith, nat_tests); below = grind (arith, nat_tests) }

sign_cases : (p a : ℕ) → (a < p) ⊎ (p ≤ a)
sign_cases p a = grind arith

-- the top bit of v decides whether v itself is out of range, and whether 2p less is
low_decides : (p v : ℕ) → nat_le p v ≡ is_out p (pos v)
low_decides p v = elim (sign_cases p v) [
  | inl lo ↦ rw (low_sign p v lo).top (sym (is_in p (pos v) (grind (arith, ints)) (grind (arith, ints))))
  | inr hi ↦ rw (high_sign p v hi).top (sym (is_high p (pos v) (grind (arith, ints)) (grind (arith, ints))))
]

high_decides : (p v : ℕ) → v < p + p → not (nat_le p v) ≡ is_out p (pos v -ℤ pos (p + p))
high_decides p v h = elim (sign_cases p v) [
  | inl lo ↦ rw (low_sign p v lo).top (sym (is_low p (pos v -ℤ pos (p + p)) (grind (arith, ints))))
  | inr hi ↦ rw (high_sign p v hi).top (sym (is_in p (pos v -ℤ pos (p + p)) (grind (arith, ints)) (grind (arith, ints))))
]

-- the value of a sum or a difference, and the same modulo 2p
abbrev IsModulo : ℕ → ℕ → ℕ → Type 0
IsModulo p v s = (v ≡ s) ⊎ (v + (p + p) ≡ s)

abbrev sum_signs : ℕ → ℕ → ℕ → ℕ → Bool
sum_signs p a b v = not (differ (nat_le p a) (nat_le p b)) && differ (nat_le p a) (nat_le p v)

abbrev SumDecides : ℕ → ℕ → ℕ → ℕ → ℕ → Type 0
SumDecides p a b c v = sum_signs p a b v ≡ is_out p (with_sign p a +ℤ with_sign p b +ℤ pos c)

sum_low_low : (p a b c v : ℕ) → a < p → b < p → v ≡ a + b + c → SumDecides p a b c v
sum_low_low p a b c v ha hb e =
    let sa = low_sign p a ha in
    let sb = low_sign p b hb in
    rw (sa.top, sb.top, sa.below, sb.below, ← e) (low_decides p v)

sum_high_high : (p a b c v : ℕ) → p ≤ a → p ≤ b → v < p + p → v + (p + p) ≡ a + b + c → SumDecides p a b c v
sum_high_high p a b c v ha hb hv e =
    let sa = high_sign p a ha in
    let sb = high_sign p b hb in
    let is : pos a -ℤ pos (p + p) +ℤ (pos b -ℤ pos (p + p)) +ℤ pos c ≡ pos v -ℤ pos (p + p) = omega (arith, ints) in
    rw (sa.top, sb.top, sa.below, sb.below, is) (high_decides p v hv)

sum_low_high : (p a b c v : ℕ) → a < p → p ≤ b → b < p + p → c ≤ 1 → SumDecides p a b c v
sum_low_high p a b c v ha hb kb hc =
    let sa = low_sign p a ha in
    let sb = high_sign p b hb in
    rw (sa.top, sb.top, sa.below, sb.below) (sym (is_in p (pos a +ℤ (pos b -ℤ pos (p + p)) +ℤ pos c) (grind (arith, ints)) (grind (arith, ints))))

sum_high_low : (p a b c v : ℕ) → p ≤ a → a < p + p → b < p → c ≤ 1 → SumDecides p a b c v
sum_high_low p a b c v ha ka hb hc =
    let sa = high_sign p a ha in
    let sb = low_sign p b hb in
    rw (sa.top, sb.top, sa.below, sb.below) (sym (is_in p (pos a -ℤ pos (p + p) +ℤ pos b +ℤ pos c) (grind (arith, ints)) (grind (arith, ints))))

sum_decides : (p a b c v : ℕ) → a < p + p → b < p + p → c ≤ 1 → v < p + p → IsModulo p v (a + b + c) → SumDecides p a b c v
sum_decides p a b c v ka kb hc kv is = elim (sign_cases p a) [
  | inl a_low ↦ elim (sign_cases p b) [
    | inl b_low ↦ elim is [ inl e ↦ sum_low_low p a b c v a_low b_low e | inr e ↦ absurd (omega arith) ]
    | inr b_high ↦ sum_low_high p a b c v a_low b_high kb hc
  ]
  | inr a_high ↦ elim (sign_cases p b) [
    | inl b_low ↦ sum_high_low p a b c v a_high ka b_low hc
    | inr b_high ↦ elim is [ inl e ↦ absurd (omega arith) | inr e ↦ sum_high_high p a b c v a_high b_high kv e ]
  ]
]

abbrev difference_signs : ℕ → ℕ → ℕ → ℕ → Bool
difference_signs p a b v = differ (nat_le p a) (nat_le p b) && differ (nat_le p a) (nat_le p v)

abbrev DifferenceDecides : ℕ → ℕ → ℕ → ℕ → ℕ → Type 0
DifferenceDecides p a b c v = difference_signs p a b v ≡ is_out p (with_sign p a -ℤ with_sign p b -ℤ pos c)

difference_low_low : (p a b c v : ℕ) → a < p → b < p → c ≤ 1 → DifferenceDecides p a b c v
difference_low_low p a b c v ha hb hc =
    let sa = low_sign p a ha in
    let sb = low_sign p b hb in
    rw (sa.top, sb.top, sa.below, sb.below) (sym (is_in p (pos a -ℤ pos b -ℤ pos c) (grind (arith, ints)) (grind (arith, ints))))

difference_high_high : (p a b c v : ℕ) → p ≤ a → a < p + p → p ≤ b → b < p + p → c ≤ 1 → DifferenceDecides p a b c v
difference_high_high p a b c v ha ka hb kb hc =
    let sa = high_sign p a ha in
    let sb = high_sign p b hb in
    let z = pos a -ℤ pos (p + p) -ℤ (pos b -ℤ pos (p + p)) -ℤ pos c in
    rw (sa.top, sb.top, sa.below, sb.below) (sym (is_in p z (grind (arith, ints)) (grind (arith, ints))))

difference_low_high : (p a b c v : ℕ) → a < p → p ≤ b → v + b + c ≡ a + (p + p) → DifferenceDecides p a b c v
difference_low_high p a b c v ha hb e =
    let sa = low_sign p a ha in
    let sb = high_sign p b hb in
    let is : pos a -ℤ (pos b -ℤ pos (p + p)) -ℤ pos c ≡ pos v = omega (arith, ints) in
    rw (sa.top, sb.top, sa.below, sb.below, is) (low_decides p v)

difference_high_low : (p a b c v : ℕ) → p ≤ a → b < p → v < p + p → v + b + c ≡ a → DifferenceDecides p a b c v
difference_high_low p a b c v ha hb hv e =
    let sa = high_sign p a ha in
    let sb = low_sign p b hb in
    let is : pos a -ℤ pos (p + p) -ℤ pos b -ℤ pos c ≡ pos v -ℤ pos (p + p) = omega (arith, ints) in
    rw (sa.top, sb.top, sa.below, sb.below, is) (high_decides p v hv)

difference_decides : (p a b c v : ℕ) → a < p + p → b < p + p → c ≤ 1 → v < p + p
    → (v + b + c ≡ a) ⊎ (v + b + c ≡ a + (p + p)) → DifferenceDecides p a b c v
difference_decides p a b c v ka kb hc kv is = elim (sign_cases p a) [
  | inl a_low ↦ elim (sign_cases p b) [
    | inl b_low ↦ difference_low_low p a b c v a_low b_low hc
    | inr b_high ↦ elim is [ inl e ↦ absurd (omega arith) | inr e ↦ difference_low_high p a b c v a_low b_high e ]
  ]
  | inr a_high ↦ elim (sign_cases p b) [
    | inl b_low ↦ elim is [ inl e ↦ difference_high_low p a b c v a_high b_low kv e | inr e ↦ absurd (omega arith) ]
    | inr b_high ↦ difference_high_high p a b c v a_high ka b_high kb hc
  ]
]

-- below 2q there is at most one q in a number
below_twice : (m q : ℕ) → m < q + q → (m % q ≡ m) ⊎ (m % q + q ≡ m)
below_twice m q h = elim (sign_cases q m) [
  | inl lo ↦ inl (mod-eq_of_lt lo)
  | inr hi ↦
      let small : m - q < q = omega arith in
      inr (omega (arith, mod-eq-sub-mod hi, mod-eq_of_lt small))
]

-- the values as they are computed
sum_value : (q a b c : ℕ) → 0 < q → unsigned_abs (int_rem_euclid (pos a +ℤ pos b +ℤ pos c) (pos q)) ≡ (a + b + c) % q
sum_value q a b c h =
    ap unsigned_abs (int_rem_euclid_is (pos a +ℤ pos b +ℤ pos c) (pos q) q 0 (a + b + c) h refl (omega (arith, ints)))

difference_value : (q a b c : ℕ) → 0 < q → b + c ≤ q
    → unsigned_abs (int_rem_euclid (pos a -ℤ pos b -ℤ pos c) (pos q)) ≡ (a + q - (b + c)) % q
difference_value q a b c h k =
    ap unsigned_abs (int_rem_euclid_is (pos a -ℤ pos b -ℤ pos c) (pos q) q 1 (a + q - (b + c)) h refl (omega (arith, ints)))

pub sum_overflow : (n p a b c v : ℕ) → p ≡ 2 ^ (n - 1) → p + p ≡ 2 ^ n → a < 2 ^ n → b < 2 ^ n → c ≤ 1
    → v ≡ modulo n (pos a +ℤ pos b +ℤ pos c)
    → (not (differ (top_bit n a) (top_bit n b)) && differ (top_bit n a) (top_bit n v)) ≡ is_out_of_range n (signed n a +ℤ signed n b +ℤ pos c)
sum_overflow n p a b c v half twice ka kb hc e =
    let ja : a < p + p = omega (arith, twice, ka) in
    let jb : b < p + p = omega (arith, twice, kb) in
    let some : 0 < p + p = omega arith in
    let is : v ≡ (a + b + c) % (p + p) =
    e ∙ ap (λ (q : ℕ). unsigned_abs (int_rem_euclid (pos a +ℤ pos b +ℤ pos c) (pos q))) (sym twice) ∙ sum_value (p + p) a b c some in
    let below : v < p + p = rw is (mod-lt (a + b + c) some) in
    let either : IsModulo p v (a + b + c) = rw is (below_twice (a + b + c) (p + p) (omega arith)) in
    rw (← half, ← twice) (sum_decides p a b c v ja jb hc below either)

pub difference_overflow : (n p a b c v : ℕ) → p ≡ 2 ^ (n - 1) → p + p ≡ 2 ^ n → a < 2 ^ n → b < 2 ^ n → c ≤ 1
    → v ≡ modulo n (pos a -ℤ pos b -ℤ pos c)
    → (differ (top_bit n a) (top_bit n b) && differ (top_bit n a) (top_bit n v)) ≡ is_out_of_range n (signed n a -ℤ signed n b -ℤ pos c)
difference_overflow n p a b c v half twice ka kb hc e =
    let ja : a < p + p = omega (arith, twice, ka) in
    let jb : b < p + p = omega (arith, twice, kb) in
    let some : 0 < p + p = omega arith in
    let m = a + (p + p) - (b + c) in
    let is : v ≡ m % (p + p) =
    e ∙ ap (λ (q : ℕ). unsigned_abs (int_rem_euclid (pos a -ℤ pos b -ℤ pos c) (pos q))) (sym twice) ∙ difference_value (p + p) a b c some (omega arith) in
    let below : v < p + p = rw is (mod-lt m some) in
    let either : (v ≡ m) ⊎ (v + (p + p) ≡ m) = rw is (below_twice m (p + p) (omega arith)) in
    let borrowed : (v + b + c ≡ a) ⊎ (v + b + c ≡ a + (p + p)) =
    elim either [ inl f ↦ inr (omega arith) | inr f ↦ inl (omega arith) ] in
    rw (← half, ← twice) (difference_decides p a b c v ja jb hc below borrowed)

-- twice half of how many numbers a width has
pub twice_half : (n : ℕ) → IsWidth n → 2 ^ (n - 1) + 2 ^ (n - 1) ≡ 2 ^ n
twice_half zero h = absurd cc
twice_half (suc k) h =
    let e : suc k - 1 ≡ k = omega arith in
    rw e (omega (arith, pow-suc 2 k))
