-- A number with one bit set.
use Rattle.std.proofs.Common.{◌≡◌, ◌≢◌, ◌∙◌, ap, sym, subst, ℕ, ◌+◌, ◌-◌, ◌*◌, ◌^◌, ◌<◌, ◌⊎◌, inl, inr, arith, bit_or}
use Rattle.std.specs.Int.{bit_at}
use Rattle.std.proofs.lemmas.Nat.{or_disjoint}
use Rattle.std.proofs.lemmas.Nat.Bits.{and_pow, bit_at-lt, bit_at_or, bit_at-pow_same, bit_at-pow_other, same_from_bits}
use Rattle.std.proofs.lemmas.Bool.Decides.{eqb_tells}
use Rattle.ghcb_layout.specs.Bitmap.{with_one}

-- bit i of a number with bit k set
or-same : (n k : ℕ) → bit_at (bit_or n (2 ^ k)) k ≡ 1
or-same n k =
    let one = bit_at-pow_same k in
    let small = bit_at-lt n k in
    omega (arith, bit_at_or n (2 ^ k) k)

or-other : (n k i : ℕ) → i ≢ k → bit_at (bit_or n (2 ^ k)) i ≡ bit_at n i
or-other n k i other =
    let zero = bit_at-pow_other k i other in
    omega (arith, bit_at_or n (2 ^ k) i)

or-set : (n k : ℕ) → bit_at n k ≡ 1 → bit_or n (2 ^ k) ≡ n
or-set n k set =
    same_from_bits _ _ (λ i. elim (eqb_tells i k) [
      | inl same ↦ subst (λ (j : ℕ). bit_at (bit_or n (2 ^ k)) j ≡ bit_at n j) (sym same.1) (or-same n k ∙ sym set)
      | inr other ↦ or-other n k i other.1
    ])

or-clear : (n k : ℕ) → bit_at n k ≡ 0 → bit_or n (2 ^ k) ≡ n + 2 ^ k
or-clear n k clear = or_disjoint n (2 ^ k) (and_pow n k ∙ ap (λ (b : ℕ). b * 2 ^ k) clear ∙ omega arith)

zero_or_one : (b : ℕ) → b < 2 → (b ≡ 0) ⊎ (b ≡ 1)
zero_or_one b small = grind arith

pub or-with_one : (n k : ℕ) → bit_or n (2 ^ k) ≡ with_one n k
or-with_one n k =
    let added : ℕ → ℕ = λ b. n + (1 - b) * 2 ^ k in
    let clear : n + 2 ^ k ≡ added 0 = omega arith in
    let set : n ≡ added 1 = omega arith in
    elim (zero_or_one (bit_at n k) (bit_at-lt n k)) [
      | inl zero ↦ or-clear n k zero ∙ clear ∙ ap added (sym zero)
      | inr one ↦ or-set n k one ∙ set ∙ ap added (sym one)
    ]

pub with_one_same : (n k : ℕ) → bit_at (with_one n k) k ≡ 1
with_one_same n k = subst (λ (m : ℕ). bit_at m k ≡ 1) (or-with_one n k) (or-same n k)

pub with_one_other : (n k i : ℕ) → i ≢ k → bit_at (with_one n k) i ≡ bit_at n i
with_one_other n k i other = subst (λ (m : ℕ). bit_at m i ≡ bit_at n i) (or-with_one n k) (or-other n k i other)
