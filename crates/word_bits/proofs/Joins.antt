-- Parts of a word that share no bit are joined by a sum.
use Rattle.std.proofs.Common.{◌≡◌, ℕ, ◌+◌, ◌*◌, ◌/◌, ◌%◌, ◌^◌, ◌<◌, subst, arith, bit_or}
use Rattle.std.proofs.lemmas.Nat.{or_shifted, shr_split}

-- a word whose low k bits are 0, and a number of k bits
pub or-low : (k word low : ℕ) → word % 2 ^ k ≡ 0 → low < 2 ^ k → bit_or word low ≡ word + low
or-low k word low clear fits =
    let whole : word / 2 ^ k * 2 ^ k ≡ word = omega (arith, shr_split word k) in
    let Joined : ℕ → Type 0 = λ n. bit_or n low ≡ n + low in
    subst Joined whole (or_shifted (word / 2 ^ k) k low fits)

-- a part from bit j on, a part below it and from bit k on, and a number of k bits
pub or-two : (j k high low info : ℕ) → high % 2 ^ j ≡ 0 → low < 2 ^ j → (high + low) % 2 ^ k ≡ 0 → info < 2 ^ k
    → bit_or (bit_or high low) info ≡ high + low + info
or-two j k high low info high_clear low_fits clear info_fits =
    rw (or-low j high low high_clear low_fits) (or-low k (high + low) info clear info_fits)
