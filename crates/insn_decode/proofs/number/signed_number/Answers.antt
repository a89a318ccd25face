use Rattle.std.proofs.Common.{◌≡◌, ℕ, ◌+◌, ◌-◌, ◌*◌, ◌^◌, arith, cond, ltb, true, false, Bool, List, [], ◌∷◌, length, get_or}
use Rattle.x86_base.specs.Numbers.{little, extended}
use Rattle.insn_decode.proofs.number.signed_number.Goals as goal

whole : (n m : ℕ) → n ≡ m → n ≡ extended 64 m
whole n m e = elim (ltb m (2 ^ 63)) as (λ (b : Bool). n ≡ cond b m (m + 2 ^ 64 - 2 ^ 64)) [ true ↦ e | false ↦ omega arith ]

eight : (bs : List ℕ) (n : ℕ) → length bs ≡ 8 →
    n ≡ get_or bs 0 0 + 256 * (get_or bs 1 0 + 256 * (get_or bs 2 0 + 256 * (get_or bs 3 0 + 256 * (get_or bs 4 0 + 256 * (get_or bs 5 0 + 256 * (get_or bs 6 0 + 256 * get_or bs 7 0)))))) →
    n ≡ little bs
eight (a ∷ b ∷ c ∷ d ∷ e ∷ f ∷ g ∷ h ∷ []) n len is = omega arith
eight bs n len is = absurd (omega arith)

pub returns-in-len8 : goal.returns-in-len8
returns-in-len8 c =
    let bytes : List ℕ = c.args.bytes.now in
    let len : length bytes ≡ 8 = omega arith in
    rw len (whole _ _ (eight bytes c.from_le_bytes-in-len8.result len (omega (arith, c.from_le_bytes-in-len8.ensures))))
