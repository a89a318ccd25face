-- The number that digits write.
use Rattle.std.proofs.Common.{◌≡◌, ℕ, ◌+◌, ◌*◌, ◌-◌, ◌<◌, ◌≤◌, List, [], ◌∷◌, Some, None, Bool, false, ap, sym, arith}
use Rattle.std.specs.Prelude.{nat_le, if◌then◌else◌}
use Rattle.std.proofs.lemmas.Grind.{common_steps}
use Rattle.ghcb_cli.specs.Command.{value_after}

-- digits make a number no smaller
value_grows : (n : ℕ) (digits : List ℕ) → n ≤ value_after n digits
value_grows n [] = omega arith
value_grows n (digit ∷ digits) = let more : 10 * n + (digit - 48) ≤ value_after (10 * n + (digit - 48)) digits = value_grows (10 * n + (digit - 48)) digits in omega arith

-- what was read is too great already
pub too_great : (n most whole : ℕ) (rest : List ℕ) → value_after n rest ≡ whole → most < n → None ≡ (if nat_le whole most then Some whole else None)
too_great n most whole rest is above =
    let grows : n ≤ value_after n rest = value_grows n rest in
    let not : nat_le whole most ≡ false = grind (arith, common_steps) in
    ap (λ (b : Bool). if b then Some whole else None) (sym not)
