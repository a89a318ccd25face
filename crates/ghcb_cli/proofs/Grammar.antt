-- Words that are too few or too many for the grammar.
use Rattle.std.proofs.Common.{◌≡◌, ◌<◌, ℕ, List, [], ◌∷◌, length, map, None, refl, arith}
use Rattle.std.proofs.lemmas.Grind.{common_steps}
use Rattle.ghcb_cli.specs.Command.{command_of}

pub too_few : {X : Type 0} (bytes : X → List ℕ) (words : List X) → length words < 2 → None ≡ command_of (map bytes words)
too_few bytes [] few = refl
too_few bytes (a ∷ []) few = refl
too_few bytes (a ∷ b ∷ words) few = grind (arith, common_steps)

pub too_many : {X : Type 0} (bytes : X → List ℕ) (words : List X) → 5 < length words → None ≡ command_of (map bytes words)
too_many bytes [] many = grind (arith, common_steps)
too_many bytes (a ∷ []) many = grind (arith, common_steps)
too_many bytes (a ∷ b ∷ []) many = grind (arith, common_steps)
too_many bytes (a ∷ b ∷ c ∷ []) many = grind (arith, common_steps)
too_many bytes (a ∷ b ∷ c ∷ d ∷ []) many = grind (arith, common_steps)
too_many bytes (a ∷ b ∷ c ∷ d ∷ e ∷ []) many = grind (arith, common_steps)
too_many bytes (a ∷ b ∷ c ∷ d ∷ e ∷ f ∷ words) many = refl
