-- The elements of a list that may not have been made.
use Rattle.std.specs.Prelude.{ℕ, List, [], Option, None, Some}
use Rattle.arrayvec.specs.ArrayVec.{ArrayVec}

abbrev pub items_of : Option (ArrayVec ℕ) → List ℕ
items_of None = []
items_of (Some list) = list.items
