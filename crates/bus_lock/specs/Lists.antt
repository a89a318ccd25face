-- Totals over lists, how often a number stands in them, and what a list begins with.
use Rattle.std.specs.Prelude.{ℕ, ◌+◌, ◌==◌, ◌<◌, ◌≡◌, ◌++◌, List, [], ◌∷◌, cond, nat_lt}

-- f of each item, added up
abbrev pub total : {A : Type 0} → (A → ℕ) → List A → ℕ
total f [] = 0
total f (x ∷ xs) = f x + total f xs

-- how often k stands in the list
abbrev pub times : ℕ → List ℕ → ℕ
times k [] = 0
times k (x ∷ xs) = cond (k == x) 1 0 + times k xs

-- 1 where k is below n, and else 0
abbrev pub once_below : ℕ → ℕ → ℕ
once_below k n = cond (nat_lt k n) 1 0

-- the lists, one after another
abbrev pub joined_up : List (List ℕ) → List ℕ
joined_up [] = []
joined_up (l ∷ ls) = l ++ joined_up ls

-- the list begins with these items
abbrev pub StartsWith : {A : Type 0} → List A → List A → Type 0
StartsWith {A} list items = (rest : List A) × (list ≡ items ++ rest)

-- each number of the list is below n
abbrev pub AllBelow : ℕ → List ℕ → Type 0
AllBelow n [] = Unit {0}
AllBelow n (x ∷ xs) = (x < n) × AllBelow n xs
