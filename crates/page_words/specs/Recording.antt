-- A page that is recorded, and what a page and a script tell.
use Rattle.std.specs.Prelude.{ℕ, List, Some, None}
use Rattle.page_words.specs.declared.item.Item.{Item}
use Rattle.page_words.specs.Told.{Told}

-- a page, the items made on it so far, and how many more there is room for
pub record Recording (P : Type 0) : Type 0 where
  pub page : P
  pub items : List Item
  pub spare : ℕ

-- the items and the room are told here, and the rest as the page tells it
abbrev pub recording : {P : Type 0} → (P → Told) → Recording P → Told
recording told r =
    record { trace = Some r.items; spare = Some r.spare; kept = (told r.page).kept; ahead = (told r.page).ahead }

-- what is told, but for the room
abbrev pub roomless : Told → Told
roomless t = record t { spare = None }

-- a page that tells the values that come next alone
abbrev pub scripted : List ℕ → Told
scripted words = record { trace = None; spare = None; kept = None; ahead = Some words }
