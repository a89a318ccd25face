-- What a page tells of itself, and how each item changes that. It may tell four things, each for good or never:
--
--     trace   [], [i], [i, j], ..     the items so far: each call adds one
--     spare   n, n - 1, n - 2, ..     the room for more: each call takes one
--     kept    words, MSR word         as they stand: a store sets a word, an exit the MSR word, and a load gives a word
--     ahead   v, w, x, ..             the values that come out next: a load or a reading of the MSR takes the first
--
-- `Makes old items new` is the law of every page: from old to new exactly these items were made, and what came out is
-- what the page had told.
use Rattle.std.specs.Prelude.{◌≡◌, ℕ, ◌-◌, ◌≤◌, List, [], ◌∷◌, ◌++◌, Option, Some, None, option_map, IfSome, drop, length, replicate, slice_index, slice_set}
use Rattle.page_words.specs.declared.item.Item.{Item}
use Rattle.page_words.specs.declared.item.Item.TheVariants.{Store, Exit, Load, Msr}

-- the words of a page that keeps what is stored, and its MSR word
pub record Kept : Type 0 where
  pub words : List ℕ
  pub msr : ℕ

-- a page of zeros
abbrev pub blank : Kept
blank = record { words = replicate 512 0; msr = 0 }

-- the item that stores a word: its number and its value
abbrev pub store : ℕ × ℕ → Item
store w = Store w.0 w.1

-- a page after an item: a store changes its word, an exit the MSR word
abbrev pub kept_after : Kept → Item → Kept
kept_after k (Store word value) = record { words = slice_set k.words word value; msr = k.msr }
kept_after k (Exit value) = record { words = k.words; msr = value }
kept_after k (Load word value) = k
kept_after k (Msr value) = k

-- a page after items, the first of them first
abbrev pub kept_after_all : Kept → List Item → Kept
kept_after_all k [] = k
kept_after_all k (item ∷ items) = kept_after_all (kept_after k item) items

-- Each meaning is told or not, for good.
pub record Told : Type 0 where
  -- the items so far
  pub trace : Option (List Item)
  -- how many items more there is room for
  pub spare : Option ℕ
  -- the words as they stand
  pub kept : Option Kept
  -- the values that come next
  pub ahead : Option (List ℕ)

-- a page that tells its words alone
abbrev pub keeping : Kept → Told
keeping k = record { trace = None; spare = None; kept = Some k; ahead = None }

-- the words that are told are all 512 of the page
abbrev pub IsWhole : Told → Type 0
IsWhole t = IfSome t.kept (λ k. length k.words ≡ 512)

-- there is room for this many items, or no limit is told
abbrev pub HasRoom : Told → ℕ → Type 0
HasRoom t n = IfSome t.spare (λ s. n ≤ s)

-- the item is in the trace, and has taken its room
abbrev pub told_with : Told → Item → Told
told_with t item = record t {
  trace = option_map (λ items. items ++ item ∷ []) t.trace;
  spare = option_map (λ n. n - 1) t.spare;
}

-- What is told after an item: what goes in changes the words, what comes out was ahead.
abbrev pub told_after : Told → Item → Told
told_after t (Store word value) =
    record (told_with t (Store word value)) { kept = option_map (λ k. kept_after k (Store word value)) t.kept }
told_after t (Exit value) = record (told_with t (Exit value)) { kept = option_map (λ k. kept_after k (Exit value)) t.kept }
told_after t (Load word value) = record (told_with t (Load word value)) { ahead = option_map (λ ws. drop 1 ws) t.ahead }
told_after t (Msr value) = record (told_with t (Msr value)) { ahead = option_map (λ ws. drop 1 ws) t.ahead }

-- Where the page tells which value comes out, it is this one: what is kept, and the first that was ahead, 0 after
-- its end.
abbrev pub Gives : Told → Item → Type 0
Gives t (Store word value) = Unit {0}
Gives t (Exit value) = Unit {0}
Gives t (Load word value) =
    IfSome t.kept (λ k. value ≡ slice_index k.words word) × IfSome t.ahead (λ ws. value ≡ slice_index ws 0)
Gives t (Msr value) = IfSome t.kept (λ k. value ≡ k.msr) × IfSome t.ahead (λ ws. value ≡ slice_index ws 0)

-- what is told after items, the first of them first
abbrev pub told_after_all : Told → List Item → Told
told_after_all t [] = t
told_after_all t (item ∷ items) = told_after_all (told_after t item) items

-- each value that came out is the one that the page tells
abbrev pub GivesAll : Told → List Item → Type 0
GivesAll t [] = Unit {0}
GivesAll t (item ∷ items) = Gives t item × GivesAll (told_after t item) items

-- From old, exactly these items lead to new.
pub record Makes (old : Told) (items : List Item) (new : Told) : Type 0 where
  pub leaves : new ≡ told_after_all old items
  pub gives : GivesAll old items
