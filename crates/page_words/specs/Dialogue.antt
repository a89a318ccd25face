-- What a guest says and hears over a page. By OUT of the byte 48 to port 3f8 vCPU 0 holds this dialogue (all but the
-- numbers of words in hexadecimal):
--
--     saying (Store 126 0)                 saying (Store 127 0)                the old valid bitmap goes
--     saying (Store 63 48)                 saying (Store 114 7b)               RAX and SW_EXITCODE
--     saying (Store 115 3f80210)           saying (Store 116 0)                SW_EXITINFO1 and SW_EXITINFO2
--     saying (Store 126 8000000000000000)  saying (Store 127 1c000000000000)   the valid bitmap of these four
--     saying (Store 511 10000)             saying (Exit 80000000)              version 1; the page's address, VMGEXIT
--     asking 115                                                               the status: at 0 it is over
--
-- The words of this file:
--
--     Dialogue           what is said, and how it goes on with each value that may be heard
--     say, listen        a dialogue behind items; behind a program, which only hears
--     Goes, Runs, Reads  the items are the whole dialogue; they lead from old to new; the same of a program
--     Opens, Begins_to   the items are the first of the dialogue; they lead from old to new
--     values_of          the values that were heard in items
--     loads_of           the words that were loaded in items
--     Begins             a list of values, with zeros behind it, begins with others
--     taken, Taken       what a dialogue comes to on a list of values: its items, its value and the values left
use Rattle.std.specs.Prelude.{◌≡◌, ℕ, List, [], ◌∷◌, drop, slice_index}
use Rattle.page_words.specs.declared.item.Item.{Item}
use Rattle.page_words.specs.declared.item.Item.TheVariants.{Store, Exit, Load, Msr}
use Rattle.page_words.specs.Told.{Told, Makes}
use Rattle.page_words.specs.Programs.{Program, pure, loading, reading}

-- It is over with a value; or a store or an exit is said; or a word is loaded, or the MSR read, and it goes on with
-- what came.
pub data Dialogue (X : Type 0) : Type 0 where
  over : X → Dialogue X
  saying : Item → Dialogue X → Dialogue X
  asking : ℕ → (ℕ → Dialogue X) → Dialogue X
  hearing : (ℕ → Dialogue X) → Dialogue X

-- these items are said, and then the rest
unfoldable pub say : {X : Type 0} → List Item → Dialogue X → Dialogue X
say [] rest = rest
say (item ∷ items) rest = saying item (say items rest)

-- a program's loads and readings, and then what its value leads to
unfoldable pub listen : {X Y : Type 0} → Program X → (X → Dialogue Y) → Dialogue Y
listen (pure x) g = g x
listen (loading n next) g = asking n (λ v. listen (next v) g)
listen (reading next) g = hearing (λ v. listen (next v) g)

-- one dialogue, and then the next with its value
infixl 10 ◌>>=◌
unfoldable pub ◌>>=◌ : {X Y : Type 0} → Dialogue X → (X → Dialogue Y) → Dialogue Y
(over x) >>= g = g x
(saying item rest) >>= g = saying item (rest >>= g)
(asking n next) >>= g = asking n (λ v. next v >>= g)
(hearing next) >>= g = hearing (λ v. next v >>= g)

-- these items are exactly what the dialogue says and hears, and it comes to this
abbrev pub Follows : {X : Type 0} → Dialogue X → List Item → X → Type 0
Follows (over x) [] y = x ≡ y
Follows (saying said rest) (Store n v ∷ items) y = (said ≡ Store n v) × Follows rest items y
Follows (saying said rest) (Exit v ∷ items) y = (said ≡ Exit v) × Follows rest items y
Follows (asking n next) (Load m v ∷ items) y = (n ≡ m) × Follows (next v) items y
Follows (hearing next) (Msr v ∷ items) y = Follows (next v) items y
Follows _ _ _ = ⊥

-- From old to new this dialogue alone was held, and it came to this value.
pub record Runs {X : Type 0} (dialogue : Dialogue X) (value : X) (old new : Told) : Type 0 where
  pub items : List Item
  pub makes : Makes old items new
  pub goes : Follows dialogue items value

-- From old to new the page was read by this program alone, and it came to this value.
abbrev pub Reads : {X : Type 0} → Program X → X → Told → Told → Type 0
Reads program value old new = Runs (listen program (λ x. over x)) value old new

-- these items are the first of what the dialogue says and hears
abbrev pub FollowsPart : {X : Type 0} → Dialogue X → List Item → Type 0
FollowsPart d [] = Unit {0}
FollowsPart (saying said rest) (Store n v ∷ items) = (said ≡ Store n v) × FollowsPart rest items
FollowsPart (saying said rest) (Exit v ∷ items) = (said ≡ Exit v) × FollowsPart rest items
FollowsPart (asking n next) (Load m v ∷ items) = (n ≡ m) × FollowsPart (next v) items
FollowsPart (hearing next) (Msr v ∷ items) = FollowsPart (next v) items
FollowsPart _ _ = ⊥

-- From old to new a first part of this dialogue alone was held.
pub record RunsPart {X : Type 0} (dialogue : Dialogue X) (old new : Told) : Type 0 where
  pub items : List Item
  pub makes : Makes old items new
  pub opens : FollowsPart dialogue items

-- the values that come out of loads and of readings of the MSR
abbrev pub values_of : List Item → List ℕ
values_of [] = []
values_of (Store word value ∷ items) = values_of items
values_of (Exit value ∷ items) = values_of items
values_of (Load word value ∷ items) = value ∷ values_of items
values_of (Msr value ∷ items) = value ∷ values_of items

-- the numbers of the words that are loaded
abbrev pub loads_of : List Item → List ℕ
loads_of [] = []
loads_of (Store word value ∷ items) = loads_of items
loads_of (Exit value ∷ items) = loads_of items
loads_of (Load word value ∷ items) = word ∷ loads_of items
loads_of (Msr value ∷ items) = loads_of items

-- these words, and zeros after them, begin with the values
abbrev pub IsPrefix : List ℕ → List ℕ → Type 0
IsPrefix [] words = Unit {0}
IsPrefix (value ∷ values) words = (value ≡ slice_index words 0) × IsPrefix values (drop 1 words)

-- items, what they come to, and the words that are left
pub record Taken (X : Type 0) : Type 0 where
  pub items : List Item
  pub value : X
  pub rest : List ℕ

-- an item before them
abbrev pub first : {X : Type 0} → Item → Taken X → Taken X
first item t = record { items = item ∷ t.items; value = t.value; rest = t.rest }

-- what a dialogue comes to where each load and reading takes the next of these words, and 0 after their end
abbrev pub answered_by : {X : Type 0} → Dialogue X → List ℕ → Taken X
answered_by (over x) words = record { items = []; value = x; rest = words }
answered_by (saying item next) words = first item (answered_by next words)
answered_by (asking n next) words = first (Load n (slice_index words 0)) (answered_by (next (slice_index words 0)) (drop 1 words))
answered_by (hearing next) words = first (Msr (slice_index words 0)) (answered_by (next (slice_index words 0)) (drop 1 words))
