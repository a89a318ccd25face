-- What each step of the lock tells, and what it makes of the views.
--
-- Step                  Word  How                      By whom                     What changes in the view
-- take the host         1     compare_exchange 0 to 1  a pass that holds nothing   where the word was 0: holding
-- count the entry       0     fetch_add 1              the pass that holds         counting
-- give back the host    1     swap of 0                the pass that holds         released
-- split a pass          -     load of word 0           a pass with 2 shares        one_less, and the new one: fresh
-- join two passes       -     load of word 0           two that hold nothing       both, and the other one: spent
-- settle a join         0     load                     the pass that stayed        settled
-- load the count        0     load                     a pass that holds nothing   met
use Rattle.std.specs.Prelude.{◌≡◌, ◌≢◌, ℕ, ◌+◌, ◌≤◌, List, [], ◌∷◌, length, Option, Some, None}
use Rattle.atomic_table.specs.Table.{Me, Step, rest}
use Rattle.event_table.specs.declared.turn.Entry.{Entry}
use Rattle.host_events.specs.Hosting.{Hosting}
use Rattle.bus_lock.specs.declared.view.View.{View}
use Rattle.bus_lock.specs.Lists.{StartsWith}
use Rattle.bus_lock.specs.Views.{holding, counting, released, met, settled}
use Rattle.bus_lock.specs.Rule.{Legal}

-- the history that a host tells
abbrev pub or_empty : Option (List Entry) → List Entry
or_empty None = []
or_empty (Some history) = history

module _ {H : Type 0} (told : H → Hosting) where
  -- the history that the host in the slot tells
  abbrev pub history_at : Option H → List Entry
  history_at None = []
  history_at (Some host) = or_empty (told host).history

  -- the same, of the slots that a seat has
  abbrev pub history_in : List (ℕ × Option H) → List Entry
  history_in [] = []
  history_in (slot ∷ slots) = history_at slot.1

  -- Where the word was 0, the seat has the slot with a legal host, whose history begins with all that it knew.
  -- Else nothing changed.
  abbrev pub Takes : Step (Option H) → Me (Option H) View → ℕ → Me (Option H) View → Type 0
  Takes st m n m' =
      (n ≡ 0 → (host : H) × (log : List Entry) × (m' ≡ (holding m.0 log, (0, Some host) ∷ m.1))
      × StartsWith log m.0.known × (m.0.reached ≤ length log) × Legal told m.0.vcpus m.0.input host log)
      × (n ≢ 0 → m' ≡ m)

  -- the entry n was counted, with which the history is what the host in the slot tells
  abbrev pub Counts : Step (Option H) → Me (Option H) View → ℕ → Me (Option H) View → Type 0
  Counts st m n m' = (m' ≡ (counting m.0 (history_in m.1) n, m.1)) × (n + 1 ≡ length (history_in m.1))

module _ {S : Type 0} where
  -- the slot is home again
  abbrev pub Gives : Step S → Me S View → ℕ → Me S View → Type 0
  Gives st m n m' = m' ≡ (released m.0, rest m.1)

  -- the longer history of a join begins with the shorter one
  abbrev pub Settles : Step S → Me S View → ℕ → Me S View → Type 0
  Settles st m n m' = (m' ≡ (settled m.0, m.1)) × StartsWith m.0.known m.0.shorter

  -- the count is at least all that was met
  abbrev pub Meets : Step S → Me S View → ℕ → Me S View → Type 0
  Meets st m n m' = (m' ≡ (met m.0 n, m.1)) × (m.0.reached ≤ n)
