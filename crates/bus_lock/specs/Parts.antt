-- What holds of the lock's table between any two steps, in seven parts.
use Rattle.std.specs.Prelude.{◌≡◌, ◌≢◌, ℕ, ◌⊎◌, ◌<◌, ◌≤◌, List, [], length, slice_index, Option, Some, None}
use mathlib.Core.Option.{some}
use lib.ListN.{get_elem?}
use Rattle.atomic_table.specs.Table.{State}
use Rattle.event_table.specs.declared.turn.Entry.{Entry}
use Rattle.host_events.specs.Hosting.{Hosting}
use Rattle.bus_lock.specs.declared.view.View.{View}
use Rattle.bus_lock.specs.Lists.{total, times, StartsWith, AllBelow}
use Rattle.bus_lock.specs.Views.{numbers, EachView}
use Rattle.bus_lock.specs.Rule.{Legal, Kept}

-- a view with empty lists that holds nothing
abbrev pub IsEmpty : View → Type 0
IsEmpty v = (v.own ≡ []) × (v.joined ≡ []) × (v.held ≡ None)

-- k stands in exactly one view's lists, once
abbrev pub StandsOnce : ℕ → List View → Type 0
StandsOnce k views =
    (id : ℕ) × (v : View) × (get_elem? views id ≡ some v) × (times k (numbers v) ≡ 1)
    × ((other : ℕ) (w : View) → other ≢ id → get_elem? views other ≡ some w → times k (numbers w) ≡ 0)

module _ {S : Type 0} where
  -- word 0, the count of the history
  abbrev pub count_in : State S View → ℕ
  count_in s = slice_index s.words 0

  -- word 1
  abbrev pub lock_in : State S View → ℕ
  lock_in s = slice_index s.words 1

  -- 1. Of any two known lists one begins with the other.
  abbrev pub OneBegins : State S View → Type 0
  OneBegins s = EachView (λ v. EachView (λ w. StartsWith v.known w.known ⊎ StartsWith w.known v.known) s.views) s.views

  -- 2. What a view has reached is at least the length of its known list, and at most the count.
  abbrev pub ReachesBetween : State S View → Type 0
  ReachesBetween s = EachView (λ v. (length v.known ≤ v.reached) × (v.reached ≤ count_in s)) s.views

  -- 3. The shares of all views add up to 1,024. A view with share 0 has empty lists and holds nothing.
  abbrev pub SharesAddUp : State S View → Type 0
  SharesAddUp s = (total (λ (v : View). v.share) s.views ≡ 1024) × EachView (λ v. v.share ≡ 0 → IsEmpty v) s.views

  -- 4. Each number below the count stands in exactly one view's lists, once. No other number stands in a view's lists.
  abbrev pub EachNumberOnce : State S View → Type 0
  EachNumberOnce s =
      ((k : ℕ) → k < count_in s → StandsOnce k s.views)
      × ((k : ℕ) → count_in s ≤ k → EachView (λ v. times k (numbers v) ≡ 0) s.views)

  -- 5. A view's numbers are below the length of its known list.
  abbrev pub NumbersAreKnown : State S View → Type 0
  NumbersAreKnown s = EachView (λ v. AllBelow (length v.known) (numbers v)) s.views

  -- 6. Where word 1 is 1, exactly one view holds. Its known list is the longest, and its length is the count.
  abbrev pub HoldsWhileOut : State S View → Type 0
  HoldsWhileOut s =
      lock_in s ≡ 1
      → (id : ℕ) × (v : View) × (get_elem? s.views id ≡ some v) × (v.held ≡ Some v.known)
      × (length v.known ≡ count_in s)
      × ((other : ℕ) (w : View) → other ≢ id → get_elem? s.views other ≡ some w →
      (w.held ≡ None) × (length w.known ≤ length v.known))

module _ {H : Type 0} (told : H → Hosting) (vcpus : ℕ) (input : List ℕ) where
  -- 7. Where word 1 is 0, no view holds, and the host is home. It is legal, each known list begins its history, and
  -- its history's length is the count.
  abbrev pub LegalWhileHome : State (Option H) View → Type 0
  LegalWhileHome s =
      lock_in s ≡ 0
      → EachView (λ v. v.held ≡ None) s.views
      × (host : H) × (log : List Entry) × (get_elem? s.homes 0 ≡ some (some (Some host)))
      × Legal told vcpus input host log × EachView (λ v. StartsWith log v.known) s.views × (length log ≡ count_in s)

-- a part holds wherever the rule does
abbrev pub Implies : {H : Type 0} → (H → Hosting) → (ℕ → List ℕ → State (Option H) View → Type 0) → Type 0
Implies {H} told Part =
    (vcpus : ℕ) (input : List ℕ) (s : State (Option H) View) → Kept told vcpus input s → Part vcpus input s
