-- The rule of the lock's table, which each step keeps. Parts.antt says what it means.
-- Word 0 counts the history. Word 1 is 0 while the slot with the host is home, and 1 while a turn has the host.
use Rattle.std.specs.Prelude.{◌≡◌, ◌≢◌, ℕ, ◌⊎◌, ◌<◌, ◌≤◌, List, [], ◌∷◌, length, Option, Some, None}
use mathlib.Core.Option.{none, some}
use lib.ListN.{get_elem?}
use Rattle.atomic_table.specs.Table.{State}
use Rattle.event_table.specs.declared.turn.Entry.{Entry}
use Rattle.device_bus.specs.Devices.{Devices, opening}
use Rattle.device_bus.specs.History.{after_history}
use Rattle.host_events.specs.Hosting.{Hosting}
use Rattle.bus_lock.specs.declared.view.View.{View}
use Rattle.bus_lock.specs.Lists.{total, times, once_below, StartsWith, AllBelow}
use Rattle.bus_lock.specs.Views.{numbers, EachView}

-- the input that is left in the devices that are told
abbrev pub input_of : Option Devices → List ℕ
input_of (Some devices) = devices.input
input_of None = []

-- a host that was started and has served nothing: opened devices, and an empty history
abbrev pub IsOpened : Hosting → Type 0
IsOpened h = (h.devices ≡ Some (opening h.vcpus (input_of h.devices))) × (h.history ≡ Some [])

-- A view of a history: what it knows begins the history, and its numbers are of entries that it knows.
-- The lock's vCPUs and input stand in it, and a pass without a share has nothing.
pub record Fits (vcpus : ℕ) (input : List ℕ) (history : List Entry) (v : View) : Type 0 where
  pub known : StartsWith history v.known
  pub behind : StartsWith history v.shorter × (length v.shorter ≤ length v.known)
  pub met : length v.known ≤ v.reached
  pub reached : v.reached ≤ length history
  pub own : AllBelow (length v.known) (numbers v)
  pub terms : 0 < v.share → (v.vcpus ≡ vcpus) × (v.input ≡ input)
  pub spent : v.share ≡ 0 → (v.own ≡ []) × (v.joined ≡ []) × (v.held ≡ None)

module _ {H : Type 0} (told : H → Hosting) where
  -- The host tells this history, the lock's vCPUs, and as its devices what the history leaves of the opened ones.
  pub record Legal (vcpus : ℕ) (input : List ℕ) (host : H) (log : List Entry) : Type 0 where
    pub started : (told host).vcpus ≡ vcpus
    pub history : (told host).history ≡ Some log
    pub devices : (told host).devices ≡ Some (after_history (opening vcpus input) log)

  -- the host is in its slot, and no view holds it
  pub record Home (vcpus : ℕ) (input : List ℕ) (log : List Entry) (lock : ℕ) (s : State (Option H) View) : Type 0 where
    pub free : lock ≡ 0
    pub host : H
    pub here : s.homes ≡ some (Some host) ∷ []
    pub legal : Legal vcpus input host log
    pub unheld : EachView (λ v. v.held ≡ None) s.views

  -- one seat has the slot, and knows the whole history
  pub record Out (log : List Entry) (lock : ℕ) (s : State (Option H) View) : Type 0 where
    pub taken : lock ≡ 1
    pub away : s.homes ≡ none ∷ []
    pub holder : ℕ
    pub view : View
    pub at : get_elem? s.views holder ≡ some view
    pub held : view.held ≡ Some log
    pub whole : view.known ≡ log
    pub unheld : (id : ℕ) (v : View) → id ≢ holder → get_elem? s.views id ≡ some v → v.held ≡ None

  -- there is one history, which all views are of
  pub record Kept (vcpus : ℕ) (input : List ℕ) (s : State (Option H) View) : Type 0 where
    pub log : List Entry
    pub lock : ℕ
    pub words : s.words ≡ length log ∷ lock ∷ []
    pub place : Home vcpus input log lock s ⊎ Out log lock s
    pub views : EachView (Fits vcpus input log) s.views
    pub shares : total (λ (v : View). v.share) s.views ≡ 1024
    pub once : (k : ℕ) → total (λ (v : View). times k (numbers v)) s.views ≡ once_below k (length log)
