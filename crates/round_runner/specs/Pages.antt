-- The pages on which a vCPU is served.
use Rattle.std.specs.Prelude.{ℕ, zero, suc, ◌==◌, if◌then◌else◌, List, [], ◌∷◌, ◌++◌, Option, Some, None}
use Rattle.page_words.specs.declared.item.Item.{Item}
use Rattle.page_words.specs.declared.item.Item.TheVariants.{Exit}
use Rattle.page_words.specs.Told.{Kept, blank, kept_after_all}
use Rattle.device_bus.specs.Devices.{Devices}
use Rattle.event_table.specs.declared.turn.Entry.{Entry}
use Rattle.device_bus.specs.History.{after_event}
use Rattle.host_events.specs.Hosting.{Given}
use Rattle.host_events.specs.Served.{served}
use Rattle.vc_handler.specs.Version.{question}
use Rattle.vc_handler.specs.Wire.{wire}

-- The exchanges before the first event, by their numbers: the MSR word that each asks, none after the last.
abbrev pub exchange : ℕ → Option ℕ
exchange zero = Some question
exchange _ = None

-- how many there are
abbrev pub exchanges : ℕ
exchanges = 1

-- the pages of a vCPU that were served, and what the last serve left of its page
pub record Talked : Type 0 where
  pub pages : List Kept
  pub left : Kept

-- nothing was served, and the page is of zeros
abbrev pub untalked : Talked
untalked = record { pages = []; left = blank }

-- vCPU i says this on what was left of its page, and is served
abbrev pub says : ℕ → List Item → Devices → Talked → Talked
says i items d t = record {
  pages = t.pages ++ kept_after_all t.left items ∷ [];
  left = (served i (kept_after_all t.left items) d).page;
}

abbrev pub asks : ℕ → Option ℕ → Devices → Talked → Talked
asks i (Some word) d t = says i (Exit word ∷ []) d t
asks i None d t = t

-- the first so many exchanges
abbrev pub met : ℕ → Devices → ℕ → Talked
met i d zero = untalked
met i d (suc n) = asks i (exchange n) d (met i d n)

abbrev pub shows_if : ℕ → Entry → Devices → Talked → Talked
shows_if i entry d t = if entry.vcpu == i then says i (wire i entry.event) d t else t

-- its events among these, each with the devices as they were then
abbrev pub shown_all : ℕ → Devices → List Entry → Talked → Talked
shown_all i d [] t = t
shown_all i d (entry ∷ entries) t = shown_all i (after_event d entry.vcpu entry.event) entries (shows_if i entry d t)

-- so many exchanges, and then its events in a history
abbrev pub talked : ℕ → ℕ → Devices → List Entry → Talked
talked n i d entries = shown_all i d entries (met i d n)

-- those of vCPU i among the pages that a host was given
abbrev pub pages_of : ℕ → List Given → List Kept
pages_of i [] = []
pages_of i (given ∷ more) = if given.vcpu == i then given.page ∷ pages_of i more else pages_of i more
