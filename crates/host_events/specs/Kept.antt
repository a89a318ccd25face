-- A history as it is kept: entries without bytes, and the bytes of all blocks in one list.
use Rattle.std.specs.Prelude.{ℕ, ◌+◌, ◌≤◌, List, [], ◌∷◌, map, take, drop}
use Rattle.event_table.specs.declared.block.Block.{Block}
use Rattle.event_table.specs.declared.event.Event.{Event}
use Rattle.event_table.specs.declared.event.Event.TheVariants as event
use Rattle.event_table.specs.declared.turn.Entry.{Entry}
use Rattle.event_table.specs.Rows.{block}
use Rattle.host_events.specs.declared.history.KeptBlock.{KeptBlock}
use Rattle.host_events.specs.declared.history.KeptEvent.{KeptEvent}
use Rattle.host_events.specs.declared.history.KeptEvent.TheVariants.{One, Many}
use Rattle.host_events.specs.declared.history.KeptEntry.{KeptEntry}

-- the block whose bytes stand among these
abbrev pub block_kept : List ℕ → KeptBlock → Block
block_kept bytes b = block b.port b.size b.input b.rep b.count (take b.len (drop b.start bytes))

abbrev pub event_kept : List ℕ → KeptEvent → Event
event_kept bytes (One access) = event.One access
event_kept bytes (Many b) = event.Many (block_kept bytes b)

abbrev pub entry_kept : List ℕ → KeptEntry → Entry
entry_kept bytes e = record { vcpu = e.vcpu; event = event_kept bytes e.event }

abbrev pub entries_kept : List ℕ → List KeptEntry → List Entry
entries_kept bytes entries = map (λ e. entry_kept bytes e) entries

-- the bytes of an event lie within so many
abbrev pub IsWithin : ℕ → KeptEvent → Type 0
IsWithin bytes (One access) = Unit {0}
IsWithin bytes (Many b) = b.start + b.len ≤ bytes

abbrev pub AreWithin : ℕ → List KeptEntry → Type 0
AreWithin bytes [] = Unit {0}
AreWithin bytes (e ∷ entries) = IsWithin bytes e.event × AreWithin bytes entries
