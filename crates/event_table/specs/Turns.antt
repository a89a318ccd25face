-- The order in which events were served.
use Rattle.std.specs.Prelude.{List, map}
use Rattle.event_table.specs.declared.turn.Entry.{Entry}
use Rattle.event_table.specs.declared.turn.Turn.{Turn}
use Rattle.event_table.specs.Lawful.{count_of}

-- the turn that an entry is
abbrev pub turn_of : Entry → Turn
turn_of entry = record { vcpu = entry.vcpu; count = count_of entry.event }

abbrev pub turns_of : List Entry → List Turn
turns_of entries = map turn_of entries
