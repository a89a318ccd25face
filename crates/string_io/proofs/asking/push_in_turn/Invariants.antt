use Rattle.std.proofs.Common.{◌≡◌, ◌+◌, ◌-◌, ◌++◌, length}
use Rattle.event_table.specs.Elements.{bytes_of}
use Rattle.string_io.proofs.asking.push_in_turn.Given as goal

abbrev pub invariant-loop-i : goal.invariant-loop-i
invariant-loop-i l = record {
  room : length l.bytes ≡ length l.initial.bytes + l.i;
  whole : l.bytes ++ bytes_of (l.len - l.i) l.rest ≡ l.initial.bytes ++ bytes_of l.len l.value;
}
