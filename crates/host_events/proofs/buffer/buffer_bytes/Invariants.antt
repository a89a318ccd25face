use Rattle.std.proofs.Common.{◌≡◌, ◌<◌, ◌≤◌, ◌+◌, ◌-◌, ◌*◌, ◌^◌, ◌++◌, length, take}
use Rattle.std.specs.Prelude.{All}
use Rattle.event_table.specs.Buffer.{bytes_from}
use Rattle.host_events.specs.Reading.{buffer_in, word_in, words_on}
use Rattle.host_events.proofs.buffer.buffer_bytes.Given as goal

abbrev pub invariant-loop-number : goal.invariant-loop-number
invariant-loop-number l = record {
  count : length l.bytes + l.left ≡ l.len;
  room : l.left ≤ 8 * (510 - l.number);
  fits : All (λ byte. byte < 2 ^ 8) l.bytes;
  rest :
      l.bytes ++ take l.left (bytes_from (words_on (word_in l.page) (510 - l.number) l.number))
      ≡ take l.len (buffer_in (word_in l.page));
}
