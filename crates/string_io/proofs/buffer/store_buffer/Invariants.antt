use Rattle.std.proofs.Common.{◌+◌, ◌-◌, ◌*◌, ◌≤◌, drop}
use Rattle.std.specs.Prelude.{map}
use Rattle.page_words.specs.Told.{Told, Makes, store}
use Rattle.event_table.specs.Buffer.{numbered}
use Rattle.event_table.specs.Elements.{numbers_in}
use Rattle.string_io.specs.Buffers.{room_of}
use Rattle.string_io.proofs.buffer.store_buffer.Given as goal

abbrev pub invariant-loop-k : goal.invariant-loop-k
invariant-loop-k g l = record {
  few : l.words ≤ 254;
  room : room_of (g.P.Page.told l.fn.page) ≤ room_of (g.P.Page.told l.page) + l.k;
  rest : (w : Told) → Makes (g.P.Page.told l.page) (map store (numbered (256 + l.k) (numbers_in 8 (l.words - l.k) (drop (8 * l.k) l.bytes)))) w
      → Makes (g.P.Page.told l.fn.page) (map store (numbered 256 (numbers_in 8 l.words l.bytes))) w;
}
