use Rattle.std.proofs.Common.{◌≡◌, ◌+◌, ◌-◌, ◌*◌, ◌≤◌, ◌++◌, List, ℕ, take, length}
use Rattle.page_words.specs.Dialogue.{Reads}
use Rattle.page_words.specs.Programs.{pure}
use Rattle.page_words.specs.Told.{Told}
use Rattle.event_table.specs.Buffer.{bytes_from}
use Rattle.string_io.specs.Buffers.{loading_words, room_of}
use Rattle.string_io.proofs.buffer.load_buffer.Given as goal

abbrev pub invariant-loop-k : goal.invariant-loop-k
invariant-loop-k g l = record {
  few : l.words ≤ 254;
  full : length l.bytes ≡ 8 * l.k;
  room : room_of (g.P.Page.told l.fn.page) ≤ room_of (g.P.Page.told l.page) + l.k;
  rest : (w : Told) (x : List ℕ) → Reads (loading_words (l.words - l.k) (256 + l.k) (λ words. pure (take l.back (l.bytes ++ bytes_from words)))) x (g.P.Page.told l.page) w
      → Reads (loading_words l.words 256 (λ words. pure (take l.back (bytes_from words)))) x (g.P.Page.told l.fn.page) w;
}
