use Rattle.std.proofs.Common.{◌≡◌, ℕ, ◌<◌, length, get_or}
use Rattle.ghcb_layout.specs.Bytes.{word_at}
use Rattle.ghcb_layout.proofs.bytes.page_from_bytes.Given as goal

abbrev pub invariant-loop-number : goal.invariant-loop-number
invariant-loop-number l = record {
  words : (k : ℕ) → k < l.number → get_or l.page.words k 0 ≡ word_at l.bytes k;
  count : length l.page.words ≡ 512;
  msr : l.page.msr ≡ 0;
}
