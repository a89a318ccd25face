use Rattle.std.proofs.Common.{◌≡◌, ◌*◌, ◌<◌, take, length}
use Rattle.std.specs.List.{flat_map}
use Rattle.byteorder.specs.Endian.{little_bytes}
use Rattle.ghcb_layout.proofs.bytes.page_to_bytes.Given as goal

abbrev pub invariant-loop-number : goal.invariant-loop-number
invariant-loop-number l = record {
  written : take (8 * l.number) l.into ≡ flat_map (little_bytes 8) (take l.number l.page.words);
  count : 0 < l.number → length l.page.words ≡ 512;
}
