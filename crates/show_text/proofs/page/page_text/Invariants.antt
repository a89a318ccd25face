use Rattle.std.proofs.Common.{◌≡◌, ◌*◌, ◌≤◌, length}
use Rattle.std.specs.List.{flat_map, range_with_len}
use Rattle.show_text.specs.Page.{valid_line}
use Rattle.show_text.proofs.page.page_text.Given as goal

abbrev pub invariant-loop-number : goal.invariant-loop-number
invariant-loop-number l = record {
  lines : l.text ≡ flat_map (valid_line l.page) (range_with_len 0 l.number);
  size : length l.text ≤ 27 * l.number;
}
