use Rattle.std.proofs.Common.{◌≡◌, ◌+◌, ◌-◌, ◌*◌}
use Rattle.std.specs.List.{range_with_len}
use Rattle.show_text.specs.Page.{first_some, field_beginning, field_in}
use Rattle.show_text.proofs.page.field_of.Given as goal

abbrev pub invariant-loop-offset : goal.invariant-loop-offset
invariant-loop-offset l = record {
  end : l.offset-end ≡ 8 * l.number + 8;
  searched : field_in l.number ≡ first_some field_beginning (range_with_len l.offset (8 * l.number + 8 - l.offset));
}
