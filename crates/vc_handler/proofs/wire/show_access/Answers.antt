use Rattle.std.proofs.Common.{ap, ◌∙◌, subst}
use Rattle.page_words.specs.Told.{Makes}
use Rattle.event_table.specs.declared.row.Kind.{Kind}
use Rattle.event_table.specs.declared.row.Registers.{Registers}
use Rattle.event_table.specs.declared.row.Row.{Row}
use Rattle.event_table.specs.Rows.{event_row, registers_of}
use Rattle.mmio_access.specs.Shared.{bytes_written}
use Rattle.vc_handler.specs.Wire.{wire_of}
use Rattle.vc_handler.proofs.Showing.{wire_made}
use Rattle.vc_handler.proofs.wire.show_access.Goals as goal

pub returns : goal.returns
returns g c =
    let told = g.P.Page.told in
    let ghcb = c.args.ghcb in
    let bytes = bytes_written c.args.access.now in
    let row = c.row_of-row.result in
    let shown = c.registers_of-registers.result in
    let is_row = c.row_of-row.ensures.value ∙ ap (λ (k : Kind). event_row k) c.kind_of.ensures.value in
    let made = wire_made row shown bytes c.bitmap_of.result ghcb (told c.args.page.now) (told c.clear_bitmap.new.page) (told c.show_row.new.page) (told c.show_mmio.new.page) (told c.leave.new.page)
    (c.bitmap_of.ensures.value ghcb) c.clear_bitmap.ensures.makes c.show_row.ensures.makes c.show_mmio.ensures.makes c.leave.ensures.makes in
    record {
      makes = subst (λ (r : Row). Makes (told c.args.page.now) (wire_of ghcb r (registers_of c.args.access.now) bytes) (told c.leave.new.page)) is_row
          (subst (λ (s : Registers). Makes (told c.args.page.now) (wire_of ghcb row s bytes) (told c.leave.new.page)) c.registers_of-registers.ensures.value made);
    }
