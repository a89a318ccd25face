use Rattle.std.proofs.Common.{◌≡◌, ◌∙◌, ◌*◌, ◌≤◌, ap, sym, subst}
use Rattle.x86_base.specs.Widths.{size_of}
use Rattle.image_file.specs.Ram.{Memory}
use Rattle.event_table.specs.Elements.{element_width, is_input, numbers_in}
use Rattle.event_table.specs.Places.{Vcpu, vcpu}
use Rattle.event_table.specs.Plan.{Setting, Moved, setting}
use Rattle.string_io.specs.Blocks.{bytes_reply, past, ram_with}
use Rattle.string_io.proofs.Along.{CanPlace, at_of}
use Rattle.string_io.proofs.Past.{any_ram, block_some, pass_values, ram_then}
use Rattle.string_io.proofs.Whole.{BlockSays, block_fits, block_says, can_block, length-numbers_in, placed_takes, size_is}
use Rattle.string_io.proofs.placing.place_block.Goals as goal

pub pass-requires : goal.pass-requires
pass-requires c =
    let i = c.args.insn.now in
    let b = c.args.block.now in
    let v : Vcpu = vcpu c.args.regs.now c.args.ram.now in
    let can : CanPlace i (setting v i.len) b.count v = can_block i v b c.sixteen.ensures.full (block_says i v b c.requires.block) in
    record { enough = λ ram. subst (λ left. b.count ≤ left) (any_ram i.rep c.args.regs.now c.args.ram.now ram) can.enough }

pub returns : goal.returns
returns c =
    let i = c.args.insn.now in
    let b = c.args.block.now in
    let v : Vcpu = vcpu c.args.regs.now c.args.ram.now in
    let s : Setting = setting v i.len in
    let values = numbers_in b.size b.count c.args.bytes.now in
    let says : BlockSays i v b = block_says i v b c.requires.block in
    let room : b.count * size_of (element_width i) ≤ 2032 = subst (λ size. b.count * size ≤ 2032) (size_is i v b says) (block_fits i v b says) in
    let ram : c.write_elements.new.ram ≡ ram_then i s values v =
    c.write_elements.ensures.written ∙ ap (λ size. ram_with (is_input i.op) size s.df values (at_of i v) v.ram) (size_is i v b says) in
    record {
      placed =
          ap (λ (v : Vcpu). Moved v) (c.pass.ensures.passed c.write_elements.new.ram)
          ∙ ap (λ (ram : Memory). Moved (past i b.count (vcpu c.args.regs.now ram))) ram
          ∙ sym (pass_values i s b.count values v (length-numbers_in b.size b.count c.args.bytes.now) (block_some i v b says) (can_block i v b c.sixteen.ensures.full says) room)
          ∙ sym (placed_takes i v b (bytes_reply c.args.bytes.now) says);
    }
