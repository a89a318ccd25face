use Rattle.std.proofs.Common.{◌≡◌, ◌∙◌, ℕ, suc, ◌+◌, ◌-◌, ◌∷◌, List, length, drop, ap, sym, arith, refl, subst, true, nat_le}
use Rattle.std.specs.Prelude.{nat_lt, not, ◌&&◌}
use Rattle.x86_base.specs.declared.reg.Reg.{Reg}
use Rattle.x86_base.specs.Registers.{whole}
use Rattle.x86_base.specs.Widths.{size_of}
use Rattle.image_file.specs.Ram.{Memory}
use Rattle.event_table.specs.Elements.{element_width, next_address, numbers_in}
use Rattle.event_table.specs.Places.{Vcpu, vcpu}
use Rattle.event_table.specs.Plan.{Setting, setting}
use Rattle.string_io.specs.Blocks.{written}
use Rattle.string_io.proofs.Along.{Movable, at_of}
use Rattle.string_io.proofs.Runs.{wrote}
use Rattle.string_io.proofs.Whole.{BlockSays, block_fits, block_says, inputs_move, numbers_more, size_is, value_at}
use Rattle.string_io.proofs.placing.write_elements.Goals as goal

pub loop-init : goal.loop-init
loop-init c =
    let v : Vcpu = vcpu c.args.regs.now c.args.ram.now in
    let says : BlockSays c.args.insn.now v c.args.block.now = block_says c.args.insn.now v c.args.block.now c.requires.block in
    let at : c.get-at.result ≡ at_of c.args.insn.now v = c.get-at.ensures.value ∙ ap (λ (reg : Reg). whole reg c.args.regs.now) c.pointer.ensures.value in
    let all : c.args.block.now.count - 0 ≡ c.args.block.now.count = omega arith in
    record {
      moves = inputs_move c.args.insn.now v c.args.block.now (c.args.block.now.count - 0) c.get-at.result says c.if-not-block.false all at;
      same_size = refl;
      same_code = refl;
      index = grind arith;
      room = block_fits c.args.insn.now v c.args.block.now says;
      rest =
          ap
          (λ n. written c.args.block.now.size c.args.regs.now.flags.df (numbers_in c.args.block.now.size n c.args.bytes.now) c.get-at.result c.args.ram.now)
          all;
    }

pub loop-preserved : goal.loop-preserved
loop-preserved c =
    let i = c.args.insn.now in
    let b = c.args.block.now in
    let v0 : Vcpu = vcpu c.args.regs.now c.args.ram.now in
    let s : Setting = setting v0 i.len in
    let w = element_width i in
    let m = b.count - (c.loop.counter + 1) in
    let x = c.number-value.result in
    let at = c.loop.at in
    let ram = c.loop.ram in
    let next = c.loop.from + c.from-from.result in
    let xs = numbers_in b.size m (drop next c.args.bytes.now) in
    let e : b.count - c.loop.counter ≡ suc m = omega arith in
    let size : size_of w ≡ b.size = sym (size_is i v0 b (block_says i v0 b c.requires.block)) in
    let moves : Movable true w s (suc m) at = subst (λ n. Movable true w s n at) e c.loop.invariant.moves in
    let can : (nat_le (at + b.size) (length ram.bytes) && not (nat_lt at ram.code)) ≡ true =
    ap (λ n. nat_le (at + n) (length ram.bytes) && not (nat_lt at ram.code)) (sym size)
    ∙ ap (λ n. nat_le (at + size_of w) n && not (nat_lt at ram.code)) c.loop.invariant.same_size
    ∙ ap (λ n. nat_le (at + size_of w) s.ram && not (nat_lt at n)) c.loop.invariant.same_code
    ∙ moves.0 in
    let went = wrote ram c.write.new.self at b.size x c.write.result can c.write.ensures.written c.write.ensures.refused in
    let further : next_address s.df b.size at ≡ c.next_address-at.result = ap (λ n. next_address s.df n at) (sym c.from.ensures) ∙ sym c.next_address-at.ensures.value in
    let value = value_at b.size c.loop.from c.args.bytes.now ∙ sym c.number-value.ensures.value in
    let more = numbers_more (b.count - c.loop.counter) m b.size c.loop.from next x c.args.bytes.now e value (ap (λ n. c.loop.from + n) c.from-from.ensures) in
    let all : Memory = written b.size s.df (numbers_in b.size b.count c.args.bytes.now) c.get-at.result c.args.ram.now in
    let rest : written b.size s.df (x ∷ xs) at ram ≡ all = subst (λ (xs : List ℕ). written b.size s.df xs at ram ≡ all) more c.loop.invariant.rest in
    record {
      moves = subst (λ at. Movable true w s m at) (ap (λ n. next_address s.df n at) size ∙ further) moves.1;
      same_size = c.write.ensures.size ∙ c.loop.invariant.same_size;
      same_code = ap (λ (m : Memory). m.code) went ∙ c.loop.invariant.same_code;
      index = rw (c.loop.invariant.index, c.from-from.ensures) (grind arith);
      room = c.loop.invariant.room;
      rest = ap (λ at. written b.size s.df xs at c.write.new.self) (sym further) ∙ ap (λ (ram : Memory). written b.size s.df xs (next_address s.df b.size at) ram) went ∙ rest;
    }
