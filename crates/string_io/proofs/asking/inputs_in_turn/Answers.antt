use Rattle.std.proofs.Common.{◌≡◌, ◌+◌, ◌-◌, length, true, arith, ap}
use Rattle.event_table.specs.declared.places.Place.{Place}
use Rattle.event_table.specs.declared.places.Place.TheVariants.{Bytes}
use Rattle.event_table.specs.Elements.{can_move, element_width}
use Rattle.event_table.specs.Places.{vcpu}
use Rattle.event_table.specs.Plan.{Setting, setting}
use Rattle.string_io.proofs.Runs.{movable_more}
use Rattle.string_io.proofs.asking.inputs_in_turn.Goals as goal

pub loop-n-preserved : goal.loop-n-preserved
loop-n-preserved c =
    let s : Setting = setting (vcpu c.args.regs.now c.args.ram.now) c.args.insn.now.len in
    let w = element_width c.args.insn.now in
    let can : can_move true s (Bytes c.loop-n.element w) ≡ true = cc in
    let e = ap (length {A = Place}) (movable_more (c.args.most - c.loop-n.n) (c.args.most - (c.loop-n.n + 1)) c.loop-n.element c.next_address-element.result true w s (omega arith) can (cc)) in
    omega (arith, e)
