use Rattle.std.proofs.Common.{ℕ, ◌*◌, ◌<◌, ◌≤◌, ◌^◌, List, refl, sym, arith, subst}
use Rattle.std.specs.Prelude.{All, map}
use Rattle.x86_base.specs.Widths.{size_of}
use Rattle.event_table.specs.Elements.{is_input, movable, shown_of, element_width}
use Rattle.event_table.specs.Places.{Vcpu, read, vcpu}
use Rattle.event_table.specs.Plan.{setting}
use Rattle.string_io.proofs.Whole.{all_bytes, lone, room_kept}
use Rattle.string_io.proofs.asking.block.Goals as goal

pub returns-clause-lawful : goal.returns-clause-lawful
returns-clause-lawful c =
    let i = c.args.insn.now in
    let v : Vcpu = vcpu c.args.regs.now c.args.ram.now in
    let size = c.port_size-size.result in
    let count = c.elements-count.result in
    let few : count ≤ c.left-left.result = omega (arith, c.most-most.ensures.value, c.elements-count.ensures.few) in
    let some : 1 ≤ count = omega arith in
    let room : count * size ≤ 2032 = room_kept count c.most-most.result size c.elements-count.ensures.few c.most-most.ensures.room in
    record {
      port = omega arith;
      size = c.port_size-size.ensures.lawful;
      count = (some, room, λ bare. let one = lone i.rep v c.left-left.result (c.left-left.ensures.value c.args.ram.now) bare in omega arith);
      bytes = rw (c.elements-count.ensures.full, c.is_input.ensures.value, c.port_size-size.ensures.value) refl;
      fits = subst (λ (bytes : List ℕ). All (λ byte. byte < 2 ^ 8) bytes) (sym c.elements-count.ensures.data) (all_bytes (size_of (element_width i)) (map (read v) (shown_of i (movable (is_input i.op) (element_width i) (setting v i.len) c.most-most.result c.get-at.result))));
    }
