use Rattle.std.proofs.Common.{◌≡◌, ◌∙◌, ◌+◌, List, ◌∷◌, ap, sym, arith}
use Rattle.event_table.specs.declared.access.Access.{Access}
use Rattle.device_bus.specs.Devices.{Devices, after_access}
use Rattle.device_bus.specs.History.{after_accesses, value_in}
use Rattle.device_bus.proofs.Blocks.{accesses_from, accesses_more, bytes_more, bytes_same, full_more, full_same}
use Rattle.device_bus.proofs.block.block_bytes.Goals as goal
use Rattle.device_bus.proofs.block.block_bytes.Goals.{then-block, else-block}

pub loop-index-preserved : goal.loop-index-preserved
loop-index-preserved c =
    let b = c.args.block.now in
    let i = c.args.vcpu in
    let k = c.loop-index.index in
    let d = c.loop-index.bus.devices in
    let d2 = c.access-answer.new.self.devices in
    let a = c.element.result in
    let rest = accesses_from b (k + 1) in
    let more : accesses_from b k ≡ a ∷ rest =
    accesses_more b k c.loop-index-test.true ∙ ap (λ (x : Access). x ∷ rest) (sym c.element.ensures.value) in
    let moved : d2 ≡ after_access d i a = c.access-answer.ensures.devices in
    record {
      vcpus = c.access-answer.ensures.vcpus ∙ c.loop-index.invariant.vcpus;
      room = omega (arith, c.access-answer.ensures.room, c.loop-index.invariant.room);
      full = elim c.if-block.branch [
        | then-block w ↦ full_more b.input b.size k w.value_in.result c.loop-index.bytes c.if-block.bytes w.if-block.true
            (w.bytes-is ∙ w.push_number.ensures.appended) c.loop-index.invariant.full
        | else-block w ↦ full_same b.input b.size k c.loop-index.bytes c.if-block.bytes w.if-block.false w.bytes-is c.loop-index.invariant.full
      ];
      devices =
          ap (λ (d : Devices). after_accesses d i rest) moved ∙ sym (ap (λ (xs : List Access). after_accesses d i xs) more)
          ∙ c.loop-index.invariant.devices;
      bytes = elim c.if-block.branch [
        | then-block w ↦ bytes_more b.input b.size i w.value_in.result d d2 a (accesses_from b k) rest c.loop-index.bytes c.if-block.bytes _
            w.if-block.true moved (w.value_in.ensures.value ∙ ap value_in c.access-answer.ensures.answer)
            (w.bytes-is ∙ w.push_number.ensures.appended) more c.loop-index.invariant.bytes
        | else-block w ↦ bytes_same b.input b.size i d d2 (accesses_from b k) rest c.loop-index.bytes c.if-block.bytes _
            w.if-block.false w.bytes-is c.loop-index.invariant.bytes
      ];
    }
