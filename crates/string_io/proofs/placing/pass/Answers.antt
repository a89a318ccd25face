use Rattle.std.proofs.Common.{[], ap, arith}
use Rattle.event_table.specs.Places.{Value, as_number}
use Rattle.image_file.specs.Ram.{Memory}
use Rattle.string_io.proofs.placing.pass.Goals as goal

pub overflow_sub-left : goal.overflow_sub-left
overflow_sub-left c =
    let ram : Memory = record { bytes = []; code = 0 } in
    let left = ap (λ (value : Value). as_number value) (c.left-left.ensures.value ram) in
    omega (arith, left, c.requires.enough ram)
