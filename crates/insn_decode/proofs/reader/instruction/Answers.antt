use Rattle.insn_decode.proofs.Whole.{steps_leave}
use Rattle.insn_decode.proofs.reader.instruction.Goals as goal

pub overflow_sub-window : goal.overflow_sub-window
overflow_sub-window c = (steps_leave c.args.window.now (c.prefixes.result.0, c.prefixes.result.1.now) (c.rex.result.0, c.rex.result.1.now) (c.in_ok-row.row, c.in_ok-row.rest.now) (c.in_ok-tail.tail.now, c.in_ok-tail.rest.now)
    c.prefixes.ensures c.rex.ensures c.in_ok-row.ensures c.in_ok-tail.ensures).0

pub insn-requires : goal.insn-requires
insn-requires c = (steps_leave c.args.window.now (c.prefixes.result.0, c.prefixes.result.1.now) (c.rex.result.0, c.rex.result.1.now) (c.in_ok-row.row, c.in_ok-row.rest.now) (c.in_ok-tail.tail.now, c.in_ok-tail.rest.now)
    c.prefixes.ensures c.rex.ensures c.in_ok-row.ensures c.in_ok-tail.ensures).1
