use Rattle.std.proofs.Common.{◌≡◌, List, Some, take}
use Rattle.event_table.specs.declared.turn.Entry.{Entry}
use Rattle.event_table.specs.Turns.{turns_of}
use Rattle.smp_runner.proofs.close.order_of.Given as goal

-- the first turns are read
abbrev pub invariant-loop-index : goal.invariant-loop-index
invariant-loop-index g l =
    (log : List Entry) → (g.H.Host.told l.host).history ≡ Some log → l.order.items ≡ take l.index (turns_of log)
