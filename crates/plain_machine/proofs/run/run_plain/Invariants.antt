use Rattle.plain_machine.specs.Plain.{machine_at_start, rounds}
use Rattle.plain_machine.specs.Standing.{Fits, Stands}
use Rattle.plain_machine.proofs.run.run_plain.Given as goal

-- it is the machine after so many rounds
abbrev pub invariant-loop-done : goal.invariant-loop-done
invariant-loop-done l = record {
  fits : Fits l.image l.machine;
  stands : Stands l.machine (rounds l.image l.budget l.done (machine_at_start l.image l.budget l.fn.input.items));
}
