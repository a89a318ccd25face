use Rattle.plain_machine.specs.Plain.{Machine, visits}
use Rattle.plain_machine.specs.Standing.{Fits, Stands}
use Rattle.plain_machine.proofs.machine.PlainMachine.round.Given as goal

-- it is the machine after the first visits
abbrev pub invariant-loop-number : goal.invariant-loop-number
invariant-loop-number l = record {
  fits : Fits l.image l.self;
  stands : (m : Machine) → Stands l.fn.self m → Stands l.self (visits l.image l.budget l.number m);
}
