use Rattle.std.proofs.Common.{List, length, ap, ◌∙◌}
use Rattle.device_bus.specs.Devices.{Bussed}
use Rattle.guest_interp.specs.Stepping.{Standstill}
use Rattle.plain_machine.proofs.PlainRounds.{length-first_stops}
use Rattle.plain_machine.proofs.machine.PlainMachine.start.Goals as goal

pub returns-clause-fits : goal.returns-clause-fits
returns-clause-fits c = record {
  many = ap (λ (ss : List Standstill). length ss) c.in_ok-first_vcpus.ensures.stops ∙ length-first_stops c.args.image.now c.args.budget 0 c.args.image.now.header.vcpus;
  known = ap (λ (b : Bussed). b.devices.vcpus) c.in_ok-start.ensures.ok ∙ c.vcpus.ensures.value;
}
