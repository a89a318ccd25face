use Rattle.std.proofs.Common.{◌≡◌, length}
use Rattle.device_bus.specs.Devices.{opening}
use Rattle.host_events.specs.Hosting.{IsTelling}
use Rattle.round_runner.specs.Pages.{exchanges}
use Rattle.plain_machine.specs.Plain.{rounds, machine_at_start}
use Rattle.round_runner.proofs.Starting.{WasStarted}
use Rattle.round_runner.specs.Standing.{AreNumbered, Stands}
use Rattle.round_runner.proofs.rounds.run_rounds.Given as goal

-- so many exchanges were had
abbrev pub invariant-loop-met : goal.invariant-loop-met
invariant-loop-met g l = record {
  many : length l.seats.items ≡ l.image.header.vcpus;
  numbered : AreNumbered 0 l.seats.items;
  hosted : (g.H.Host.told l.host).vcpus ≡ l.image.header.vcpus;
  started : WasStarted l.image l.fn.input.items (g.H.Host.told l.fn.host) (g.H.Host.told l.host);
  stands : IsTelling (g.H.Host.told l.fn.host) →
      Stands l.image l.budget (opening l.image.header.vcpus l.fn.input.items) l.met 0 l.seats.items (g.H.Host.told l.host) l.order.items (machine_at_start l.image l.budget l.fn.input.items);
}

-- it stands for the machine after so many rounds
abbrev pub invariant-loop-done : goal.invariant-loop-done
invariant-loop-done g l = record {
  many : length l.seats.items ≡ l.image.header.vcpus;
  numbered : AreNumbered 0 l.seats.items;
  hosted : (g.H.Host.told l.host).vcpus ≡ l.image.header.vcpus;
  started : WasStarted l.image l.fn.input.items (g.H.Host.told l.fn.host) (g.H.Host.told l.host);
  stands : IsTelling (g.H.Host.told l.fn.host) →
      Stands l.image l.budget (opening l.image.header.vcpus l.fn.input.items) exchanges 0 l.seats.items (g.H.Host.told l.host) l.order.items (rounds l.image l.budget l.done (machine_at_start l.image l.budget l.fn.input.items));
}
