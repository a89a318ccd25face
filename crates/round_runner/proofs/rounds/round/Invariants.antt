use Rattle.std.proofs.Common.{◌≡◌, ℕ, length}
use Rattle.device_bus.specs.Devices.{Devices}
use Rattle.round_runner.specs.Pages.{exchange}
use Rattle.plain_machine.specs.Plain.{Machine}
use Rattle.round_runner.specs.Started.{StaysStarted}
use Rattle.round_runner.specs.Standing.{AreNumbered, Stands, visits_by}
use Rattle.round_runner.proofs.rounds.round.Given as goal

-- it stands for the machine after the first visits
abbrev pub invariant-loop-i : goal.invariant-loop-i
invariant-loop-i g l = record {
  many : length l.seats ≡ l.image.header.vcpus;
  numbered : AreNumbered 0 l.seats;
  hosted : (g.H.Host.told l.host).vcpus ≡ l.image.header.vcpus;
  started : StaysStarted (g.H.Host.told l.fn.host) (g.H.Host.told l.host);
  stands : (d : Devices) (n : ℕ) (m : Machine) → Stands l.image l.budget d n 0 l.fn.seats (g.H.Host.told l.fn.host) l.fn.order.items m →
      Stands l.image l.budget d n l.i l.seats (g.H.Host.told l.host) l.order.items (visits_by (exchange n) l.image l.budget l.i m);
}
