-- What a run leaves, and what a run in rounds leaves.
use Rattle.std.specs.Prelude.{◌≡◌, ℕ, ◌<◌, List, Some, IfSome}
use Rattle.image_file.specs.Image.{Contents}
use Rattle.event_table.specs.declared.turn.Finished.{Finished}
use Rattle.device_bus.specs.Devices.{opening}
use Rattle.device_bus.specs.History.{IsLegal}
use Rattle.host_events.specs.Hosting.{Hosting}
use Rattle.plain_machine.specs.Ends.{AreUnterminated}
use Rattle.plain_machine.specs.Plain.{Machine, plain_run, rounds_order, steps_of, ends_of}
use Rattle.round_runner.specs.Pages.{exchanges, talked, pages_of}

-- The order has a plain run. Steps, ends, devices and history are those of this run, the history is legal, and no vCPU
-- ended by a termination of its communication with the host.
pub record Ran (image : Contents) (budget : ℕ) (input : List ℕ) (f : Finished) (h : Hosting) : Type 0 where
  pub machine : Machine
  pub plain : plain_run image budget input f.order.items ≡ Some machine
  pub steps : f.steps.items ≡ steps_of machine.stops
  pub ends : f.ends.items ≡ ends_of machine.stops
  pub devices : h.devices ≡ Some machine.devices
  pub history : h.history ≡ Some machine.events
  pub legal : IsLegal machine.events machine.devices image.header.vcpus input
  pub unterminated : AreUnterminated f.ends.items
  -- The pages of each vCPU, in order: those of its exchanges and of its events, each said on what the last serve left.
  pub pages : IfSome h.pages (λ given. (i : ℕ) → i < image.header.vcpus →
      pages_of i given ≡ (talked exchanges i (opening image.header.vcpus input) machine.events).pages)

-- and the order is that of rounds
pub record RanRounds (image : Contents) (budget : ℕ) (input : List ℕ) (f : Finished) (h : Hosting) : Type 0 where
  pub ran : Ran image budget input f h
  pub order : f.order.items ≡ rounds_order image budget input
