-- What a run with a worker for each vCPU leaves.
use Rattle.std.specs.Prelude.{◌≡◌, ℕ, List, Some, slice_get}
use Rattle.image_file.specs.Image.{Contents}
use Rattle.event_table.specs.declared.turn.Entry.{Entry}
use Rattle.event_table.specs.declared.turn.Finished.{Finished}
use Rattle.event_table.specs.Turns.{turns_of}
use Rattle.guest_interp.specs.Stepping.{Standstill, next_within, start_of}
use Rattle.device_bus.specs.Devices.{Devices, opening}
use Rattle.device_bus.specs.History.{IsLegal}
use Rattle.host_events.specs.Hosting.{Hosting}
use Rattle.plain_machine.specs.Plain.{Machine, plain_run, steps_of, ends_of}
use Rattle.merged_runs.specs.Merge.{Passes}

-- The host tells its devices and its history, which is legal for the image's vCPUs and the input. The order is that
-- history's.
pub record IsLegalOrder (image : Contents) (input : List ℕ) (f : Finished) (h : Hosting) : Type 0 where
  pub vcpus : h.vcpus ≡ image.header.vcpus
  pub log : List Entry
  pub history : h.history ≡ Some log
  pub left : Devices
  pub devices : h.devices ≡ Some left
  pub legal : IsLegal log left image.header.vcpus input
  pub order : f.order.items ≡ turns_of log

-- The order has a plain run. Its events are the host's history and its devices the host's, so its console is. Steps and
-- ends are those of this run.
pub record RanAlong (image : Contents) (budget : ℕ) (input : List ℕ) (f : Finished) (h : Hosting) : Type 0 where
  pub machine : Machine
  pub plain : plain_run image budget input f.order.items ≡ Some machine
  pub history : h.history ≡ Some machine.events
  pub devices : h.devices ≡ Some machine.devices
  pub steps : f.steps.items ≡ steps_of machine.stops
  pub ends : f.ends.items ≡ ends_of machine.stops
  -- The entries of each vCPU are the events that its worker came to on its way from its start to its end, each once
  -- and in its order, and each was answered by the devices as the entries before it had left them.
  pub events : (i : ℕ) (to : Standstill) → slice_get machine.stops i ≡ Some to →
      Passes image budget i (opening image.header.vcpus input) machine.events (next_within budget (start_of image i)) to
