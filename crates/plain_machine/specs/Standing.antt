-- Which plain machine the code's machine is.
use Rattle.std.specs.Prelude.{◌≡◌, length}
use Rattle.image_file.specs.Image.{Contents}
use Rattle.event_table.specs.Turns.{turns_of}
use Rattle.plain_machine.specs.declared.machine.PlainMachine.{PlainMachine}
use Rattle.plain_machine.specs.Plain.{Machine}

-- the machine has the image's vCPUs, and its devices know them
pub record Fits (image : Contents) (machine : PlainMachine) : Type 0 where
  pub many : length machine.vcpus.items ≡ image.header.vcpus
  pub known : machine.bus.devices.vcpus ≡ image.header.vcpus

-- its vCPUs stop where those of m stop, its devices are those of m, and its order is that of the events of m
pub record Stands (machine : PlainMachine) (m : Machine) : Type 0 where
  pub stops : machine.vcpus.items ≡ m.stops
  pub devices : machine.bus.devices ≡ m.devices
  pub order : machine.order.items ≡ turns_of m.events
