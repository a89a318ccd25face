use Rattle.std.proofs.Common.{refl}
use Rattle.device_bus.specs.Devices.{blank}
use Rattle.device_bus.proofs.bus.blank_page.Goals as goal

pub returns : goal.returns
unfolding blank
returns c = record { value = refl }
