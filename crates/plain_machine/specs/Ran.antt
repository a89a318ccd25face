-- What a run of the plain machine leaves.
use Rattle.std.specs.Prelude.{◌≡◌, ℕ, List, Some}
use Rattle.image_file.specs.Image.{Contents}
use Rattle.event_table.specs.declared.turn.Finished.{Finished}
use Rattle.plain_machine.specs.Ends.{AreUnterminated}
use Rattle.plain_machine.specs.Plain.{Machine, ends_of, plain_run, rounds_order, steps_of}

-- The order is that of rounds. The console, the steps and the ends are those of the plain run along it, and no end is a
-- termination.
pub record RanPlain (image : Contents) (budget : ℕ) (input : List ℕ) (f : Finished) (console : List ℕ) : Type 0 where
  pub order : f.order.items ≡ rounds_order image budget input
  pub machine : Machine
  pub plain : plain_run image budget input f.order.items ≡ Some machine
  pub output : console ≡ machine.devices.console
  pub steps : f.steps.items ≡ steps_of machine.stops
  pub ends : f.ends.items ≡ ends_of machine.stops
  pub unterminated : AreUnterminated f.ends.items
