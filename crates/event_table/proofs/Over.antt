-- Where nothing more is asked.
use Rattle.std.proofs.Common.{ℕ, Bool, true, false}
use Rattle.std.specs.Prelude.{◌==◌, if◌then◌else◌}
use Rattle.image_file.specs.Image.{Contents}
use Rattle.event_table.specs.declared.end.End.TheVariants.{BadAddress, Fault}
use Rattle.event_table.specs.Places.{Vcpu}
use Rattle.event_table.specs.Ending.{IsOver}
use Rattle.event_table.specs.Plan.{Plan, Ends, Change, goes, stepped}
use Rattle.event_table.specs.Raising.{handler_of, step_raised}

ends_over : (b : Bool) (v : Vcpu) (vector : ℕ) (p : Plan) → IsOver (stepped v p) → IsOver (stepped v (if b then Ends (Fault vector) else p))
ends_over true v vector p over = tt
ends_over false v vector p over = over

goes_over : (b : Bool) (v : Vcpu) (change : Change) (at : ℕ) → IsOver (stepped v (if b then goes change else Ends (BadAddress at)))
goes_over true v change at = tt
goes_over false v change at = tt

-- an exception that was raised is over
pub raised_over : (image : Contents) (vector code : ℕ) (v : Vcpu) → IsOver (step_raised image vector code v)
raised_over image vector code v = ends_over (handler_of image.header vector == 0) v vector _ (goes_over _ v _ _)
