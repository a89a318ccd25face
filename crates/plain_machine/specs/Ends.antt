-- How the vCPUs of a plain run end.
use Rattle.std.specs.Prelude.{◌≡◌, ℕ, List, [], ◌∷◌, Some}
use Rattle.image_file.specs.Image.{Contents}
use Rattle.event_table.specs.declared.end.End.{End}
use Rattle.event_table.specs.declared.end.End.TheVariants.{Terminated}
use Rattle.event_table.specs.declared.turn.Turn.{Turn}
use Rattle.plain_machine.specs.Plain.{Machine, plain_run, ends_of}

-- none of these ends is a termination of the communication with a host
abbrev pub AreUnterminated : List End → Type 0
AreUnterminated [] = Unit {0}
AreUnterminated (Terminated reason ∷ ends) = ⊥
AreUnterminated (end ∷ ends) = AreUnterminated ends

-- No end of a plain run is a termination, along any order.
abbrev pub RunsUnterminated : Type 0
RunsUnterminated = (image : Contents) (budget : ℕ) (input : List ℕ) (order : List Turn) (m : Machine) →
    plain_run image budget input order ≡ Some m → AreUnterminated (ends_of m.stops)
