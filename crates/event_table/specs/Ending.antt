-- Which ends are a vCPU's own.
use Rattle.event_table.specs.declared.end.End.{End}
use Rattle.event_table.specs.declared.end.End.TheVariants.{Spent, Terminated}
use Rattle.event_table.specs.Plan.{Stepped, Moved, Exits, Stops}

-- An instruction or an exception made it: neither was the budget used up, nor did the guest end its communication with the host.
abbrev pub IsOwnEnd : End → Type 0
IsOwnEnd Spent = ⊥
IsOwnEnd (Terminated reason) = ⊥
IsOwnEnd _ = Unit {0}

-- the vCPU goes on, or stops by an end of its own; nothing more is asked
abbrev pub IsOver : Stepped → Type 0
IsOver (Moved v) = Unit {0}
IsOver (Exits event v) = ⊥
IsOver (Stops end v) = IsOwnEnd end
