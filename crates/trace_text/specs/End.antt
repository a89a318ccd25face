-- A vCPU's end in print.
use Rattle.std.specs.Prelude.{ℕ, List, ◌++◌, codes}
use Rattle.event_table.specs.declared.end.End.{End}
use Rattle.event_table.specs.declared.end.End.TheVariants.{Halted, Spent, Undecoded, BadAddress, Fault, Terminated}
use Rattle.event_table.specs.declared.end.Reason.{Reason}
use Rattle.event_table.specs.declared.end.Reason.TheVariants.{NoProtocol, BadStatus, BadException, MissingResult}
use Rattle.show_text.specs.Number.{labelled, labelled_hex, line_end}

abbrev pub reason_text : Reason → List ℕ
reason_text (NoProtocol word) = labelled_hex (codes "no-protocol ") word
reason_text (BadStatus word) = labelled_hex (codes "bad-status ") word
reason_text (BadException word) = labelled_hex (codes "bad-exception ") word
reason_text (MissingResult low high) = labelled_hex (codes "missing-result ") low ++ labelled_hex (codes " ") high

abbrev pub end_text : End → List ℕ
end_text Halted = codes "halted"
end_text Spent = codes "spent"
end_text Undecoded = codes "undecoded"
end_text (BadAddress at) = labelled_hex (codes "bad-address ") at
end_text (Fault vector) = labelled (codes "fault ") vector
end_text (Terminated reason) = codes "terminated " ++ reason_text reason

-- the line that tells how a vCPU ended, and after how many steps
abbrev pub end_line : End → ℕ → List ℕ
end_line end steps = codes "end " ++ (end_text end ++ (labelled (codes " steps ") steps ++ line_end))
