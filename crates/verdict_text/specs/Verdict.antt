-- A verdict in print.
use Rattle.std.specs.Prelude.{ℕ, List, ◌++◌, codes}
use Rattle.show_text.specs.Number.{labelled, line_end}
use Rattle.trace_text.specs.End.{end_line}
use Rattle.secret_labels.specs.declared.verdict.Verdict.{Verdict}
use Rattle.secret_labels.specs.declared.verdict.Verdict.TheVariants.{Clean, Flows}
use Rattle.secret_labels.specs.declared.verdict.What.{What}
use Rattle.secret_labels.specs.declared.verdict.What.TheVariants.{Branch, Address, Named}

-- what a label was used for
abbrev pub use_text : What → List ℕ
use_text Branch = codes "branch"
use_text Address = codes "address"
use_text Named = codes "named"

-- a clean run with the line of its end; or the steps before the first use, and its kind
abbrev pub verdict_text : Verdict → List ℕ
verdict_text (Clean end steps) = codes "clean" ++ (line_end ++ end_line end steps)
verdict_text (Flows step what) = labelled (codes "flows ") step ++ (codes " " ++ (use_text what ++ line_end))
