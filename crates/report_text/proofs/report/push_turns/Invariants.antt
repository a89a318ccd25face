use Rattle.std.proofs.Common.{◌≡◌, ◌++◌}
use Rattle.std.specs.Prelude.{drop}
use Rattle.report_text.specs.Report.{turn_lines}
use Rattle.report_text.proofs.report.push_turns.Given as goal

-- what is written and the lines that are left are all lines
abbrev pub invariant-loop-turn : goal.invariant-loop-turn
invariant-loop-turn l = l.text.items ++ turn_lines (drop l.turn-index l.order) ≡ l.fn.text.items ++ turn_lines l.order
