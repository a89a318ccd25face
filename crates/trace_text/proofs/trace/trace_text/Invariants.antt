use Rattle.std.proofs.Common.{◌≡◌, ◌++◌}
use Rattle.std.specs.Prelude.{drop}
use Rattle.trace_text.specs.Trace.{lines_of}
use Rattle.trace_text.proofs.trace.trace_text.Given as goal

-- what is written and the lines that are left are all lines
abbrev pub invariant-loop-item : goal.invariant-loop-item
invariant-loop-item l = l.text.items ++ lines_of (drop l.item-index l.items) ≡ lines_of l.items
