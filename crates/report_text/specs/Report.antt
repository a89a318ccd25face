-- The report of a run.
use Rattle.std.specs.Prelude.{ℕ, ◌+◌, List, [], ◌∷◌, ◌++◌, codes, length}
use Rattle.event_table.specs.declared.end.End.{End}
use Rattle.event_table.specs.declared.turn.Turn.{Turn}
use Rattle.show_text.specs.Number.{labelled, line_end}
use Rattle.trace_text.specs.End.{end_text}

-- a line that is a number after its label
abbrev pub count_line : List ℕ → ℕ → List ℕ
count_line label number = labelled label number ++ line_end

-- how many bytes the console has, then these bytes and a line feed
abbrev pub console_part : List ℕ → List ℕ
console_part console = count_line (codes "console ") (length console) ++ (console ++ line_end)

-- a turn: its vCPU, and how many accesses it was given
abbrev pub turn_line : Turn → List ℕ
turn_line turn = labelled (codes "turn ") turn.vcpu ++ count_line (codes " ") turn.count

abbrev pub turn_lines : List Turn → List ℕ
turn_lines [] = []
turn_lines (turn ∷ turns) = turn_line turn ++ turn_lines turns

-- how many turns there were, then each of them in order
abbrev pub order_part : List Turn → List ℕ
order_part order = count_line (codes "turns ") (length order) ++ turn_lines order

-- a vCPU by its number: how it ended, and after how many steps
abbrev pub vcpu_line : ℕ → End → ℕ → List ℕ
vcpu_line i end steps = labelled (codes "vcpu ") i ++ (codes " " ++ (end_text end ++ count_line (codes " steps ") steps))

-- the vCPUs from number i on
abbrev pub vcpu_lines : ℕ → List End → List ℕ → List ℕ
vcpu_lines i (end ∷ ends) (steps ∷ more) = vcpu_line i end steps ++ vcpu_lines (i + 1) ends more
vcpu_lines i _ _ = []

-- the report of a run that put out these bytes, by its order and by the ends and the steps of its vCPUs
abbrev pub report_text : List ℕ → List Turn → List End → List ℕ → List ℕ
report_text console order ends steps = console_part console ++ (order_part order ++ vcpu_lines 0 ends steps)
