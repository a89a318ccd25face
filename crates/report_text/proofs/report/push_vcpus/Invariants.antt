use Rattle.std.proofs.Common.{◌≡◌, ◌++◌}
use Rattle.std.specs.Prelude.{drop}
use Rattle.report_text.specs.Report.{vcpu_lines}
use Rattle.report_text.proofs.report.push_vcpus.Given as goal

-- what is written and the lines that are left are all lines
abbrev pub invariant-loop-vcpu : goal.invariant-loop-vcpu
invariant-loop-vcpu l =
    l.text.items ++ vcpu_lines l.vcpu (drop l.vcpu l.ends) (drop l.vcpu l.steps) ≡ l.fn.text.items ++ vcpu_lines 0 l.ends l.steps
