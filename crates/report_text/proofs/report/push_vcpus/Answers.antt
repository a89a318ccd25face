use Rattle.report_text.proofs.Lines.{all_written}
use Rattle.report_text.proofs.report.push_vcpus.Goals as goal

pub returns-in_default : goal.returns-in_default
returns-in_default c = record { text = all_written _ _ _ _ _ _ c.in_default.ensures.lookup.3 c.loop-vcpu.invariant }
