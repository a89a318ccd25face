use Rattle.std.proofs.Common.{append_assoc}
use Rattle.trace_text.proofs.end.push_end.Goals as goal

pub returns-in-Terminated-clause-text : goal.returns-in-Terminated-clause-text
returns-in-Terminated-clause-text c = rw (c.in-Terminated.is, c.push_reason.ensures.text, c.push_str-in-Terminated.ensures.text) (simp append_assoc)
