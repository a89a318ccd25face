use Rattle.plain_machine.proofs.PlainEnds.{runs_unterminated}
use Rattle.plain_machine.proofs.law.runs_unterminated.Goals as goal

pub returns : goal.returns
returns c = record { law = runs_unterminated }
