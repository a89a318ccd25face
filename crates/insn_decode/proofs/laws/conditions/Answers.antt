use Rattle.insn_decode.proofs.EveryRow.{has_condition}
use Rattle.insn_decode.proofs.laws.conditions.Goals as goal

pub returns : goal.returns
returns c = record { law = has_condition }
