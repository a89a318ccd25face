use Rattle.insn_decode.proofs.Whole.{one_spelling}
use Rattle.insn_decode.proofs.laws.one_spelling.Goals as goal

pub returns : goal.returns
returns c = record { law = one_spelling }
