use Rattle.guest_interp.proofs.Guarded.{code_stays}
use Rattle.guest_interp.proofs.laws.code_stays.Goals as goal

pub returns : goal.returns
returns c = record { law = code_stays }
