use Rattle.both_ends.proofs.Agreeing.{ends_agree}
use Rattle.both_ends.proofs.agree.Goals as goal

pub returns : goal.returns
returns c = record { law = ends_agree }
