use Rattle.guest_interp.proofs.Ended.{own_ends}
use Rattle.guest_interp.proofs.laws.own_ends.Goals as goal

pub returns : goal.returns
returns c = record { law = own_ends }
