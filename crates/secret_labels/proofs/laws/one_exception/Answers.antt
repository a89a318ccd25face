use Rattle.secret_labels.proofs.Stepped.{alike_raised}
use Rattle.secret_labels.proofs.laws.one_exception.Goals as goal

pub returns : goal.returns
returns c = record { law = alike_raised }
