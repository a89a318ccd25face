use Rattle.secret_labels.proofs.Running.{up_to_use}
use Rattle.secret_labels.proofs.laws.up_to_use.Goals as goal

pub returns : goal.returns
returns c = record { law = up_to_use }
