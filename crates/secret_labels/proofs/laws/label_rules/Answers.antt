use Rattle.secret_labels.proofs.Facts.{label_rules}
use Rattle.secret_labels.proofs.laws.label_rules.Goals as goal

pub returns : goal.returns
returns c = record { law = label_rules }
