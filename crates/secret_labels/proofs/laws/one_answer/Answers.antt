use Rattle.secret_labels.proofs.Stepped.{alike_results}
use Rattle.secret_labels.proofs.laws.one_answer.Goals as goal

pub returns : goal.returns
returns c = record { law = alike_results }
