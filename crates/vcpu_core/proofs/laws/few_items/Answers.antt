use Rattle.vcpu_core.proofs.Few.{few_items}
use Rattle.vcpu_core.proofs.laws.few_items.Goals as goal

pub returns : goal.returns
returns c = record { law = few_items }
