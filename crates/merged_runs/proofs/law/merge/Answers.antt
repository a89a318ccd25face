use Rattle.merged_runs.proofs.Merging.{merges}
use Rattle.merged_runs.proofs.law.merge.Goals as goal

pub returns : goal.returns
returns c = record { law = merges }
