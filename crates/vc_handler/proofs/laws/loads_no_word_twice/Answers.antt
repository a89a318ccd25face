use Rattle.vc_handler.proofs.Replying.{loads_once}
use Rattle.vc_handler.proofs.laws.loads_no_word_twice.Goals as goal

pub returns : goal.returns
returns c = record { law = loads_once }
