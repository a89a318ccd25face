use Rattle.vc_handler.proofs.Taking.{number_taken}
use Rattle.vc_handler.proofs.accept.take_number.Goals as goal

pub returns-clause-reads : goal.returns-clause-reads
returns-clause-reads g c at = number_taken at c.args.len c.accept_mmio.result _ _ c.requires.len c.accept_mmio.ensures.reads
