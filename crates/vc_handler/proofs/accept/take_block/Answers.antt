use Rattle.vc_handler.proofs.Taking.{block_taken}
use Rattle.vc_handler.proofs.accept.take_block.Goals as goal

pub returns-clause-reads : goal.returns-clause-reads
returns-clause-reads g c = block_taken c.args.block.now _ _ _ c.accept_block-reply.ensures.reads
