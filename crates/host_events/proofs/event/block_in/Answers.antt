use Rattle.std.proofs.Common.{◌∙◌, ap, sym}
use Rattle.event_table.specs.declared.block.Block.{Block}
use Rattle.event_table.specs.declared.event.Event.TheVariants.{Many}
use Rattle.event_table.specs.declared.row.Kind.{Kind}
use Rattle.host_events.specs.Reading.{event_in, word_in}
use Rattle.host_events.proofs.event.block_in.Goals as goal

pub returns-in-Outs-clause-value : goal.returns-in-Outs-clause-value
returns-in-Outs-clause-value c =
    ap (λ (b : Block). Many b) c.block_with.ensures.value
    ∙ ap (λ (k : Kind). event_in (λ n. word_in c.args.page.now n) k) (sym c.in-Outs.is)
