use Rattle.std.proofs.Common.{[], ◌∷◌, rules}
use Rattle.page_words.specs.declared.item.Item.TheVariants.{Load}
use Rattle.page_words.specs.Told.{Makes}
use Rattle.page_words.proofs.Reading.{reads_load}
use Rattle.event_table.specs.Buffer.{first_word}
use Rattle.mmio_access.proofs.load_first.Goals as goal

pub returns-clause-reads : goal.returns-clause-reads
returns-clause-reads g c =
    let makes : Makes (g.P.Page.told c.args.page.now) (Load first_word c.load.result ∷ []) (g.P.Page.told c.load.new.self) = search rules in
    reads_load _ _ _ _ makes
