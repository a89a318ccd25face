use Rattle.std.proofs.Common.{rules, [], ◌∷◌}
use Rattle.page_words.specs.declared.item.Item.TheVariants.{Msr}
use Rattle.page_words.specs.Told.{Makes}
use Rattle.vc_handler.proofs.Negotiating.{heard}
use Rattle.vc_handler.proofs.handler.Vc.negotiate.Goals as goal

pub returns : goal.returns
returns g c =
    let makes : Makes (g.P.Page.told c.args.page.now) (Msr c.msr.result ∷ []) (g.P.Page.told c.msr.new.self) = search rules in
    record { reads = heard c.msr.result c.offered.result _ _ makes c.offered.ensures.version }
