use Rattle.std.proofs.Common.{◌≡◌, ℕ, List, sym, subst, rules}
use Rattle.page_words.specs.Dialogue.{Reads}
use Rattle.event_table.specs.declared.event.Event.{Event}
use Rattle.event_table.specs.declared.event.Event.TheVariants.{One}
use Rattle.vc_handler.specs.Accept.{loaded_reply, outcome_in, reply_of}
use Rattle.vc_handler.proofs.accept.take_done.Goals as goal

pub returns-in-One-clause-reads : goal.returns-in-One-clause-reads
returns-in-One-clause-reads g c =
    let old = g.P.Page.told c.args.page.now in
    let new = g.P.Page.told c.take_access.new.page in
    let outcome = λ (bytes : List ℕ). outcome_in c.take_access.result (reply_of c.take_access.new.values bytes) in
    let is : c.args.event.now ≡ One c.in-One.access = search rules in
    subst (λ (event : Event). Reads (loaded_reply event) (outcome c.truncate.new.self) old new) (sym is)
    (subst (λ (bytes : List ℕ). Reads (loaded_reply (One c.in-One.access)) (outcome bytes) old new) (sym c.truncate.ensures.first) c.take_access.ensures.reads)
