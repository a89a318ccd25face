use Rattle.std.proofs.Common.{rules, sym, ap, ◌∙◌, length}
use Rattle.hostile_host.proofs.Changing.{stores_more, stores_none}
use Rattle.hostile_host.proofs.changes.ChangesIterator.next.Goals as goal

pub returns-then-self-eq0-clause-steps : goal.returns-then-self-eq0-clause-steps
returns-then-self-eq0-clause-steps c =
    let none = sym c.self.view_is ∙ stores_none c.self.inside.left c.self.inside.number c.if-self-eq0.true in
    (none, none)

pub returns-clause-steps : goal.returns-clause-steps
returns-clause-steps c =
    sym c.self.view_is
    ∙ stores_more c.self.inside.left c.self.inside.number c.step-self-inside.result c.store_chosen_by.result
    c.if-self-eq0.false c.step-self-inside.ensures.step c.store_chosen_by.ensures.store

pub returns-clause-goes : goal.returns-clause-goes
returns-clause-goes c =
    let shorter = ap length (returns-clause-steps c) in
    search (rules, shorter)
