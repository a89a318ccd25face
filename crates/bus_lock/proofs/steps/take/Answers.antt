use Rattle.std.proofs.Common.{rules, ◌≡◌, ◌<◌, ◌∷◌, Some, arith, sym, ap, ◌∙◌}
use Rattle.atomic_table.specs.Table.{rest}
use Rattle.bus_lock.proofs.Taking.{takes_it}
use Rattle.bus_lock.proofs.steps.take.Goals as goal

pub compare_exchange-requires : goal.compare_exchange-requires
compare_exchange-requires g c =
    let one : c.args.top.now.table_id.slots ≡ 1 = c.requires.table.1.1 in
    let same = ap (λ m. m.0.share) c.loop.invariant.2 in let some_part = c.requires.idle.1 in
    let part : 0 < c.loop.place.me.0.share = omega arith in
    (search rules, search rules, rw one (takes_it _ _ _ _ _ part))

pub exchange-requires : goal.exchange-requires
exchange-requires g c =
    let t = c.compare_exchange.ensures.2.0 (search rules) in let e = ap (λ m. m.1) t.2 in
    (search rules, (Some t.0, e ∙ ap (λ cs. (0, Some t.0) ∷ rest cs) (sym e)))
