use Rattle.std.proofs.Common.{rules, ◌≡◌, sym, ap, ◌∙◌}
use Rattle.bus_lock.specs.declared.view.View.{View}
use Rattle.bus_lock.specs.Carried.{view_in}
use Rattle.bus_lock.proofs.Meeting.{meets_it}
use Rattle.bus_lock.proofs.lock.BusLock.seen.Goals as goal

pub load-found-requires : goal.load-found-requires
load-found-requires g c =
    let is : c.into_seat-seat.result.me.0 ≡ view_in c.pass.inside.badge.views =
    ap view_in (sym c.into_seat-seat.ensures.2) ∙ ap (λ b. view_in b.views) c.replace-badge.ensures.value in
    let one : c.self.inside.table.shared.table_id.slots ≡ 1 = c.self.invariant.1 in
    (search rules, search rules, rw one (meets_it _ _ _ _ _ (ap (λ (v : View). v.held) is ∙ c.pass.invariant.1)))
