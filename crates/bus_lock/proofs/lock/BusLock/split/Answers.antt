use Rattle.std.proofs.Common.{rules, ◌≡◌, ◌≤◌, arith, sym, ap, ◌∙◌}
use Rattle.bus_lock.specs.declared.view.View.{View}
use Rattle.bus_lock.specs.Carried.{view_in}
use Rattle.bus_lock.proofs.Sharing.{splits_it}
use Rattle.bus_lock.proofs.lock.BusLock.split.Goals as goal

pub split_seat-given-requires : goal.split_seat-given-requires
split_seat-given-requires g c =
    let is : c.into_seat-seat.result.me.0 ≡ view_in c.pass.inside.badge.views =
    ap view_in (sym c.into_seat-seat.ensures.2) ∙ ap (λ b. view_in b.views) c.replace-badge.ensures.value in
    let seen = ap (λ z. z.view.share) c.pass.view_is in let asked = c.requires.shares in
    let same = ap (λ (v : View). v.share) is in
    let parts : 2 ≤ c.into_seat-seat.result.me.0.share = omega arith in
    (search rules, search rules, splits_it _ _ _ _ _ (ap (λ (v : View). v.held) is ∙ c.pass.invariant.1) parts)
