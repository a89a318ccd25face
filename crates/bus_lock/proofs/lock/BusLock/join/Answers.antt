use Rattle.std.proofs.Common.{rules, ◌≡◌, ◌<◌, List, arith, sym, ap, ◌∙◌, subst}
use Rattle.event_table.specs.declared.turn.Entry.{Entry}
use Rattle.bus_lock.specs.declared.view.View.{View}
use Rattle.bus_lock.specs.Lists.{StartsWith}
use Rattle.bus_lock.specs.Views.{both, longer}
use Rattle.bus_lock.specs.Carried.{view_in}
use Rattle.bus_lock.proofs.Sharing.{joins_it, both_begin}
use Rattle.bus_lock.proofs.Meeting.{settles_it}
use Rattle.bus_lock.proofs.lock.BusLock.join.Goals as goal

pub join_seat-requires : goal.join_seat-requires
join_seat-requires g c =
    let is : c.into_seat-seat.result.me.0 ≡ view_in c.pass.inside.badge.views =
    ap view_in (sym c.into_seat-seat.ensures.2) ∙ ap (λ b. view_in b.views) c.replace-badge.ensures.value in
    let their : c.into_seat-theirs.result.me.0 ≡ view_in c.other.inside.badge.views =
    ap view_in (sym c.into_seat-theirs.ensures.2) in
    let same = ap (λ (v : View). v.share) is in let some_part = c.pass.invariant.2 in
    let part : 0 < c.into_seat-seat.result.me.0.share = omega arith in
    let idle = ap (λ (v : View). v.held) is ∙ c.pass.invariant.1 in
    let still = ap (λ (v : View). v.held) their ∙ c.other.invariant.1 in
    (search rules, search rules, search rules, search rules, joins_it _ _ _ _ _ _ _ idle still part)

pub load-requires : goal.load-requires
load-requires g c =
    let one : c.self.inside.table.shared.table_id.slots ≡ 1 = c.self.invariant.1 in
    (search rules, search rules, rw one (settles_it _ _ _ _ _ (ap (λ m. m.0.held) c.join_seat.ensures.2)))

pub returns-clause-begins : goal.returns-clause-begins
returns-clause-begins g c =
    let v : View = c.args.pass.now.view in let u : View = c.args.other.view in
    let a : c.into_seat-seat.result.me.0 ≡ v =
    ap view_in (sym c.into_seat-seat.ensures.2)
    ∙ (ap (λ b. view_in b.views) c.replace-badge.ensures.value ∙ ap (λ z. z.view) c.pass.view_is) in
    let b : c.into_seat-theirs.result.me.0 ≡ u =
    ap view_in (sym c.into_seat-theirs.ensures.2) ∙ ap (λ z. z.view) c.other.view_is in
    let e : c.join_seat.new.seat.me.0 ≡ both v u = ap (λ m. m.0) c.join_seat.ensures.2 ∙ (λ i. both (a i) (b i)) in
    let t = both_begin v.known u.known (subst (λ (z : View). StartsWith z.known z.shorter) e c.load.ensures.2.1) in
    let known : longer v.known u.known ≡ (view_in c.into_badge.result.views).known =
    sym (ap (λ vs. (view_in vs).known) c.into_badge.ensures.2
    ∙ (ap (λ m. m.0.known) c.load.ensures.2.0 ∙ ap (λ z. z.known) e)) in (
      subst (λ (l : List Entry). StartsWith l v.known) known t.0,
      subst (λ (l : List Entry). StartsWith l u.known) known t.1,
    )
