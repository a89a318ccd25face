use Rattle.std.proofs.Common.{◌≡◌, ℕ, List, length, Some, refl, sym, ap, ◌∙◌, subst}
use mathlib.Core.Option.{some-injective}
use Rattle.std.specs.Option.{IsSome}
use Rattle.bus_lock.specs.declared.boxed.Boxed.{Boxed}
use Rattle.bus_lock.specs.declared.view.View.{View}
use Rattle.bus_lock.specs.Lists.{StartsWith, times, once_below}
use Rattle.bus_lock.specs.Views.{numbers}
use Rattle.bus_lock.specs.Rule.{Legal}
use Rattle.bus_lock.specs.Carried.{view_in}
use Rattle.bus_lock.proofs.Closing.{closes_it}
use Rattle.bus_lock.proofs.lock.BusLock.close.Goals as goal

pub unwrap-requires : goal.unwrap-requires
unwrap-requires g c =
    let is : c.into_seat.result.me.0 ≡ view_in c.pass.inside.badge.views = ap view_in (sym c.into_seat.ensures.2) in
    let all : c.into_seat.result.me.0.share ≡ 1024 =
    ap (λ (v : View). v.share) is ∙ (ap (λ z. z.view.share) c.pass.view_is ∙ c.requires.shares) in
    let idle = ap (λ (v : View). v.held) is ∙ c.pass.invariant.1 in
    let told = λ (b : Boxed g.row.H.Denot). g.H.Host.told b.host.value in
    let t = closes_it told _ _ _ _ _ _ idle all c.close_with-closed.ensures.values.2 in
    let e : c.take-host.result ≡ Some t.0 =
    some-injective c.take-host.result (Some t.0) (sym c.take-host.ensures.value ∙ t.2) in
    subst IsSome (sym e) refl

pub returns : goal.returns
returns g c =
    let told = λ (b : Boxed g.row.H.Denot). g.H.Host.told b.host.value in
    let is : c.into_seat.result.me.0 ≡ view_in c.pass.inside.badge.views = ap view_in (sym c.into_seat.ensures.2) in
    let seen : c.into_seat.result.me.0 ≡ c.args.pass.view = is ∙ ap (λ z. z.view) c.pass.view_is in
    let all : c.into_seat.result.me.0.share ≡ 1024 = ap (λ (v : View). v.share) seen ∙ c.requires.shares in
    let idle = ap (λ (v : View). v.held) is ∙ c.pass.invariant.1 in
    let t = closes_it told _ _ _ _ _ _ idle all c.close_with-closed.ensures.values.2 in
    let e : c.take-host.result ≡ Some t.0 =
    some-injective c.take-host.result (Some t.0) (sym c.take-host.ensures.value ∙ t.2) in
    let boxed : t.0 ≡ c.unwrap.result = cc (e, c.unwrap.ensures) in
    let host : t.0.host.value ≡ c.into_host.result =
    ap (λ (b : Boxed g.row.H.Denot). b.host.value) boxed ∙ sym c.into_host.ensures.host in
    let legal : Legal g.H.Host.told _ _ t.0.host.value t.1 = record { started = t.3.started; history = t.3.history; devices = t.3.devices } in
    let vcpus = ap (λ z. z.vcpus) c.self.view_is in let input = ap (λ z. z.input) c.self.view_is in record {
      legal = (
        t.1,
        subst (λ (z : ℕ × List ℕ × g.row.H.Denot). Legal g.H.Host.told z.0 z.1 z.2 t.1) (λ i. (vcpus i, input i, host i)) legal,
        subst (λ (v : View). StartsWith t.1 v.known) seen t.4,
        subst (λ (v : View). (k : ℕ) → times k (numbers v) ≡ once_below k (length t.1)) seen t.5,
      );
    }
