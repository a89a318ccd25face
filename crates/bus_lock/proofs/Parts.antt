-- The rule has its seven parts.
use Rattle.std.proofs.Common.{◌≡◌, ℕ, ◌<◌, List, length, get_or, ap, sym, ◌∙◌, ⊎_elim, inl, inr, arith, Option, Some}
use mathlib.Core.Logic.{dite}
use native.Mathlib.Decide.{dec_le}
use lib.ListN.{get_elem?}
use Rattle.atomic_table.specs.Table.{State}
use Rattle.event_table.specs.declared.turn.Entry.{Entry}
use Rattle.host_events.specs.Hosting.{Hosting}
use Rattle.bus_lock.specs.declared.view.View.{View}
use Rattle.bus_lock.specs.Lists.{times}
use Rattle.bus_lock.specs.Views.{numbers}
use Rattle.bus_lock.specs.Rule.{Home, Out, Kept}
use Rattle.bus_lock.specs.Parts.{OneBegins, ReachesBetween, SharesAddUp, EachNumberOnce, StandsOnce, NumbersAreKnown, HoldsWhileOut, LegalWhileHome, count_in, lock_in}
use Rattle.bus_lock.proofs.Sums.{total_some, total_at, total_two, once_in, once_out, starts_shorter, starts_length}

module _ {H : Type 0} (told : H → Hosting) (vcpus : ℕ) (input : List ℕ) (s : State (Option H) View)
    (k : Kept told vcpus input s) where
  count_is : count_in s ≡ length k.log
  count_is = ap (λ ws. get_or ws 0 0) k.words

  lock_is : lock_in s ≡ k.lock
  lock_is = ap (λ ws. get_or ws 1 0) k.words

  pub one_begins : OneBegins s
  one_begins i v at j w there =
      let f = k.views i v at in let g = k.views j w there in dite (dec_le (length w.known) (length v.known))
      (λ le. inl (starts_shorter k.log w.known v.known g.known f.known le))
      (λ no. inr (starts_shorter k.log v.known w.known f.known g.known (omega arith)))

  pub reaches_between : ReachesBetween s
  reaches_between i v at = let f = k.views i v at in let r = f.reached in let c = count_is in (f.met, omega arith)

  pub shares_add_up : SharesAddUp s
  shares_add_up = (k.shares, λ i v at. (k.views i v at).spent)

  stands_once : (n : ℕ) → n < length k.log → StandsOnce n s.views
  stands_once n below =
      let f : View → ℕ = λ v. times n (numbers v) in let sum = k.once n in let one = once_in n (length k.log) below in
      let t = total_some f s.views (omega arith) in
      let whole = total_at f s.views t.0 t.1 t.2 in let some_part = t.3 in (
        t.0,
        t.1,
        t.2,
        omega arith,
        λ j w other there.
            let two = total_two f s.views t.0 j t.1 w (λ e. other (sym e)) t.2 there in omega arith,
      )

  pub each_number_once : EachNumberOnce s
  each_number_once = (
    (λ n below. let c = count_is in stands_once n (omega arith)),
    λ n above i v at.
        let c = count_is in let sum = k.once n in let none = once_out n (length k.log) (omega arith) in
        let part = total_at (λ (w : View). times n (numbers w)) s.views i v at in omega arith,
  )

  pub numbers_are_known : NumbersAreKnown s
  numbers_are_known i v at = (k.views i v at).own

  pub holds_while_out : HoldsWhileOut s
  holds_while_out out =
      let lock = lock_is in
      ⊎_elim (λ (home : Home told vcpus input k.log k.lock s). absurd (let f = home.free in omega arith))
      (λ (o : Out told k.log k.lock s). (
        o.holder,
        o.view,
        o.at,
        o.held ∙ ap (λ (l : List Entry). Some l) (sym o.whole),
        ap length o.whole ∙ sym count_is,
        λ j w other there. (
          o.unheld j w other there,
          let l = starts_length k.log w.known (k.views j w there).known in let e = ap length o.whole in omega arith,
        ),
      ))
      k.place

  pub legal_while_home : LegalWhileHome told vcpus input s
  legal_while_home home =
      let lock = lock_is in
      ⊎_elim (λ (h : Home told vcpus input k.log k.lock s). (
        h.unheld,
        h.host,
        k.log,
        ap (λ hs. get_elem? hs 0) h.here,
        h.legal,
        (λ j v there. (k.views j v there).known),
        sym count_is,
      ))
      (λ (o : Out told k.log k.lock s). absurd (let f = o.taken in omega arith))
      k.place
