-- The rule at the start, and what it says to the one who has every share.
use Rattle.std.proofs.Common.{◌≡◌, ◌≢◌, ℕ, ◌+◌, ◌%◌, ◌^◌, ◌<◌, ◌≤◌, ◌⊎◌, ◌==◌, eqb, List, [], ◌∷◌, ◌++◌, length, get_or, set, refl, ap, sym, ◌∙◌, subst, ⊎_elim, inl, inr, arith, Bool, true, false, cond, max, nat_lt, length-append, append_assoc, Option, Some, None}
use mathlib.Core.Option.{some, some-ne-none, some-injective}
use lib.ListN.{get_elem?}
use Rattle.std.proofs.lemmas.Bool.Decides.{nat_tests}
use Rattle.atomic_table.specs.Table.{State, opening as opening_of, Final, Seen}
use Rattle.event_table.specs.declared.turn.Entry.{Entry}
use Rattle.host_events.specs.Hosting.{Hosting}
use Rattle.bus_lock.specs.declared.view.View.{View}
use Rattle.bus_lock.specs.Lists.{times, once_below, joined_up, StartsWith}
use Rattle.bus_lock.specs.Views.{numbers, first_view}
use Rattle.bus_lock.specs.Rule.{Fits, Legal, Home, Out, Kept}
use Rattle.bus_lock.proofs.Sums.{total_two, all_of_it}

one_view : (v z : View) (j : ℕ) → get_elem? (v ∷ []) j ≡ some z → v ≡ z
one_view v z Rattle.std.proofs.Common.zero e = some-injective v z e
one_view v z (Rattle.std.proofs.Common.suc j) e = absurd (some-ne-none z (sym e))

module _ {H : Type 0} (told : H → Hosting) (vcpus : ℕ) (input : List ℕ) where
  abbrev St : Type 0
  St = State (Option H) View

  abbrev Rule : St → Type 0
  Rule = Kept told vcpus input

  pub starts_it : (host : H) → Legal told vcpus input host [] →
      Rule (opening_of (0 ∷ 0 ∷ []) (Some host ∷ []) (first_view vcpus input))
  starts_it host legal = let v : View = first_view vcpus input in record {
    log = [];
    lock = 0;
    words = refl;
    place = inl record {
      free = refl;
      host = host;
      here = refl;
      legal = legal;
      unheld = λ j z at. subst (λ (y : View). y.held ≡ None) (one_view v z j at) refl;
    };
    views = λ j z at. subst (Fits vcpus input []) (one_view v z j at) (record {
      known = ([], refl);
      behind = (([], refl), omega arith);
      met = omega arith;
      reached = omega arith;
      own = tt;
      terms = λ _. (refl, refl);
      spent = λ e. absurd (omega arith);
    });
    shares = refl;
    once = λ k. grind (arith, nat_tests);
  }

  -- what is known at the end: a legal host in the slot, and each number of its history once in the view
  abbrev pub Ends : View → List (Option H) → Type 0
  Ends v slots =
      (host : H) × (log : List Entry) × (get_elem? slots 0 ≡ some (Some host)) × Legal told vcpus input host log
      × StartsWith log v.known × ((k : ℕ) → times k (numbers v) ≡ once_below k (length log))

  -- who has every share has each number
  all_numbers : (s : St) (k : Rule s) (id : ℕ) (v : View) → get_elem? s.views id ≡ some v → v.share ≡ 1024 →
      (n : ℕ) → times n (numbers v) ≡ once_below n (length k.log)
  all_numbers s k id v at all n =
      let share : View → ℕ = λ z. z.share in
      sym (all_of_it (λ (z : View). times n (numbers z)) share s.views id v at (k.shares ∙ sym all)
      (λ j z there e. let t = (k.views j z there).spent e in
      ap (λ (y : List ℕ × List (List ℕ)). times n (y.0 ++ joined_up y.1)) (λ i. (t.0 i, t.1 i)))) ∙ k.once n

  -- and no other seat holds the host
  no_other : (s : St) (k : Rule s) (id : ℕ) (v : View) → get_elem? s.views id ≡ some v → v.share ≡ 1024 →
      v.held ≡ None → Out told k.log k.lock s → ⊥
  no_other s k id v at all idle out =
      let apart : id ≢ out.holder = λ e.
      let there : get_elem? s.views out.holder ≡ some v = subst (λ (j : ℕ). get_elem? s.views j ≡ some v) e at in
      let is : out.view ≡ v = some-injective out.view v (sym out.at ∙ there) in
      let a : v.held ≡ Some k.log = subst (λ (z : View). z.held ≡ Some k.log) is out.held in cc (a, idle) in
      let two = total_two (λ (z : View). z.share) s.views id out.holder v out.view apart at out.at in
      let sum = k.shares in
      let none : out.view.held ≡ None = ((k.views out.holder out.view out.at).spent (omega arith)).2 in
      let h = out.held in cc (none, h)

  pub closes_it : (id : ℕ) (v : View) (words : List ℕ) (slots : List (Option H)) → v.held ≡ None → v.share ≡ 1024 →
      Final (Seen Rule id v) words slots → Ends v slots
  closes_it id v words slots idle all final =
      let s = final.0 in let k = final.1.0 in let at = final.1.1 in let f = k.views id v at in
      ⊎_elim
      (λ (home : Home told vcpus input k.log k.lock s). (
        home.host,
        k.log,
        final.4 0 (Some home.host) (ap (λ hs. get_elem? hs 0) home.here),
        home.legal,
        f.known,
        all_numbers s k id v at all,
      ))
      (λ (out : Out told k.log k.lock s). absurd (no_other s k id v at all idle out))
      k.place
