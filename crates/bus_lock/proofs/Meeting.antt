-- The steps that load the count keep the rule.
use Rattle.std.proofs.Common.{◌≡◌, ℕ, List, length, get_or, set, refl, ap, ◌∙◌, arith, Option, None}
use mathlib.Core.Option.{none, some}
use lib.ListN.{get_elem?}
use Rattle.atomic_table.specs.Table.{State, Me, step, keeps, Allows}
use Rattle.host_events.specs.Hosting.{Hosting}
use Rattle.bus_lock.specs.declared.view.View.{View}
use Rattle.bus_lock.specs.Lists.{times}
use Rattle.bus_lock.specs.Views.{numbers, met, settled}
use Rattle.bus_lock.specs.Rule.{Fits, Kept}
use Rattle.bus_lock.specs.Plays.{Meets, Settles}
use Rattle.bus_lock.proofs.Sums.{total_same, starts_shorter}
use Rattle.bus_lock.proofs.Changing.{each_set, place_set}

module _ {H : Type 0} (told : H → Hosting) (vcpus : ℕ) (input : List ℕ) where
  abbrev St : Type 0
  St = State (Option H) View

  abbrev Rule : St → Type 0
  Rule = Kept told vcpus input

  -- a load of the count, by which a view that holds nothing becomes another that has as much
  loads : (s : St) (k : Rule s) (id : ℕ) (v w : View) → get_elem? s.views id ≡ some v → v.held ≡ None → w.held ≡ None →
      w.share ≡ v.share → numbers w ≡ numbers v → Fits vcpus input k.log w →
      Rule record { words = set s.words 0 (get_or s.words 0 0); homes = s.homes; views = set s.views id w }
  loads s k id v w at idle after share same fits = record {
    log = k.log;
    lock = k.lock;
    words = ap (λ ws. set ws 0 (get_or ws 0 0)) k.words;
    place = place_set told vcpus input k.log k.lock s (set s.words 0 (get_or s.words 0 0)) id v w at idle after k.place;
    views = each_set (Fits vcpus input k.log) s.views id w fits k.views;
    shares = total_same (λ (z : View). z.share) s.views id v w at share ∙ k.shares;
    once = λ j. total_same (λ (z : View). times j (numbers z)) s.views id v w at (ap (times j) same) ∙ k.once j;
  }

  pub meets_it : (id : ℕ) (me : Me (Option H) View) → me.0.held ≡ None →
      Allows Rule 1 id me 0 (λ n. n) (Meets (step 1 0 0 0 none) me)
  meets_it id me idle s k slots at small =
      let v : View = me.0 in let n : ℕ = get_or s.words 0 0 in let w : View = met v n in let f = k.views id v at in
      let found : n ≡ length k.log = ap (λ ws. get_or ws 0 0) k.words in
      let reached = f.reached in let below = f.met in (
        w,
        keeps,
        tt,
        loads s k id v w at idle idle refl refl record {
          known = f.known;
          behind = f.behind;
          met = omega arith;
          reached = omega arith;
          own = f.own;
          terms = f.terms;
          spent = f.spent;
        },
        (refl, omega arith),
      )

  pub settles_it : (id : ℕ) (me : Me (Option H) View) → me.0.held ≡ None →
      Allows Rule 1 id me 0 (λ n. n) (Settles (step 1 0 0 0 none) me)
  settles_it id me idle s k slots at small =
      let v : View = me.0 in let w : View = settled v in let f = k.views id v at in (
        w,
        keeps,
        tt,
        loads s k id v w at idle idle refl refl record {
          known = f.known;
          behind = ((k.log, refl), omega arith);
          met = f.met;
          reached = f.reached;
          own = f.own;
          terms = f.terms;
          spent = f.spent;
        },
        (refl, starts_shorter k.log v.shorter v.known f.behind.0 f.known f.behind.1),
      )
