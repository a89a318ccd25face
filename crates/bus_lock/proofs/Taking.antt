-- The step that takes the host keeps the rule.
use Rattle.std.proofs.Common.{◌≡◌, ◌≢◌, ℕ, ◌<◌, ◌==◌, List, length, get_or, set, refl, ap, sym, ◌∙◌, subst, ⊎_elim, inr, arith, Option, Some}
use mathlib.Core.Option.{none, some}
use lib.ListN.{get_elem?}
use prog.Atomic.{either}
use Rattle.atomic_table.specs.Table.{State, Me, step, keeps, takes, stepped, Allows}
use Rattle.atomic_table.proofs.Lists.{at_set, set_again}
use Rattle.host_events.specs.Hosting.{Hosting}
use Rattle.bus_lock.specs.declared.view.View.{View}
use Rattle.bus_lock.specs.Lists.{times}
use Rattle.bus_lock.specs.Views.{numbers, holding}
use Rattle.bus_lock.specs.Rule.{Fits, Legal, Home, Out, Kept}
use Rattle.bus_lock.specs.Plays.{Takes}
use Rattle.bus_lock.proofs.Sums.{total_same, below_more, set_at, starts_self, starts_length}
use Rattle.bus_lock.proofs.Changing.{each_set, Goes}

module _ {H : Type 0} (told : H → Hosting) (vcpus : ℕ) (input : List ℕ) where
  abbrev St : Type 0
  St = State (Option H) View

  abbrev Rule : St → Type 0
  Rule = Kept told vcpus input

  takes_home : (s : St) (k : Rule s) (id : ℕ) (v : View) (c : List (ℕ × Option H)) → get_elem? s.views id ≡ some v →
      0 < v.share → (home : Home told vcpus input k.log k.lock s) →
      Rule (stepped s 1 1 id c (holding v k.log) (takes 0 (Some home.host)))
  takes_home s k id v c at part home = let f = k.views id v at in let w : View = holding v k.log in record {
    log = k.log;
    lock = 1;
    words = ap (λ ws. set ws 1 1) k.words;
    place = inr record {
      taken = refl;
      away = ap (λ hs. set hs 0 none) home.here;
      holder = id;
      view = w;
      at = set_at s.views id v w at;
      held = refl;
      whole = refl;
      unheld = λ j z other there. ⊎_elim (λ (t : (j ≡ id) × (w ≡ z)). absurd (other t.0))
          (λ (t : (j ≢ id) × (get_elem? s.views j ≡ some z)). home.unheld j z t.1) (at_set s.views id j w z there);
    };
    views = each_set (Fits vcpus input k.log) s.views id w (record {
      known = starts_self k.log;
      behind = (f.behind.0, let b = f.behind.1 in let l = starts_length k.log v.known f.known in omega arith);
      met = omega arith;
      reached = omega arith;
      own = below_more (length v.known) (length k.log) (numbers v) (starts_length k.log v.known f.known) f.own;
      terms = f.terms;
      spent = λ z. absurd (omega arith);
    }) k.views;
    shares = total_same (λ (z : View). z.share) s.views id v w at refl ∙ k.shares;
    once = λ n. total_same (λ (z : View). times n (numbers z)) s.views id v w at refl ∙ k.once n;
  }

  -- a step that finds the slot taken changes nothing
  stays_out : (s : St) (k : Rule s) (id : ℕ) (v : View) → get_elem? s.views id ≡ some v →
      (out : Out told k.log k.lock s) →
      Rule record { words = set s.words 1 1; homes = s.homes; views = set s.views id v }
  stays_out s k id v at out =
      subst (λ (vs : List View). Rule record { words = set s.words 1 1; homes = s.homes; views = vs })
      (sym (set_again s.views id v at)) record {
        log = k.log;
        lock = 1;
        words = ap (λ ws. set ws 1 1) k.words;
        place = inr record {
          taken = refl;
          away = out.away;
          holder = out.holder;
          view = out.view;
          at = out.at;
          held = out.held;
          whole = out.whole;
          unheld = out.unheld;
        };
        views = k.views;
        shares = k.shares;
        once = k.once;
      }

  pub takes_it : (id : ℕ) (me : Me (Option H) View) → 0 < me.0.share →
      Allows Rule 1 id me 1 (λ n. either (n == 0) 1 n) (Takes told (step 1 1 0 1 none) me)
  takes_it id me part s k slots at small =
      let tells : ℕ → Me (Option H) View → Type 0 = Takes told (step 1 1 0 1 none) me in
      let P : ℕ → Type 0 = λ n. Goes told vcpus input s 1 id me.1 (either (n == 0) 1 n) (tells n) in
      let found : get_or s.words 1 0 ≡ k.lock = ap (λ ws. get_or ws 1 0) k.words in
      let f = k.views id me.0 at in
      ⊎_elim
      (λ (home : Home told vcpus input k.log k.lock s). subst P (sym (found ∙ home.free)) (
        holding me.0 k.log,
        takes 0 (Some home.host),
        ap (λ hs. get_elem? hs 0) home.here,
        takes_home s k id me.0 me.1 at part home,
        (
          (λ _. (
            home.host,
            k.log,
            refl,
            f.known,
            f.reached,
            subst (λ (z : ℕ × List ℕ). Legal told z.0 z.1 home.host k.log)
                (λ i. (sym (f.terms part).0 i, sym (f.terms part).1 i)) home.legal,
          )),
          λ not. absurd (not refl),
        ),
      ))
      (λ (out : Out told k.log k.lock s). subst P (sym (found ∙ out.taken)) (
        me.0,
        keeps,
        tt,
        stays_out s k id me.0 at out,
        ((λ one. absurd (omega arith)), λ _. refl),
      ))
      k.place
