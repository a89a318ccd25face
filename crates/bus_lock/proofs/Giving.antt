-- The step that gives the host back keeps the rule.
use Rattle.std.proofs.Common.{◌≡◌, ◌≢◌, ℕ, ◌<◌, List, [], ◌∷◌, set, refl, ap, sym, ◌∙◌, subst, ⊎_elim, inl, arith, Option, Some, None}
use mathlib.Core.Option.{none, some}
use lib.ListN.{get_elem?}
use Rattle.atomic_table.specs.Table.{State, Me, step, gives, stepped, Allows}
use Rattle.atomic_table.proofs.Lists.{at_set}
use Rattle.event_table.specs.declared.turn.Entry.{Entry}
use Rattle.host_events.specs.Hosting.{Hosting}
use Rattle.bus_lock.specs.declared.view.View.{View}
use Rattle.bus_lock.specs.Lists.{times}
use Rattle.bus_lock.specs.Views.{numbers, released}
use Rattle.bus_lock.specs.Rule.{Fits, Legal, Out, Kept}
use Rattle.bus_lock.specs.Plays.{Gives}
use Rattle.bus_lock.proofs.Sums.{total_same}
use Rattle.bus_lock.proofs.Changing.{each_set, holds_it}

module _ {H : Type 0} (told : H → Hosting) (vcpus : ℕ) (input : List ℕ) where
  abbrev St : Type 0
  St = State (Option H) View

  abbrev Rule : St → Type 0
  Rule = Kept told vcpus input

  gives_home : (s : St) (k : Rule s) (id : ℕ) (v : View) (host : H) → get_elem? s.views id ≡ some v → 0 < v.share →
      (out : Out told k.log k.lock s) → id ≡ out.holder → Legal told vcpus input host k.log →
      Rule record {
        words = set s.words 1 0;
        homes = set s.homes 0 (some (Some host));
        views = set s.views id (released v);
      }
  gives_home s k id v host at part out same legal = let f = k.views id v at in let w : View = released v in record {
    log = k.log;
    lock = 0;
    words = ap (λ ws. set ws 1 0) k.words;
    place = inl record {
      free = refl;
      host = host;
      here = ap (λ hs. set hs 0 (some (Some host))) out.away;
      legal = legal;
      unheld = λ j z there. ⊎_elim (λ (t : (j ≡ id) × (w ≡ z)). subst (λ (y : View). y.held ≡ None) t.1 refl)
          (λ (t : (j ≢ id) × (get_elem? s.views j ≡ some z)). out.unheld j z (λ h. t.0 (h ∙ sym same)) t.1)
          (at_set s.views id j w z there);
    };
    views = each_set (Fits vcpus input k.log) s.views id w (record {
      known = f.known;
      behind = f.behind;
      met = f.met;
      reached = f.reached;
      own = f.own;
      terms = f.terms;
      spent = λ z. absurd (omega arith);
    }) k.views;
    shares = total_same (λ (z : View). z.share) s.views id v w at refl ∙ k.shares;
    once = λ n. total_same (λ (z : View). times n (numbers z)) s.views id v w at refl ∙ k.once n;
  }

  pub gives_it : (id : ℕ) (me : Me (Option H) View) (log : List Entry) (host : H) → 0 < me.0.share →
      me.0.held ≡ Some log → me.1 ≡ (0, Some host) ∷ [] → Legal told me.0.vcpus me.0.input host log →
      Allows Rule 1 id me 1 (λ _. 0) (Gives (step 1 1 0 0 none) me)
  gives_it id me log host part held carried legal s k slots at small =
      let h = holds_it told vcpus input s k id me.0 log at held in
      let f = k.views id me.0 at in let t = f.terms part in
      let is_legal : Legal told vcpus input host k.log =
      subst (λ (z : ℕ × List ℕ × List Entry). Legal told z.0 z.1 host z.2) (λ i. (t.0 i, t.1 i, h.2 i)) legal in (
        released me.0,
        gives,
        tt,
        subst (λ (cs : List (ℕ × Option H)). Rule (stepped s 1 0 id cs (released me.0) gives)) (sym carried)
            (gives_home s k id me.0 host at part h.0 h.1 is_legal),
        refl,
      )
