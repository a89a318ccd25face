-- The step that counts an entry keeps the rule.
use Rattle.std.proofs.Common.{◌≡◌, ◌≢◌, ℕ, ◌+◌, ◌%◌, ◌^◌, ◌<◌, ◌≤◌, List, [], ◌∷◌, ◌++◌, length, get_or, set, refl, ap, sym, ◌∙◌, subst, ⊎_elim, inr, arith, length-append, Option, Some}
use mathlib.Core.Option.{none, some}
use lib.ListN.{get_elem?}
use Rattle.atomic_table.specs.Table.{State, Me, step, keeps, Allows}
use Rattle.atomic_table.proofs.Lists.{at_set}
use Rattle.event_table.specs.declared.turn.Entry.{Entry}
use Rattle.host_events.specs.Hosting.{Hosting}
use Rattle.bus_lock.specs.declared.view.View.{View}
use Rattle.bus_lock.specs.Lists.{times, once_below, joined_up, AllBelow}
use Rattle.bus_lock.specs.Views.{numbers, counting}
use Rattle.bus_lock.specs.Rule.{Fits, Out, Kept}
use Rattle.bus_lock.specs.Plays.{history_in, Counts}
use Rattle.bus_lock.proofs.Sums.{total_set, total_same, times_append, once_more, below_append, below_front, below_back, below_more, set_at, starts_self, starts_longer}
use Rattle.bus_lock.proofs.Changing.{each_set, Goes, holds_it}

module _ {H : Type 0} (told : H → Hosting) (vcpus : ℕ) (input : List ℕ) where
  abbrev St : Type 0
  St = State (Option H) View

  abbrev Rule : St → Type 0
  Rule = Kept told vcpus input

  fits_longer : (log : List Entry) (e : Entry) (v : View) → Fits vcpus input log v → Fits vcpus input (log ++ e ∷ []) v
  fits_longer log e v f = record {
    known = starts_longer log v.known (e ∷ []) f.known;
    behind = (starts_longer log v.shorter (e ∷ []) f.behind.0, f.behind.1);
    met = f.met;
    reached = let r = f.reached in omega (arith, length-append log (e ∷ []));
    own = f.own;
    terms = f.terms;
    spent = f.spent;
  }

  -- the view of the seat that counts
  fits_counting : (log : List Entry) (e : Entry) (v : View) → 0 < v.share → v.known ≡ log → Fits vcpus input log v →
      Fits vcpus input (log ++ e ∷ []) (counting v (log ++ e ∷ []) (length log))
  fits_counting log e v part whole f =
      let L : List Entry = log ++ e ∷ [] in let n : ℕ = length log in
      let more : length L ≡ n + 1 = length-append log (e ∷ []) in
      let longer : length v.known ≤ length L = let h = ap length whole in omega arith in
      let own : AllBelow (length L) (numbers v) =
      below_more (length v.known) (length L) (numbers v) longer f.own in
      let front = below_front (length L) v.own (joined_up v.joined) own in record {
        known = starts_self L;
        behind = (starts_longer log v.shorter (e ∷ []) f.behind.0, let b = f.behind.1 in omega arith);
        met = omega arith;
        reached = omega arith;
        own = below_append (length L) (v.own ++ n ∷ []) (joined_up v.joined)
            (below_append (length L) v.own (n ∷ []) front (omega arith, tt))
            (below_back (length L) v.own (joined_up v.joined) own);
        terms = f.terms;
        spent = λ z. absurd (omega arith);
      }

  counts_out : (s : St) (k : Rule s) (id : ℕ) (v : View) (e : Entry) → get_elem? s.views id ≡ some v → 0 < v.share →
      v.known ≡ k.log → (out : Out told k.log k.lock s) → id ≡ out.holder →
      Rule record {
        words = set s.words 0 (length k.log + 1);
        homes = s.homes;
        views = set s.views id (counting v (k.log ++ e ∷ []) (length k.log));
      }
  counts_out s k id v e at part whole out same =
      let L : List Entry = k.log ++ e ∷ [] in let n : ℕ = length k.log in let w : View = counting v L n in
      let more : length L ≡ n + 1 = length-append k.log (e ∷ []) in
      record {
        log = L;
        lock = k.lock;
        words = ap (λ ws. set ws 0 (n + 1)) k.words ∙ ap (λ (m : ℕ). m ∷ k.lock ∷ []) (sym more);
        place = inr record {
          taken = out.taken;
          away = out.away;
          holder = id;
          view = w;
          at = set_at s.views id v w at;
          held = refl;
          whole = refl;
          unheld = λ j z other there. ⊎_elim (λ (t : (j ≡ id) × (w ≡ z)). absurd (other t.0))
              (λ (t : (j ≢ id) × (get_elem? s.views j ≡ some z)). out.unheld j z (λ h. other (h ∙ sym same)) t.1)
              (at_set s.views id j w z there);
        };
        views = each_set (Fits vcpus input L) s.views id w (fits_counting k.log e v part whole (k.views id v at))
            (λ j z there. fits_longer k.log e z (k.views j z there));
        shares = total_same (λ (z : View). z.share) s.views id v w at refl ∙ k.shares;
        once = λ j.
            let t = total_set (λ (z : View). times j (numbers z)) s.views id v w at in
            let o = k.once j in let m = once_more j n in
            let a = times_append j (v.own ++ n ∷ []) (joined_up v.joined) in
            let b = times_append j v.own (n ∷ []) in let c = times_append j v.own (joined_up v.joined) in
            let g : once_below j (n + 1) ≡ once_below j (length L) = ap (once_below j) (sym more) in
            omega arith;
      }

  pub counts_it : (id : ℕ) (me : Me (Option H) View) (log : List Entry) (e : Entry) → 0 < me.0.share →
      me.0.held ≡ Some log → history_in told me.1 ≡ log ++ e ∷ [] → length log + 1 < 2 ^ 64 →
      Allows Rule 1 id me 0 (λ n. (n + 1) % 2 ^ 64) (Counts told (step 1 0 1 0 none) me)
  counts_it id me log e part held tells room s k slots at small =
      let h = holds_it told vcpus input s k id me.0 log at held in
      let plays : ℕ → Me (Option H) View → Type 0 = Counts told (step 1 0 1 0 none) me in
      let P : ℕ → Type 0 = λ n. Goes told vcpus input s 0 id me.1 ((n + 1) % 18446744073709551616) (plays n) in
      let found : get_or s.words 0 0 ≡ length k.log = ap (λ ws. get_or ws 0 0) k.words in
      let same : log ≡ k.log = h.2 in
      let L : List Entry = k.log ++ e ∷ [] in
      let told_is : L ≡ history_in told me.1 = ap (λ l. l ++ e ∷ []) (sym same) ∙ sym tells in
      let n : ℕ = length k.log in
      let fits : n + 1 < 2 ^ 64 = let q = ap length same in omega arith in
      let wraps : n + 1 ≡ (n + 1) % 18446744073709551616 = omega arith in
      let more : n + 1 ≡ length L = sym (length-append k.log (e ∷ [])) in
      subst P (sym found) (
        counting me.0 (history_in told me.1) n,
        keeps,
        tt,
        subst
            (λ (z : ℕ × List Entry). Rule record {
              words = set s.words 0 z.0;
              homes = s.homes;
              views = set s.views id (counting me.0 z.1 n);
            })
            (λ i. (wraps i, told_is i)) (counts_out s k id me.0 e at part h.3 h.0 h.1),
        (refl, more ∙ ap length told_is),
      )
