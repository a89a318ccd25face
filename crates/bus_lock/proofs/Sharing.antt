-- A split and a join keep the rule.
use Rattle.std.proofs.Common.{◌≡◌, ℕ, ◌+◌, ◌<◌, ◌≤◌, List, ◌∷◌, ◌++◌, length, set, refl, ap, sym, ◌∙◌, subst, ⊎_elim, arith, Bool, true, false, cond, max, nat_lt, append_assoc, Option, None}
use mathlib.Core.Option.{some}
use lib.ListN.{get_elem?}
use Rattle.std.proofs.lemmas.Bool.Decides.{nat_tests}
use Rattle.atomic_table.specs.Table.{State, Splits, Joins}
use Rattle.atomic_table.proofs.Lists.{at_snoc, set_else}
use Rattle.event_table.specs.declared.turn.Entry.{Entry}
use Rattle.host_events.specs.Hosting.{Hosting}
use Rattle.bus_lock.specs.declared.view.View.{View}
use Rattle.bus_lock.specs.Lists.{times, joined_up, StartsWith, AllBelow}
use Rattle.bus_lock.specs.Views.{numbers, EachView, one_less, fresh, longer, shorter, both, spent}
use Rattle.bus_lock.specs.Rule.{Fits, Kept}
use Rattle.bus_lock.proofs.Sums.{total_set, total_same, times_append, below_append, below_more, total_snoc, joined_append, starts_self}
use Rattle.bus_lock.proofs.Changing.{each_set, place_set, place_snoc}

-- where the longer of two lists begins with the shorter, both begin it
pub both_begin : (a b : List Entry) → StartsWith (longer a b) (shorter a b) →
    StartsWith (longer a b) a × StartsWith (longer a b) b
both_begin a b = elim (nat_lt (length a) (length b)) as
    (λ t. StartsWith (cond t b a) (cond t a b) → StartsWith (cond t b a) a × StartsWith (cond t b a) b) [
      | true ↦ λ s. (s, starts_self b)
      | false ↦ λ s. (starts_self a, s)
    ]

numbers_both : (v w : View) → numbers (both v w) ≡ numbers v ++ numbers w
numbers_both v w =
    ap (λ l. v.own ++ l) (joined_append v.joined (w.own ∷ w.joined))
    ∙ sym (append_assoc v.own (joined_up v.joined) (numbers w))

-- both begin a list that both begin
starts_with_longer : (log a b : List Entry) → StartsWith log a → StartsWith log b → StartsWith log (longer a b)
starts_with_longer log a b p q =
    elim (nat_lt (length a) (length b)) as (λ t. StartsWith log (cond t b a)) [ true ↦ q | false ↦ p ]

starts_with_shorter : (log a b : List Entry) → StartsWith log a → StartsWith log b → StartsWith log (shorter a b)
starts_with_shorter log a b p q =
    elim (nat_lt (length a) (length b)) as (λ t. StartsWith log (cond t a b)) [ true ↦ p | false ↦ q ]

-- the longer list is at least as long as each, and no longer than what both are at most
abbrev IsLonger : List Entry → List Entry → List Entry → List Entry → Type 0
IsLonger a b most least =
    (length a ≤ length most) × (length b ≤ length most)
    × ((m : ℕ) → length a ≤ m → length b ≤ m → length most ≤ m) × (length least ≤ length most)

longer_of : (a b : List Entry) (t : Bool) → nat_lt (length a) (length b) ≡ t → IsLonger a b (cond t b a) (cond t a b)
longer_of a b true e =
    let h : length a < length b = grind (arith, nat_tests) in (omega arith, omega arith, (λ m x y. y), omega arith)
longer_of a b false e =
    let h : length b ≤ length a = grind (arith, nat_tests) in (omega arith, omega arith, (λ m x y. x), omega arith)

longer_length : (a b : List Entry) → IsLonger a b (longer a b) (shorter a b)
longer_length a b = longer_of a b (nat_lt (length a) (length b)) refl

module _ {H : Type 0} (told : H → Hosting) (vcpus : ℕ) (input : List ℕ) where
  abbrev St : Type 0
  St = State (Option H) View

  abbrev Rule : St → Type 0
  Rule = Kept told vcpus input

  pub splits_it : (id : ℕ) (v : View) → v.held ≡ None → 2 ≤ v.share → Splits Rule id v (one_less v) (fresh v)
  splits_it id v idle parts s k at =
      let left : View = one_less v in let right : View = fresh v in
      let f = k.views id v at in let vs : List View = set s.views id left in
      let mid : St = record { words = s.words; homes = s.homes; views = vs } in
      let low : EachView (Fits vcpus input k.log) vs = each_set (Fits vcpus input k.log) s.views id left (record {
        known = f.known;
        behind = f.behind;
        met = f.met;
        reached = f.reached;
        own = f.own;
        terms = λ z. f.terms (omega arith);
        spent = λ z. absurd (omega arith);
      }) k.views in
      let new : Fits vcpus input k.log right = record {
        known = f.known;
        behind = f.behind;
        met = f.met;
        reached = f.reached;
        own = tt;
        terms = λ z. f.terms (omega arith);
        spent = λ z. absurd (omega arith);
      } in record {
        log = k.log;
        lock = k.lock;
        words = k.words;
        place = place_snoc told vcpus input k.log k.lock mid right refl
            (place_set told vcpus input k.log k.lock s s.words id v left at idle idle k.place);
        views = λ j z there.
            ⊎_elim (low j z) (λ (t : right ≡ z). subst (Fits vcpus input k.log) t new) (at_snoc vs right z j there);
        shares = let f : View → ℕ = λ z. z.share in
            let a = total_snoc f vs right in let b = total_set f s.views id v left at in
            let c = k.shares in omega arith;
        once = λ j. let f : View → ℕ = λ z. times j (numbers z) in
            let a = total_snoc f vs right in let b = total_same f s.views id v left at refl in
            let c = k.once j in omega arith;
      }

  fits_both : (log : List Entry) (v u : View) → 0 < v.share → Fits vcpus input log v → Fits vcpus input log u →
      Fits vcpus input log (both v u)
  fits_both log v u part f g =
      let w : View = both v u in
      let len = longer_length v.known u.known in
      let one : length v.known ≤ length w.known = len.0 in let two : length u.known ≤ length w.known = len.1 in
      let most : length w.known ≤ max v.reached u.reached =
      let a = f.met in let b = g.met in len.2 (max v.reached u.reached) (omega arith) (omega arith) in record {
        known = starts_with_longer log v.known u.known f.known g.known;
        behind = (starts_with_shorter log v.known u.known f.known g.known, len.3);
        met = most;
        reached = let a = f.reached in let b = g.reached in omega arith;
        own = subst (AllBelow (length w.known)) (sym (numbers_both v u))
            (below_append (length w.known) (numbers v) (numbers u)
            (below_more (length v.known) (length w.known) (numbers v) one f.own)
            (below_more (length u.known) (length w.known) (numbers u) two g.own));
        terms = λ z. f.terms part;
        spent = λ z. absurd (omega arith);
      }

  fits_spent : (log : List Entry) → Fits vcpus input log spent
  fits_spent log = record {
    known = (log, refl);
    behind = ((log, refl), omega arith);
    met = omega arith;
    reached = omega arith;
    own = tt;
    terms = λ z. absurd (omega arith);
    spent = λ z. (refl, refl, refl);
  }

  pub joins_it : (id : ℕ) (v : View) (other : ℕ) (u : View) → v.held ≡ None → u.held ≡ None → 0 < v.share →
      Joins Rule id v other u (both v u) spent
  joins_it id v other u idle still part s k at apart there =
      let w : View = both v u in let vs : List View = set s.views id w in
      let mid : St = record { words = s.words; homes = s.homes; views = vs } in
      let before : get_elem? s.views other ≡ some u = sym (set_else s.views id other w apart) ∙ there in
      let fits = fits_both k.log v u part (k.views id v at) (k.views other u before) in record {
        log = k.log;
        lock = k.lock;
        words = k.words;
        place = place_set told vcpus input k.log k.lock mid s.words other u spent there still refl
            (place_set told vcpus input k.log k.lock s s.words id v w at idle refl k.place);
        views = each_set (Fits vcpus input k.log) vs other spent (fits_spent k.log)
            (each_set (Fits vcpus input k.log) s.views id w fits k.views);
        shares = let f : View → ℕ = λ z. z.share in
            let a = total_set f s.views id v w at in let b = total_set f vs other u spent there in
            let c = k.shares in omega arith;
        once = λ j. let f : View → ℕ = λ z. times j (numbers z) in
            let a = total_set f s.views id v w at in let b = total_set f vs other u spent there in let c = k.once j in
            let d : f w ≡ f v + f u = ap (times j) (numbers_both v u) ∙ times_append j (numbers v) (numbers u) in
            omega arith;
      }
