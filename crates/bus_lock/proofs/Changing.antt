-- A change of one view: what holds of each view, and where the host is.
use Rattle.std.proofs.Common.{◌≡◌, ◌≢◌, ℕ, ◌⊎◌, List, [], ◌∷◌, ◌++◌, set, sym, ◌∙◌, subst, ⊎_elim, inl, inr, Option, Some, None}
use mathlib.Core.Option.{some, some-injective}
use mathlib.Core.Logic.{dite}
use native.Mathlib.Decide.{ℕ_discrete}
use lib.ListN.{get_elem?}
use Rattle.atomic_table.specs.Table.{State, Me, Act, stepped, Valid, carried_after}
use Rattle.atomic_table.proofs.Lists.{at_set, at_snoc, at_longer, set_else}
use Rattle.event_table.specs.declared.turn.Entry.{Entry}
use Rattle.host_events.specs.Hosting.{Hosting}
use Rattle.bus_lock.specs.declared.view.View.{View}
use Rattle.bus_lock.specs.Views.{EachView}
use Rattle.bus_lock.specs.Rule.{Home, Out, Kept}

-- what holds of each view holds after a change of one
pub each_set : (P : View → Type 0) (views : List View) (id : ℕ) (w : View) → P w → EachView P views →
    EachView P (set views id w)
each_set P views id w new old j v at =
    ⊎_elim (λ (t : (j ≡ id) × (w ≡ v)). subst P t.1 new)
    (λ (t : (j ≢ id) × (get_elem? views j ≡ some v)). old j v t.1) (at_set views id j w v at)

module _ {H : Type 0} (told : H → Hosting) (vcpus : ℕ) (input : List ℕ) where
  abbrev St : Type 0
  St = State (Option H) View

  abbrev Rule : St → Type 0
  Rule = Kept told vcpus input

  -- what a step may make of the table
  abbrev pub Goes : St → ℕ → ℕ → List (ℕ × Option H) → ℕ → (Me (Option H) View → Type 0) → Type 0
  Goes s i id c n told_of =
      (w : View) × (a : Act (Option H)) × Valid s.homes c a × Rule (stepped s i n id c w a)
      × told_of (w, carried_after c a)

  -- the seat that holds is the one that the rule knows of
  pub holds_it : (s : St) (k : Rule s) (id : ℕ) (v : View) (log : List Entry) → get_elem? s.views id ≡ some v →
      v.held ≡ Some log →
      (out : Out told k.log k.lock s) × (id ≡ out.holder) × (log ≡ k.log) × (v.known ≡ k.log)
  holds_it s k id v log at held =
      ⊎_elim
      (λ (home : Home told vcpus input k.log k.lock s).
      absurd (let e : v.held ≡ None = home.unheld id v at in cc (e, held)))
      (λ (out : Out told k.log k.lock s). dite (ℕ_discrete id out.holder)
      (λ same.
      let there : get_elem? s.views out.holder ≡ some v = subst (λ (j : ℕ). get_elem? s.views j ≡ some v) same at in
      let is : out.view ≡ v = some-injective out.view v (sym out.at ∙ there) in
      let a : v.held ≡ Some k.log = subst (λ (z : View). z.held ≡ Some k.log) is out.held in
      let b : v.known ≡ k.log = subst (λ (z : View). z.known ≡ k.log) is out.whole in
      (out, same, (let g : log ≡ k.log = cc (a, held) in g), b))
      (λ other. absurd (let e : v.held ≡ None = out.unheld id v other at in cc (e, held))))
      k.place

  -- the host is home, or one seat has it
  abbrev pub Place : List Entry → ℕ → St → Type 0
  Place log lock s = Home told vcpus input log lock s ⊎ Out told log lock s

  -- it stays where it is, as long as a seat that holds nothing goes on holding nothing
  pub place_set : (log : List Entry) (lock : ℕ) (s : St) (ws : List ℕ) (id : ℕ) (v w : View) →
      get_elem? s.views id ≡ some v → v.held ≡ None → w.held ≡ None →
      Place log lock s → Place log lock record { words = ws; homes = s.homes; views = set s.views id w }
  place_set log lock s ws id v w at before after =
      ⊎_elim (λ (home : Home told vcpus input log lock s). inl record {
        free = home.free;
        host = home.host;
        here = home.here;
        legal = home.legal;
        unheld = each_set (λ z. z.held ≡ None) s.views id w after home.unheld;
      })
      (λ (out : Out told log lock s).
      let apart : out.holder ≢ id = λ e.
      let there : get_elem? s.views out.holder ≡ some v = subst (λ (j : ℕ). get_elem? s.views j ≡ some v) (sym e) at in
      let is : out.view ≡ v = some-injective out.view v (sym out.at ∙ there) in
      let a : v.held ≡ Some log = subst (λ (z : View). z.held ≡ Some log) is out.held in cc (a, before) in
      inr record {
        taken = out.taken;
        away = out.away;
        holder = out.holder;
        view = out.view;
        at = set_else s.views id out.holder w apart ∙ out.at;
        held = out.held;
        whole = out.whole;
        unheld = λ j z other there.
            ⊎_elim (λ (t : (j ≡ id) × (w ≡ z)). subst (λ (y : View). y.held ≡ None) t.1 after)
            (λ (t : (j ≢ id) × (get_elem? s.views j ≡ some z)). out.unheld j z other t.1)
            (at_set s.views id j w z there);
      })

  -- and so where a seat that holds nothing comes
  pub place_snoc : (log : List Entry) (lock : ℕ) (s : St) (w : View) → w.held ≡ None →
      Place log lock s → Place log lock record { words = s.words; homes = s.homes; views = s.views ++ w ∷ [] }
  place_snoc log lock s w after =
      ⊎_elim (λ (home : Home told vcpus input log lock s). inl record {
        free = home.free;
        host = home.host;
        here = home.here;
        legal = home.legal;
        unheld = λ j z there.
            ⊎_elim (home.unheld j z) (λ (t : w ≡ z). subst (λ (y : View). y.held ≡ None) t after)
            (at_snoc s.views w z j there);
      })
      (λ (out : Out told log lock s). inr record {
        taken = out.taken;
        away = out.away;
        holder = out.holder;
        view = out.view;
        at = at_longer s.views (w ∷ []) out.holder out.view out.at;
        held = out.held;
        whole = out.whole;
        unheld = λ j z other there.
            ⊎_elim (out.unheld j z other) (λ (t : w ≡ z). subst (λ (y : View). y.held ≡ None) t after)
            (at_snoc s.views w z j there);
      })
