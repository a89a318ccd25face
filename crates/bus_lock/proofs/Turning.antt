-- A turn: what it may count and give back once the host has served, and what it has then promised.
use Rattle.std.proofs.Common.{◌≡◌, ℕ, true, Bool, List, [], ◌∷◌, ◌++◌, length, refl, ap, sym, ◌∙◌, subst, arith, Option, Some, Ok}
use Rattle.atomic_table.specs.Table.{Me}
use Rattle.page_words.specs.Told.{Kept}
use Rattle.event_table.specs.declared.turn.Entry.{Entry}
use Rattle.host_events.specs.Hosting.{Hosting}
use Rattle.bus_lock.specs.declared.view.View.{View}
use Rattle.bus_lock.specs.Views.{holding, counting, released}
use Rattle.bus_lock.specs.Plays.{history_in, or_empty}
use Rattle.bus_lock.specs.Serving.{Gains, Hosts, entry_of}
use Rattle.bus_lock.specs.Turns.{Learns}
use Rattle.bus_lock.proofs.Sums.{starts_longer}

module _ {H : Type 0} (told : H → Hosting) (v : View) (i : ℕ) (page after : Kept) where
  module _ {E : Type 0} (b : Bool) (one : b ≡ true) (m : Me (Option H) View)
      (h : Hosts told {E = E} v i page (Ok b) after m) where
    abbrev made : Gains told v.vcpus v.input h.log i page after h.host
    made = h.serves.0 one

    -- the history with the entry that the host has made
    abbrev gained : List Entry
    gained = h.log ++ entry_of i made.event ∷ []

    -- the host in the slot tells one entry more than is known, so this may be counted
    pub one_counts : (entry : Entry) × (history_in told m.1 ≡ m.0.known ++ entry ∷ [])
    one_counts =
        subst (λ (x : Me (Option H) View). (entry : Entry) × (history_in told x.1 ≡ x.0.known ++ entry ∷ [])) (sym h.me)
        (entry_of i made.event, ap or_empty made.legal.history)

    counted_is : (n : Me (Option H) View) (k : ℕ) → (n ≡ (counting m.0 (history_in told m.1) k, m.1)) →
        n ≡ (counting (holding v h.log) gained k, (0, Some h.host) ∷ [])
    counted_is n k is =
        is ∙ (ap (λ (x : Me (Option H) View). (counting x.0 (history_in told x.1) k, x.1)) h.me
        ∙ ap (λ l. (counting (holding v h.log) (or_empty l) k, (0, Some h.host) ∷ [])) made.legal.history)

    -- once it is counted and the host is given back, all that was known begins what is known
    pub one_learns : (n o : Me (Option H) View) (k : ℕ) →
        (n ≡ (counting m.0 (history_in told m.1) k, m.1)) × (k ≡ length m.0.known) → o ≡ (released n.0, []) →
        Learns v o.0
    one_learns n o k counted given =
        let is : o.0 ≡ released (counting (holding v h.log) gained k) =
        ap (λ x. x.0) given ∙ ap (λ x. released x.0) (counted_is n k counted.0) in
        let number : k ≡ length h.log = counted.1 ∙ ap (λ (x : Me (Option H) View). length x.0.known) h.me in
        let low = h.reached in
        subst (Learns v) (sym is) record {
          known = starts_longer h.log v.known (entry_of i made.event ∷ []) h.known;
          reached = omega arith;
          share = refl;
          joined = refl;
          vcpus = refl;
          input = refl;
        }
