-- Rounds of the plain machine.
use Rattle.std.proofs.Common.{◌≡◌, ℕ, suc, zero, ◌+◌, ◌-◌, ◌≤◌, Bool, true, List, [], ◌∷◌, ◌++◌, length, Option, Some, None, refl, sym, ap, ◌∙◌, arith, subst}
use Rattle.std.specs.Prelude.{slice_get, slice_set, option_and_then, if◌then◌else◌}
use Rattle.std.proofs.lemmas.List.{map-append, length-set}
use Rattle.image_file.specs.Image.{Contents}
use Rattle.event_table.specs.declared.event.Event.{Event}
use Rattle.event_table.specs.declared.turn.Turn.{Turn}
use Rattle.guest_interp.specs.Stepping.{Counted, Standstill, Waits, Ended, start_of}
use Rattle.event_table.specs.declared.turn.Entry.{Entry}
use Rattle.device_bus.specs.Devices.{Devices}
use Rattle.event_table.specs.Turns.{turn_of, turns_of}
use Rattle.device_bus.specs.History.{after_event, after_history}
use Rattle.device_bus.proofs.Histories.{after_history-append}
use Rattle.plain_machine.specs.Plain.{Machine, first_stops, machine_at_start, event_done, item, along, all_ended, where_ended, visit_where, visit, visits, rounds, rounds_machine, RoundsRun}
use Rattle.plain_machine.specs.Single.{at_once}
use Rattle.plain_machine.proofs.Good.{IsGood, IsGoodWait, good_next, good_stop, item_at}

then_same : (image : Contents) (budget : ℕ) (xs ys : List Turn) (o : Option Machine) →
    ((next : Machine) → along image budget (xs ++ ys) next ≡ option_and_then (λ last. along image budget ys last) (along image budget xs next)) →
    option_and_then (λ next. along image budget (xs ++ ys) next) o ≡ option_and_then (λ last. along image budget ys last) (option_and_then (λ next. along image budget xs next) o)
then_same image budget xs ys None same = refl
then_same image budget xs ys (Some next) same = same next

along-append : (image : Contents) (budget : ℕ) (xs ys : List Turn) (m : Machine) →
    along image budget (xs ++ ys) m ≡ option_and_then (λ next. along image budget ys next) (along image budget xs m)
along-append image budget [] ys m = refl
along-append image budget (x ∷ xs) ys m = then_same image budget xs ys (item image budget m x) (λ next. along-append image budget xs ys next)

-- every vCPU is good; the first so many have one more step
abbrev pub AllGood : ℕ → ℕ → ℕ → List Standstill → Type 0
AllGood low budget k [] = Unit {0}
AllGood low budget zero (s ∷ ss) = IsGood low budget s × AllGood low budget zero ss
AllGood low budget (suc k) (s ∷ ss) = IsGood (suc low) budget s × AllGood low budget k ss

good_set : (low budget k : ℕ) (ss : List Standstill) (s : Standstill) → AllGood low budget k ss → IsGood (suc low) budget s → AllGood low budget (suc k) (slice_set ss k s)
good_set low budget k [] s all good = tt
good_set low budget zero (x ∷ xs) s all good = (good, all.1)
good_set low budget (suc k) (x ∷ xs) s all good = (all.0, good_set low budget k xs s all.1 good)

-- nothing where it does not wait
good_same : (low budget k : ℕ) (ss : List Standstill) → AllGood low budget k ss → ((e : Event) (v : Counted) → slice_get ss k ≡ Some (Waits e v) → ⊥) → AllGood low budget (suc k) ss
good_same low budget k [] all not = tt
good_same low budget zero (Waits e v ∷ xs) all not = absurd (not e v refl)
good_same low budget zero (Ended end v ∷ xs) all not = (tt, all.1)
good_same low budget (suc k) (x ∷ xs) all not = (all.0, good_same low budget k xs all.1 not)

good_get : (low budget k : ℕ) (ss : List Standstill) (s : Standstill) → AllGood low budget k ss → slice_get ss k ≡ Some s → IsGood low budget s
good_get low budget k [] s all at = cc
good_get low budget zero (x ∷ xs) s all at = let same : x ≡ s = cc in subst (λ y. IsGood low budget y) same all.0
good_get low budget (suc k) (x ∷ xs) s all at = good_get low budget k xs s all.1 at

good_round : (low budget : ℕ) (ss : List Standstill) → AllGood low budget (length ss) ss → AllGood (suc low) budget zero ss
good_round low budget [] all = tt
good_round low budget (x ∷ xs) all = (all.0, good_round low budget xs all.1)

-- The events so far are an order that leads here, the devices are what they leave, and every vCPU is good.
pub record Reached (image : Contents) (budget : ℕ) (start m : Machine) (low k : ℕ) : Type 0 where
  pub leads : along image budget (turns_of m.events) start ≡ Some m
  pub legal : m.devices ≡ after_history start.devices m.events
  pub good : AllGood low budget k m.stops
  pub size : length m.stops ≡ image.header.vcpus

reached_where : (image : Contents) (budget k : ℕ) (start m : Machine) (low : ℕ) (o : Option Standstill) → slice_get m.stops k ≡ o → Reached image budget start m low k → Reached image budget start (visit_where image budget k o m) low (suc k)
reached_where image budget k start m low None at r = record {
  leads = r.leads;
  legal = r.legal;
  good = good_same low budget k m.stops r.good (λ e v waits. let wrong : None ≡ Some (Waits e v) = sym at ∙ waits in cc);
  size = r.size;
}
reached_where image budget k start m low (Some (Ended end w)) at r = record {
  leads = r.leads;
  legal = r.legal;
  good = good_same low budget k m.stops r.good (λ e v waits. let wrong : Some (Ended end w) ≡ Some (Waits e v) = sym at ∙ waits in cc);
  size = r.size;
}
reached_where image budget k start m low (Some (Waits e v)) at r =
    let here : IsGoodWait low budget e v = good_get low budget k m.stops (Waits e v) r.good at in
    let entry : Entry = record { vcpu = k; event = e } in
    let after : Machine = event_done budget k e v m (at_once image k e v.vcpu m.devices) in
    let one : item image budget m (turn_of entry) ≡ Some after = item_at image budget low m entry v at here in
    record {
      leads =
          ap (λ turns. along image budget turns start) (map-append turn_of m.events (entry ∷ []))
          ∙ along-append image budget (turns_of m.events) (turn_of entry ∷ []) start
          ∙ ap (λ (o : Option Machine). option_and_then (λ next. along image budget (turn_of entry ∷ []) next) o) r.leads
          ∙ ap (λ (o : Option Machine). option_and_then (λ next. Some next) o) one;
      legal =
          ap (λ (d : Devices). after_event d k e) r.legal
          ∙ sym (after_history-append start.devices m.events (entry ∷ []));
      good = good_set low budget k m.stops _ r.good (good_stop image low budget k e v m.devices here);
      size = length-set m.stops k _ ∙ r.size;
    }

reached_visits : (image : Contents) (budget k : ℕ) (start m : Machine) (low : ℕ) → Reached image budget start m low zero → Reached image budget start (visits image budget k m) low k
reached_visits image budget zero start m low r = r
reached_visits image budget (suc k) start m low r = reached_where image budget k start (visits image budget k m) low _ refl (reached_visits image budget k start m low r)

reached_rounds : (image : Contents) (budget n : ℕ) (start : Machine) → Reached image budget start start 0 zero → Reached image budget start (rounds image budget n start) n zero
reached_rounds image budget zero start r = r
reached_rounds image budget (suc n) start r =
    let after = reached_visits image budget image.header.vcpus start (rounds image budget n start) n (reached_rounds image budget n start r) in
    record {
      leads = after.leads;
      legal = after.legal;
      good = good_round n budget _ (subst (λ k. AllGood n budget k (visits image budget image.header.vcpus (rounds image budget n start)).stops) (sym after.size) after.good);
      size = after.size;
    }

ended_good : (budget : ℕ) (ss : List Standstill) → AllGood budget budget zero ss → all_ended ss ≡ true
ended_good budget [] all = refl
ended_good budget (Waits e v ∷ ss) all = absurd (omega (arith, all.0.from, all.0.under))
ended_good budget (Ended end v ∷ ss) all = ended_good budget ss all.1

pub length-first_stops : (image : Contents) (budget i n : ℕ) → length (first_stops image budget i n) ≡ n
length-first_stops image budget i zero = refl
length-first_stops image budget i (suc n) = let rest : length (first_stops image budget (i + 1) n) ≡ n = length-first_stops image budget (i + 1) n in omega arith

good_first : (image : Contents) (budget i n : ℕ) → AllGood 0 budget zero (first_stops image budget i n)
good_first image budget i zero = tt
good_first image budget i (suc n) = (good_next 0 budget (budget - 0) (start_of image i) (omega arith) refl refl, good_first image budget (i + 1) n)

reached_start : (image : Contents) (budget : ℕ) (input : List ℕ) → let start = machine_at_start image budget input in Reached image budget start start 0 zero
reached_start image budget input = record { leads = refl; legal = refl; good = good_first image budget 0 image.header.vcpus; size = length-first_stops image budget 0 image.header.vcpus }

-- after as many rounds as the budget all have ended
pub rounds_end : (image : Contents) (budget : ℕ) (input : List ℕ) → all_ended (rounds_machine image budget input).stops ≡ true
rounds_end image budget input = ended_good budget _ (reached_rounds image budget budget _ (reached_start image budget input)).good

-- the order of rounds has a plain run, and its history is legal
pub rounds_plain : RoundsRun
rounds_plain image budget input =
    let last = rounds_machine image budget input in
    let reached = reached_rounds image budget budget (machine_at_start image budget input) (reached_start image budget input) in (
      ap (λ (o : Option Machine). option_and_then where_ended o) reached.leads
          ∙ ap (λ (b : Bool). if b then Some last else None) (rounds_end image budget input),
      reached.legal,
    )

idle_where : (image : Contents) (budget k : ℕ) (m : Machine) (o : Option Standstill) → ((e : Event) (v : Counted) → o ≡ Some (Waits e v) → ⊥) → visit_where image budget k o m ≡ m
idle_where image budget k m None not = refl
idle_where image budget k m (Some (Waits e v)) not = absurd (not e v refl)
idle_where image budget k m (Some (Ended end v)) not = refl

ended_get : (ss : List Standstill) (k : ℕ) (e : Event) (v : Counted) → all_ended ss ≡ true → slice_get ss k ≡ Some (Waits e v) → ⊥
ended_get [] k e v ended waits = cc
ended_get (Waits d w ∷ ss) k e v ended waits = cc
ended_get (Ended end w ∷ ss) zero e v ended waits = cc
ended_get (Ended end w ∷ ss) (suc k) e v ended waits = ended_get ss k e v ended waits

idle_visits : (image : Contents) (budget k : ℕ) (m : Machine) → all_ended m.stops ≡ true → visits image budget k m ≡ m
idle_visits image budget zero m ended = refl
idle_visits image budget (suc k) m ended =
    ap (λ (n : Machine). visit image budget k n) (idle_visits image budget k m ended)
    ∙ idle_where image budget k m _ (λ e v waits. ended_get m.stops k e v ended waits)

idle_more : (image : Contents) (budget n j : ℕ) (m : Machine) → all_ended (rounds image budget n m).stops ≡ true → rounds image budget (n + j) m ≡ rounds image budget n m
idle_more image budget n zero m ended =
    let none : n + 0 ≡ n = omega arith in
    ap (λ k. rounds image budget k m) none
idle_more image budget n (suc j) m ended =
    let one : n + suc j ≡ suc (n + j) = omega arith in
    ap (λ k. rounds image budget k m) one
    ∙ ap (λ (x : Machine). visits image budget image.header.vcpus x) (idle_more image budget n j m ended)
    ∙ idle_visits image budget image.header.vcpus (rounds image budget n m) ended

-- once all have ended, further rounds change nothing
pub rounds_idle : (image : Contents) (budget n more : ℕ) (m : Machine) → n ≤ more → all_ended (rounds image budget n m).stops ≡ true → rounds image budget more m ≡ rounds image budget n m
rounds_idle image budget n more m fewer ended =
    let all : more ≡ n + (more - n) = omega arith in
    ap (λ k. rounds image budget k m) all ∙ idle_more image budget n (more - n) m ended
