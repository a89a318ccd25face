-- Seats and the stops that they stand for.
use Rattle.std.proofs.Common.{◌≡◌, ℕ, suc, zero, ◌+◌, ◌-◌, ◌≤◌, ◌<◌, Bool, true, false, List, [], ◌∷◌, ◌++◌, length, map, Option, Some, None, refl, sym, ap, ◌∙◌, subst, arith}
use Rattle.std.specs.Prelude.{slice_get, slice_set, drop, take, is_some, unwrap_or, IfSome, IsSome, option_map, ◌&&◌, Result, Ok, Err, IfOk, nat_lt, if◌then◌else◌}
use Rattle.std.specs.List.{list_all}
use Rattle.std.proofs.Math.Seq.{take-append_seam}
use Rattle.std.proofs.lemmas.Bool.{lt-ltb, le-ltb, ltb-true, ltb-false, ne_eqb}
use Rattle.event_table.specs.declared.end.End.{End}
use Rattle.event_table.specs.declared.end.End.TheVariants.{Spent}
use Rattle.event_table.specs.declared.turn.Turn.{Turn}
use Rattle.event_table.specs.declared.turn.Finished.{Finished}
use Rattle.image_file.specs.Image.{Contents}
use Rattle.guest_interp.specs.Stepping.{Standstill, Waits, Ended, start_of}
use Rattle.device_bus.specs.Devices.{Devices, opening}
use Rattle.page_words.specs.Told.{kept_after_all}
use Rattle.event_table.specs.declared.turn.Entry.{Entry}
use Rattle.event_table.specs.Turns.{turns_of}
use Rattle.host_events.specs.Hosting.{Given, Hosting, started, IsTelling}
use Rattle.vcpu_core.specs.Phase as phase
use Rattle.vcpu_core.specs.State.{State, state, end_in, IsLawfulPhase}
use Rattle.vcpu_core.specs.Running.{state_stopped}
use Rattle.round_runner.specs.declared.vcpu_on_page.VcpuOnPage.{VcpuOnPage}
use Rattle.round_runner.specs.Pages.{Talked, exchange, exchanges, talked, pages_of}
use Rattle.plain_machine.specs.Plain.{Machine, first_stops, machine_at_start, all_ended, stop_then, visit_where, visits, rounds, rounds_machine, rounds_order, plain_run, steps_of, ends_of}
use Rattle.round_runner.specs.Standing.{IsVcpuAt, IsFirst, AreAt, AreFresh, AreNumbered, AreOthers, Tells, Stands, Visited, said_there, stop_by, visit_by, visits_by, next_by, had}
use Rattle.round_runner.specs.Ran.{RanRounds}
use Rattle.plain_machine.specs.Ends.{AreUnterminated}
use Rattle.plain_machine.proofs.PlainEnds.{runs_unterminated}
use Rattle.plain_machine.proofs.PlainRounds.{rounds_plain, rounds_idle}
use Rattle.plain_machine.proofs.Turns.{set_same}
use Rattle.round_runner.proofs.Meeting.{asking}
use Rattle.round_runner.proofs.Talking.{shown_other, pages_same}

pub numbered_get : (i k : ℕ) (seats : List VcpuOnPage) (seat : VcpuOnPage) → AreNumbered i seats → slice_get seats k ≡ Some seat → seat.vcpu.number ≡ i + k
numbered_get i k [] seat all at = cc
numbered_get i zero (s ∷ ss) seat all at = let same : s ≡ seat = cc in let none : i + 0 ≡ i = omega arith in ap (λ (x : VcpuOnPage). x.vcpu.number) (sym same) ∙ all.0 ∙ sym none
numbered_get i (suc k) (s ∷ ss) seat all at = let one : i + 1 + k ≡ i + suc k = omega arith in numbered_get (i + 1) k ss seat all.1 at ∙ one

pub numbered_set : (i k : ℕ) (seats : List VcpuOnPage) (seat : VcpuOnPage) → AreNumbered i seats → seat.vcpu.number ≡ i + k → AreNumbered i (slice_set seats k seat)
numbered_set i k [] seat all is = tt
numbered_set i zero (s ∷ ss) seat all is = let none : i + 0 ≡ i = omega arith in (is ∙ none, all.1)
numbered_set i (suc k) (s ∷ ss) seat all is = let one : i + suc k ≡ i + 1 + k = omega arith in (all.0, numbered_set (i + 1) k ss seat all.1 (is ∙ one))

-- the stop of one seat
at_get : (Is : ℕ → VcpuOnPage → Standstill → Type 0) (i k : ℕ) (seats : List VcpuOnPage) (stops : List Standstill) (seat : VcpuOnPage) → AreAt Is i seats stops → slice_get seats k ≡ Some seat →
    (stop : Standstill) × (slice_get stops k ≡ Some stop) × Is (i + k) seat stop
at_get Is i k [] [] seat all at = cc
at_get Is i k [] (x ∷ xs) seat all at = absurd all
at_get Is i k (s ∷ ss) [] seat all at = absurd all
at_get Is i zero (s ∷ ss) (x ∷ xs) seat all at =
    let same : s ≡ seat = cc in
    let none : i ≡ i + 0 = omega arith in
    (x, refl, subst (λ n. Is n seat x) none (subst (λ y. Is i y x) same all.0))
at_get Is i (suc k) (s ∷ ss) (x ∷ xs) seat all at =
    let rest = at_get Is (i + 1) k ss xs seat all.1 at in
    let one : i + 1 + k ≡ i + suc k = omega arith in
    (rest.0, rest.1, subst (λ n. Is n seat rest.0) one rest.2)

-- what holds of each so, holds of each so
at_all : (Is Was : ℕ → VcpuOnPage → Standstill → Type 0) (i : ℕ) (seats : List VcpuOnPage) (stops : List Standstill) → AreAt Was i seats stops →
    ((j : ℕ) (s : VcpuOnPage) (x : Standstill) → i ≤ j → j < i + length seats → Was j s x → Is j s x) → AreAt Is i seats stops
at_all Is Was i [] [] all so = tt
at_all Is Was i [] (x ∷ xs) all so = absurd all
at_all Is Was i (s ∷ ss) [] all so = absurd all
at_all Is Was i (s ∷ ss) (x ∷ xs) all so =
    (so i s x (omega arith) (omega arith) all.0, at_all Is Was (i + 1) ss xs all.1 (λ j t y from under was. so j t y (omega (arith, from)) (omega (arith, under)) was))

-- one seat goes on with its stop, and the others stay
at_set : (Is Was : ℕ → VcpuOnPage → Standstill → Type 0) (i k : ℕ) (seats : List VcpuOnPage) (stops : List Standstill) (seat : VcpuOnPage) (stop : Standstill) → AreAt Was i seats stops →
    ((j : ℕ) (s : VcpuOnPage) (x : Standstill) → (j ≡ i + k → ⊥) → Was j s x → Is j s x) → Is (i + k) seat stop → AreAt Is i (slice_set seats k seat) (slice_set stops k stop)
at_set Is Was i k [] [] seat stop all so at = tt
at_set Is Was i k [] (x ∷ xs) seat stop all so at = absurd all
at_set Is Was i k (s ∷ ss) [] seat stop all so at = absurd all
at_set Is Was i zero (s ∷ ss) (x ∷ xs) seat stop all so at =
    let none : i + 0 ≡ i = omega arith in
    (subst (λ n. Is n seat stop) none at, at_all Is Was (i + 1) ss xs all.1 (λ j t y from under was. so j t y (λ same. absurd (omega (arith, from, same))) was))
at_set Is Was i (suc k) (s ∷ ss) (x ∷ xs) seat stop all so at =
    let one : i + suc k ≡ i + 1 + k = omega arith in (
      so i s x (λ same. absurd (omega (arith, same))) all.0,
      at_set Is Was (i + 1) k ss xs seat stop all.1 (λ j t y other was. so j t y (λ same. other (same ∙ one)) was) (subst (λ n. Is n seat stop) one at),
    )

-- what a visit leaves of the stops
visit_stops : (image : Contents) (budget k : ℕ) (m : Machine) (stop : Standstill) → slice_get m.stops k ≡ Some stop → (visit_where image budget k (Some stop) m).stops ≡ slice_set m.stops k (stop_then image budget k stop m.devices)
visit_stops image budget k m (Waits e v) at = refl
visit_stops image budget k m (Ended end v) at = sym (set_same m.stops k (Ended end v) at)

visit_by_stops : (x : Option ℕ) (image : Contents) (budget k : ℕ) (m : Machine) (stop : Standstill) → slice_get m.stops k ≡ Some stop → (visit_by x image budget k stop m).stops ≡ slice_set m.stops k (stop_by x image budget k stop m.devices)
visit_by_stops None image budget k m stop at = visit_stops image budget k m stop at
visit_by_stops (Some word) image budget k m stop at = sym (set_same m.stops k stop at)

-- before the first visit of a round
pub visits_none : (x : Option ℕ) (image : Contents) (budget : ℕ) (m : Machine) (P : Machine → Type 0) → P m → P (visits_by x image budget 0 m)
visits_none None image budget m P so = so
visits_none (Some word) image budget m P so = so

-- one visit more of a round
visits_more : (x : Option ℕ) (image : Contents) (budget k : ℕ) (m : Machine) (stop : Standstill) → slice_get (visits_by x image budget k m).stops k ≡ Some stop →
    visits_by x image budget (suc k) m ≡ visit_by x image budget k stop (visits_by x image budget k m)
visits_more None image budget k m stop at = ap (λ (o : Option Standstill). visit_where image budget k o (visits image budget k m)) at
visits_more (Some word) image budget k m stop at = refl

-- what a visit leaves of the events of the others
visit_events : (x : Option ℕ) (image : Contents) (budget i j n : ℕ) (d : Devices) (m : Machine) (stop : Standstill) → (j ≡ i → ⊥) → talked n j d (visit_by x image budget i stop m).events ≡ talked n j d m.events
visit_events (Some word) image budget i j n d m stop other = refl
visit_events None image budget i j n d m (Ended end v) other = refl
visit_events None image budget i j n d m (Waits e v) other = shown_other n j d m.events (record { vcpu = i; event = e }) (ne_eqb i j (λ same. other (sym same)))

first_other : (o x : Option ℕ) (image : Contents) (budget i j : ℕ) (d : Devices) (m : Machine) (stop there : Standstill) → (j ≡ i → ⊥) → IsFirst o image budget j d m.events there →
    IsFirst o image budget j d (visit_by x image budget i stop m).events there
first_other None x image budget i j d m stop there other first = tt
first_other (Some word) x image budget i j d m stop there other first = (first.0, λ n. visit_events x image budget i j n d m stop other ∙ first.1 n)

-- the others stay where they are
at_other : (x : Option ℕ) (image : Contents) (budget i j n : ℕ) (d : Devices) (h0 h1 : Hosting) (m : Machine) (stop there : Standstill) (seat : VcpuOnPage) → (j ≡ i → ⊥) → AreOthers i h0 h1 →
    IsVcpuAt image budget d h0 m.events n j seat there → IsVcpuAt image budget d h1 (visit_by x image budget i stop m).events n j seat there
at_other x image budget i j n d h0 h1 m stop there seat other others at =
    let same = visit_events x image budget i j n d m stop other in
    record {
      vcpu = at.vcpu;
      first = first_other (exchange n) x image budget i j d m stop there other at.first;
      page = at.page ∙ ap (λ (t : Talked). kept_after_all t.left (said_there (exchange n) j there)) (sym same);
      full = ap (λ (t : Talked). length t.left.words) same ∙ at.full;
      lawful = at.lawful;
      pages = pages_same j h0.pages h1.pages _ (others j other) (subst (λ (t : Talked). IfSome h0.pages (λ given. pages_of j given ≡ t.pages)) (sym same) at.pages);
    }

-- which visits a vCPU has had
had_own : (n k : ℕ) → had n (suc k) k ≡ next_by (exchange n) n
had_own n k = ap (λ (b : Bool). if b then next_by (exchange n) n else n) (lt-ltb k (suc k) (omega arith))

had_none : (n k : ℕ) → had n k k ≡ n
had_none n k = ap (λ (b : Bool). if b then next_by (exchange n) n else n) (le-ltb k k (omega arith))

had_under : (n k i : ℕ) → i < k → had n k i ≡ next_by (exchange n) n
had_under n k i less = ap (λ (b : Bool). if b then next_by (exchange n) n else n) (lt-ltb i k less)

had_over : (n k i : ℕ) → k ≤ i → had n k i ≡ n
had_over n k i from = ap (λ (b : Bool). if b then next_by (exchange n) n else n) (le-ltb i k (omega (arith, from)))

had_by : (n k j : ℕ) (b : Bool) → nat_lt j k ≡ b → (j ≡ k → ⊥) → had n k j ≡ had n (suc k) j
had_by n k j true is other = let less : j < k = ltb-true j k is in had_under n k j less ∙ sym (had_under n (suc k) j (omega (arith, less)))
had_by n k j false is other = let from : k ≤ j = ltb-false j k is in had_over n k j from ∙ sym (had_over n (suc k) j (omega (arith, from, other)))

had_other : (n k j : ℕ) → (j ≡ k → ⊥) → had n k j ≡ had n (suc k) j
had_other n k j other = had_by n k j (nat_lt j k) refl other

-- one vCPU further in a round
pub stands_visit : (image : Contents) (budget n k : ℕ) (d : Devices) (m : Machine) (seats : List VcpuOnPage) (seat next : VcpuOnPage) (h0 h1 : Hosting) (order0 order1 : List Turn) →
    Stands image budget d n k seats h0 order0 (visits_by (exchange n) image budget k m) → slice_get seats k ≡ Some seat → seat.vcpu.number ≡ k →
    ((n : ℕ) (m : Machine) (stop : Standstill) → IsVcpuAt image budget d h0 m.events n seat.vcpu.number seat stop → Tells d h0 order0 m → Visited image budget d n seat.vcpu.number stop m next h1 order1) →
    AreOthers seat.vcpu.number h0 h1 →
    Stands image budget d n (suc k) (slice_set seats k next) h1 order1 (visits_by (exchange n) image budget (suc k) m)
stands_visit image budget n k d m seats seat next h0 h1 order0 order1 stands at is leads others =
    let now = visits_by (exchange n) image budget k m in
    let here = at_get (λ i s x. IsVcpuAt image budget d h0 now.events (had n k i) i s x) 0 k seats now.stops seat stands.seated at in
    let stop : Standstill = here.0 in
    let zeroth : 0 + k ≡ k = omega arith in
    let there : IsVcpuAt image budget d h0 now.events n seat.vcpu.number seat stop =
    subst (λ i. IsVcpuAt image budget d h0 now.events n i seat stop) (sym is)
    (subst (λ j. IsVcpuAt image budget d h0 now.events j k seat stop) (had_none n k)
    (subst (λ i. IsVcpuAt image budget d h0 now.events (had n k i) i seat stop) zeroth here.2)) in
    let went : Visited image budget d n k stop now next h1 order1 = subst (λ i. Visited image budget d n i stop now next h1 order1) is (leads n now stop there stands.tells) in
    let more = visits_more (exchange n) image budget k m stop here.1 in
    let after = visit_by (exchange n) image budget k stop now in
    let stay : AreOthers k h0 h1 = subst (λ i. AreOthers i h0 h1) is others in
    let own : IsVcpuAt image budget d h1 after.events (had n (suc k) k) k next (stop_by (exchange n) image budget k stop now.devices) =
    subst (λ j. IsVcpuAt image budget d h1 after.events j k next (stop_by (exchange n) image budget k stop now.devices)) (sym (had_own n k)) went.at in
    let seated : AreAt (λ i s x. IsVcpuAt image budget d h1 after.events (had n (suc k) i) i s x) 0 (slice_set seats k next) (slice_set now.stops k (stop_by (exchange n) image budget k stop now.devices)) =
    at_set (λ i s x. IsVcpuAt image budget d h1 after.events (had n (suc k) i) i s x) (λ i s x. IsVcpuAt image budget d h0 now.events (had n k i) i s x) 0 k seats now.stops next _ stands.seated
    (λ j s x other was.
    let apart : j ≡ k → ⊥ = λ same. other (same ∙ sym zeroth) in
    at_other (exchange n) image budget k j (had n (suc k) j) d h0 h1 now stop x s apart stay
    (subst (λ c. IsVcpuAt image budget d h0 now.events c j s x) (had_other n k j apart) was))
    (subst (λ i. IsVcpuAt image budget d h1 after.events (had n (suc k) i) i next (stop_by (exchange n) image budget k stop now.devices)) (sym zeroth) own) in
    subst (λ (x : Machine). Stands image budget d n (suc k) (slice_set seats k next) h1 order1 x) (sym more)
    (record {
      seated = subst (λ ss. AreAt (λ i s x. IsVcpuAt image budget d h1 after.events (had n (suc k) i) i s x) 0 (slice_set seats k next) ss) (sym (visit_by_stops (exchange n) image budget k now stop here.1)) seated;
      tells = went.tells;
    })

-- a whole round
pub stands_round : (image : Contents) (budget n k : ℕ) (d : Devices) (seats : List VcpuOnPage) (h : Hosting) (order : List Turn) (m : Machine) → length seats ≡ k →
    Stands image budget d n k seats h order m → Stands image budget d (next_by (exchange n) n) 0 seats h order m
stands_round image budget n k d seats h order m many stands = record {
  seated =
      at_all (λ i s x. IsVcpuAt image budget d h m.events (had (next_by (exchange n) n) 0 i) i s x) (λ i s x. IsVcpuAt image budget d h m.events (had n k i) i s x) 0 seats m.stops stands.seated
      (λ j s x from under was.
      let within : j < k = omega (arith, under, many) in
      subst (λ c. IsVcpuAt image budget d h m.events c j s x) (had_under n k j within ∙ sym (had_over (next_by (exchange n) n) 0 j (omega arith))) was);
  tells = stands.tells;
}

-- each vCPU is where the plain one stops
abbrev IsStopped : ℕ → VcpuOnPage → Standstill → Type 0
IsStopped i seat stop = seat.vcpu ≡ state_stopped i stop

-- after all exchanges they are
all_stopped : (image : Contents) (budget n : ℕ) (d : Devices) (seats : List VcpuOnPage) (h : Hosting) (order : List Turn) (m : Machine) → Stands image budget d (suc n) 0 seats h order m → AreAt (λ i s x. IsStopped i s x) 0 seats m.stops
all_stopped image budget n d seats h order m stands =
    at_all (λ i s x. IsStopped i s x) (λ i s x. IsVcpuAt image budget d h m.events (had (suc n) 0 i) i s x) 0 seats m.stops stands.seated
    (λ j s x from under was. (subst (λ c. IsVcpuAt image budget d h m.events c j s x) (had_over (suc n) 0 j (omega arith)) was).vcpu)

-- all ended as the seats show it
ended_at : (i : ℕ) (seats : List VcpuOnPage) (stops : List Standstill) → AreAt (λ i s x. IsStopped i s x) i seats stops → list_all (λ s. is_some (end_in s.vcpu.phase)) seats ≡ true → all_ended stops ≡ true
ended_at i [] [] all over = refl
ended_at i [] (x ∷ xs) all over = absurd all
ended_at i (s ∷ ss) [] all over = absurd all
ended_at i (s ∷ ss) (Waits e v ∷ xs) all over =
    let wrong : (is_some {T = End} None && list_all (λ (y : VcpuOnPage). is_some (end_in y.vcpu.phase)) ss) ≡ true = ap (λ (x : State). is_some (end_in x.phase) && list_all (λ (y : VcpuOnPage). is_some (end_in y.vcpu.phase)) ss) (sym all.0) ∙ over in cc
ended_at i (s ∷ ss) (Ended end v ∷ xs) all over =
    let rest : (is_some (Some end) && list_all (λ (y : VcpuOnPage). is_some (end_in y.vcpu.phase)) ss) ≡ true = ap (λ (x : State). is_some (end_in x.phase) && list_all (λ (y : VcpuOnPage). is_some (end_in y.vcpu.phase)) ss) (sym all.0) ∙ over in
    ended_at (i + 1) ss xs all.1 rest

pub ended_over : (image : Contents) (budget n : ℕ) (d : Devices) (seats : List VcpuOnPage) (h : Hosting) (order : List Turn) (m : Machine) → Stands image budget d (suc n) 0 seats h order m →
    list_all (λ s. is_some (end_in s.vcpu.phase)) seats ≡ true → all_ended m.stops ≡ true
ended_over image budget n d seats h order m stands over = ended_at 0 seats m.stops (all_stopped image budget n d seats h order m stands) over

steps_at : (i : ℕ) (seats : List VcpuOnPage) (stops : List Standstill) → AreAt (λ i s x. IsStopped i s x) i seats stops → map (λ s. s.vcpu.cpu.steps) seats ≡ steps_of stops
steps_at i [] [] all = refl
steps_at i [] (x ∷ xs) all = absurd all
steps_at i (s ∷ ss) [] all = absurd all
steps_at i (s ∷ ss) (Waits e v ∷ xs) all = let rest : map (λ (s : VcpuOnPage). s.vcpu.cpu.steps) ss ≡ steps_of xs = steps_at (i + 1) ss xs all.1 in let one : s.vcpu.cpu.steps ≡ v.steps = ap (λ (x : State). x.cpu.steps) all.0 in cc
steps_at i (s ∷ ss) (Ended end v ∷ xs) all = let rest : map (λ (s : VcpuOnPage). s.vcpu.cpu.steps) ss ≡ steps_of xs = steps_at (i + 1) ss xs all.1 in let one : s.vcpu.cpu.steps ≡ v.steps = ap (λ (x : State). x.cpu.steps) all.0 in cc

ends_at : (i : ℕ) (seats : List VcpuOnPage) (stops : List Standstill) → AreAt (λ i s x. IsStopped i s x) i seats stops → all_ended stops ≡ true → map (λ s. unwrap_or (end_in s.vcpu.phase) Spent) seats ≡ ends_of stops
ends_at i [] [] all ended = refl
ends_at i [] (x ∷ xs) all ended = absurd all
ends_at i (s ∷ ss) [] all ended = absurd all
ends_at i (s ∷ ss) (Waits e v ∷ xs) all ended = cc
ends_at i (s ∷ ss) (Ended end v ∷ xs) all ended =
    let rest : map (λ (s : VcpuOnPage). unwrap_or (end_in s.vcpu.phase) Spent) ss ≡ ends_of xs = ends_at (i + 1) ss xs all.1 ended in
    ap (λ (x : State). unwrap_or (end_in x.phase) Spent ∷ map (λ (s : VcpuOnPage). unwrap_or (end_in s.vcpu.phase) Spent) ss) all.0 ∙ ap (λ es. end ∷ es) rest

-- all seats are given back
pub all_back : (k : ℕ) (new old : List VcpuOnPage) → k ≡ length old → length new ≡ length old → take k (new ++ drop (length new) old) ≡ new
all_back k new old is same = ap (λ n. take n (new ++ drop (length new) old)) (is ∙ sym same) ∙ take-append_seam new (drop (length new) old)

-- the order, and the steps and ends of the seats
pub record HandsBack (f : Finished) (turns : List Turn) (seats : List VcpuOnPage) : Type 0 where
  pub order : f.order.items ≡ turns
  pub steps : f.steps.items ≡ map (λ s. s.vcpu.cpu.steps) seats
  pub ends : f.ends.items ≡ map (λ s. unwrap_or (end_in s.vcpu.phase) Spent) seats

pub hands_back : {E : Type 0} (r : Result Finished E) (turns : List Turn) (seats seen : List VcpuOnPage) → seen ≡ seats → IfOk r (λ f. f.order.items ≡ turns) → IfOk r (λ f. f.steps.items ≡ map (λ s. s.vcpu.cpu.steps) seen) → IfOk r (λ f. f.ends.items ≡ map (λ s. unwrap_or (end_in s.vcpu.phase) Spent) seen) → IfOk r (λ f. HandsBack f turns seats)
hands_back (Err e) turns seats seen same order steps ends = tt
hands_back (Ok f) turns seats seen same order steps ends = record { order = order; steps = steps ∙ ap (λ ss. map (λ (s : VcpuOnPage). s.vcpu.cpu.steps) ss) same; ends = ends ∙ ap (λ ss. map (λ (s : VcpuOnPage). unwrap_or (end_in s.vcpu.phase) Spent) ss) same }

-- the pages of each vCPU
pages_at : (image : Contents) (budget n : ℕ) (d : Devices) (i k : ℕ) (seats : List VcpuOnPage) (stops : List Standstill) (h : Hosting) (events : List Entry) →
    AreAt (λ i s x. IsVcpuAt image budget d h events (had n 0 i) i s x) i seats stops → k < length seats → IfSome h.pages (λ given. pages_of (i + k) given ≡ (talked n (i + k) d events).pages)
pages_at image budget n d i k [] stops h events all within = absurd (omega (arith, within))
pages_at image budget n d i k (s ∷ ss) [] h events all within = absurd all
pages_at image budget n d i zero (s ∷ ss) (x ∷ xs) h events all within =
    let none : i ≡ i + 0 = omega arith in
    subst (λ j. IfSome h.pages (λ given. pages_of j given ≡ (talked n j d events).pages)) none
    (subst (λ c. IsVcpuAt image budget d h events c i s x) (had_over n 0 i (omega arith)) all.0).pages
pages_at image budget n d i (suc k) (s ∷ ss) (x ∷ xs) h events all within =
    let one : i + 1 + k ≡ i + suc k = omega arith in
    subst (λ j. IfSome h.pages (λ given. pages_of j given ≡ (talked n j d events).pages)) one (pages_at image budget n d (i + 1) k ss xs h events all.1 (omega (arith, within)))

all_pages : {X : Type 0} (o : Option X) (n : ℕ) (P : ℕ → X → Type 0) → ((i : ℕ) → i < n → IfSome o (λ x. P i x)) → IfSome o (λ x. (i : ℕ) → i < n → P i x)
all_pages None n P all = tt
all_pages (Some x) n P all = λ i within. all i within

-- what is handed back once all have ended
pub ran : (image : Contents) (budget n : ℕ) (input : List ℕ) (seats : List VcpuOnPage) (h : Hosting) (order : List Turn) (f : Finished) →
    n ≤ budget → length seats ≡ image.header.vcpus →
    Stands image budget (opening image.header.vcpus input) exchanges 0 seats h order (rounds image budget n (machine_at_start image budget input)) → all_ended (rounds image budget n (machine_at_start image budget input)).stops ≡ true →
    HandsBack f order seats → RanRounds image budget input f h
ran image budget n input seats h order f fewer many stands ended back =
    let m = rounds image budget n (machine_at_start image budget input) in
    let d = opening image.header.vcpus input in
    let same : rounds_machine image budget input ≡ m = rounds_idle image budget n budget (machine_at_start image budget input) fewer ended in
    let turns : f.order.items ≡ rounds_order image budget input = back.order ∙ stands.tells.turns ∙ ap (λ (x : Machine). turns_of x.events) (sym same) in
    let law = rounds_plain image budget input in
    let plain : plain_run image budget input f.order.items ≡ Some m = ap (λ o. plain_run image budget input o) turns ∙ law.0 ∙ ap (λ (x : Machine). Some x) same in
    let all = all_stopped image budget 0 d seats h order m stands in
    let ends : f.ends.items ≡ ends_of m.stops = back.ends ∙ ends_at 0 seats m.stops all ended in
    record {
      ran = record {
        machine = m;
        plain = plain;
        steps = back.steps ∙ steps_at 0 seats m.stops all;
        ends = ends;
        devices = stands.tells.devices;
        history = stands.tells.history;
        legal = stands.tells.legal;
        unterminated = subst (λ (es : List End). AreUnterminated es) (sym ends) (runs_unterminated image budget input f.order.items m plain);
        pages =
            all_pages h.pages image.header.vcpus (λ i given. pages_of i given ≡ (talked exchanges i d m.events).pages)
            (λ i within.
            let zeroth : 0 + i ≡ i = omega arith in
            subst (λ j. IfSome h.pages (λ given. pages_of j given ≡ (talked exchanges j d m.events).pages)) zeroth
            (pages_at image budget exchanges d 0 i seats m.stops h m.events stands.seated (omega (arith, within, many))));
      };
      order = turns;
    }

told_some : {X : Type 0} (o : Option X) (x : X) → IsSome o → option_map (λ _. x) o ≡ Some x
told_some None x some = cc
told_some (Some y) x some = refl

-- a started host tells its devices
starts_devices : (image : Contents) (input : List ℕ) (h0 h1 : Hosting) → IsTelling h0 → h1 ≡ started image.header.vcpus input h0 → h1.devices ≡ Some (opening image.header.vcpus input)
starts_devices image input h0 h1 telling starts = ap (λ (h : Hosting). h.devices) starts ∙ told_some h0.devices (opening image.header.vcpus input) telling.0

fresh_none : (i : ℕ) (o : Option (List Given)) → IfSome (option_map (λ (x : List Given). []) o) (λ (given : List Given). pages_of i given ≡ [])
fresh_none i None = tt
fresh_none i (Some x) = refl

-- a fresh seat stands for the first stop
fresh_at : (image : Contents) (budget : ℕ) (d : Devices) (h : Hosting) → ((j : ℕ) → IfSome h.pages (λ given. pages_of j given ≡ [])) → (i n : ℕ) (seats : List VcpuOnPage) → length seats ≡ n → AreFresh image i seats →
    AreAt (λ i s x. IsVcpuAt image budget d h [] 0 i s x) i seats (first_stops image budget i n)
fresh_at image budget d h none i zero [] many fresh = tt
fresh_at image budget d h none i zero (s ∷ ss) many fresh = absurd (omega (arith, many))
fresh_at image budget d h none i (suc n) [] many fresh = absurd (omega (arith, many))
fresh_at image budget d h none i (suc n) (s ∷ ss) many fresh = (
  record {
    vcpu = fresh.0;
    first = (refl, λ k. refl);
    page = fresh.1;
    full = refl;
    lawful = subst (λ (x : State). IsLawfulPhase x.phase) (sym fresh.0) tt;
    pages = none i;
  },
  fresh_at image budget d h none (i + 1) n ss (omega (arith, many)) fresh.2,
)

-- the seats of a started host stand for the plain machine at its start
pub stands_first : (image : Contents) (budget : ℕ) (input : List ℕ) (seats : List VcpuOnPage) (h0 h1 : Hosting) → IsTelling h0 → h1 ≡ started image.header.vcpus input h0 → length seats ≡ image.header.vcpus →
    AreFresh image 0 seats → Stands image budget (opening image.header.vcpus input) 0 0 seats h1 [] (machine_at_start image budget input)
stands_first image budget input seats h0 h1 telling starts many fresh =
    let d = opening image.header.vcpus input in
    let stops = first_stops image budget 0 image.header.vcpus in
    let none : (j : ℕ) → IfSome h1.pages (λ given. pages_of j given ≡ []) = λ j. subst (λ (h : Hosting). IfSome h.pages (λ given. pages_of j given ≡ [])) (sym starts) (fresh_none j h0.pages) in
    record {
      seated =
          at_all (λ i s x. IsVcpuAt image budget d h1 [] (had 0 0 i) i s x) (λ i s x. IsVcpuAt image budget d h1 [] 0 i s x) 0 seats stops (fresh_at image budget d h1 none 0 image.header.vcpus seats many fresh)
          (λ j s x from under was. subst (λ c. IsVcpuAt image budget d h1 [] c j s x) (sym (had_over 0 0 j (omega arith))) was);
      tells = record {
        devices = starts_devices image input h0 h1 telling starts;
        history = ap (λ (h : Hosting). h.history) starts ∙ told_some h0.history [] telling.1;
        legal = refl;
        turns = refl;
      };
    }

pub fresh_numbered : (image : Contents) (i : ℕ) (seats : List VcpuOnPage) → AreFresh image i seats → AreNumbered i seats
fresh_numbered image i [] fresh = tt
fresh_numbered image i (s ∷ ss) fresh = (ap (λ (x : State). x.number) fresh.0, fresh_numbered image (i + 1) ss fresh.2)

fresh_append : (image : Contents) (i k : ℕ) (seats : List VcpuOnPage) (seat : VcpuOnPage) → AreFresh image i seats → length seats ≡ k → seat.vcpu ≡ state (i + k) (start_of image (i + k)) phase.Asked → seat.page ≡ asking →
    AreFresh image i (seats ++ seat ∷ [])
fresh_append image i k [] seat all many is page =
    let none : i + k ≡ i = omega arith in
    (subst (λ n. seat.vcpu ≡ state n (start_of image n) phase.Asked) none is, page, tt)
fresh_append image i k (s ∷ ss) seat all many is page =
    let rest : length ss ≡ k - 1 = omega arith in
    let one : i + k ≡ i + 1 + (k - 1) = omega arith in
    (all.0, all.1, fresh_append image (i + 1) (k - 1) ss seat all.2 rest (subst (λ n. seat.vcpu ≡ state n (start_of image n) phase.Asked) one is) page)

-- one more fresh seat
pub fresh_push : (image : Contents) (k : ℕ) (seats : List VcpuOnPage) (seat : VcpuOnPage) → AreFresh image 0 seats → length seats ≡ k → seat.vcpu ≡ state k (start_of image k) phase.Asked → seat.page ≡ asking → AreFresh image 0 (seats ++ seat ∷ [])
fresh_push image k seats seat all many is page = let zeroth : k ≡ 0 + k = omega arith in fresh_append image 0 k seats seat all many (subst (λ n. seat.vcpu ≡ state n (start_of image n) phase.Asked) zeroth is) page
