-- A worker's vCPU, from one exit to the next.
use Rattle.std.proofs.Common.{◌≡◌, ◌≢◌, ⊎_elim, inl, inr, ℕ, ◌+◌, ◌<◌, true, false, [], ◌∷◌, length, Option, Some, None, sym, ap, ◌∙◌, subst}
use Rattle.std.specs.Prelude.{MatchOption}
use Rattle.page_words.specs.declared.item.Item.TheVariants.{Exit}
use Rattle.page_words.specs.Told.{Kept, Makes, keeping, kept_after_all}
use Rattle.page_words.specs.Dialogue.{Runs}
use Rattle.image_file.specs.Format.{most_vcpus}
use Rattle.image_file.specs.Image.{Contents}
use Rattle.event_table.specs.declared.event.Event.{Event}
use Rattle.event_table.specs.declared.turn.Entry.{Entry}
use Rattle.event_table.specs.Ending.{IsOver}
use Rattle.event_table.specs.Lawful.{count_of}
use Rattle.event_table.specs.Plan.{Stepped, Moved, Exits, Stops}
use Rattle.guest_interp.specs.Stepping.{Counted, at_count, counted, Standstill, Waits, Ended, stop_answered, next_within, start_of}
use Rattle.device_bus.specs.Devices.{Devices, opening}
use Rattle.device_bus.specs.History.{after_history}
use Rattle.host_events.specs.Served.{Served, served, entries}
use Rattle.vc_handler.specs.Version.{question}
use Rattle.vcpu_core.specs.State.{State, is_waiting, IsLawfulPhase}
use Rattle.vcpu_core.specs.declared.vcpu.Progress.{Progress}
use Rattle.vcpu_core.specs.declared.vcpu.Progress.TheVariants as progress
use Rattle.vcpu_core.specs.Running.{state_advanced, items_said, progress_in}
use Rattle.vcpu_core.specs.Resuming.{state_answered, resuming}
use Rattle.both_ends.specs.BothEnds.{outcome_on, outcome_to, Agrees, BothEndsAgree}
use Rattle.plain_machine.specs.Single.{event_applied}
use Rattle.plain_machine.proofs.Over.{applied_over}
use Rattle.round_runner.proofs.Meeting.{offered, offers, asks_nothing, hears_version}
use Rattle.round_runner.proofs.Visiting.{Goes, replied, runs_on, says_on}
use Rattle.bus_lock.specs.declared.view.View.{View}
use Rattle.bus_lock.specs.Turns.{Learns, Books, BooksNone}
use Rattle.smp_runner.specs.declared.running_vcpu.RunningVcpu.{RunningVcpu}
use Rattle.smp_runner.specs.Standing.{IsNew, IsGoing, IsReady, IsAsking, IsShowing, IsOut}
use Rattle.smp_runner.specs.Working.{HasEnded, Works}
use Rattle.smp_runner.proofs.Working.{works_first, works_same, works_on}

abbrev over : State → Kept → RunningVcpu
over v page = record { vcpu = v; page = page }

-- it came to this stop
stopped_out : (image : Contents) (budget i : ℕ) (v : View) (stop : Standstill) (v1 : State) (page0 page1 : Kept) → Goes budget i stop page0 v1 page1 → length page0.words ≡ 512 → IsLawfulPhase v1.phase →
    Works image budget i v stop → IsOut image budget i v (over v1 page1)
stopped_out image budget i v (Waits e c) v1 page0 page1 goes full lawful works = inr (inl (record {
  event = e;
  cpu = c;
  before = page0;
  vcpu = goes.vcpu;
  page = goes.page;
  full = full;
  lawful = subst (λ (x : State). IsLawfulPhase x.phase) goes.vcpu lawful;
  works = works;
}))
stopped_out image budget i v (Ended end c) v1 page0 page1 goes full lawful works = inr (inr (record { end = end; last = c; stands = goes.vcpu; works = works }))

-- it goes on to its next exit or its end
pub goes_out : (image : Contents) (budget i : ℕ) (v : View) (v0 v1 : State) (page0 page1 : Kept) → Makes (keeping page0) (items_said budget v0) (keeping page1) → v1 ≡ state_advanced budget v0 → IsLawfulPhase v1.phase →
    IsReady image budget i v (over v0 page0) → IsOut image budget i v (over v1 page1)
goes_out image budget i v v0 v1 page0 page1 makes goes lawful = ⊎_elim
    (λ (n : IsNew image i v (over v0 page0)).
    inl (record {
      vcpu = goes ∙ ap (λ (x : State). state_advanced budget x) n.vcpu;
      page =
          says_on page0 page1 (Exit question ∷ []) (subst (λ (x : State). Makes (keeping page0) (items_said budget x) (keeping page1)) n.vcpu makes)
          ∙ ap (λ (k : Kept). kept_after_all k (Exit question ∷ [])) n.page;
      own = n.own;
    }))
    (⊎_elim
    (λ (g : IsGoing image budget i v (over v0 page0)).
    stopped_out image budget i v (next_within budget g.cpu) v1 page0 page1 (runs_on budget i g.cpu v0 v1 page0 page1 g.vcpu makes goes) g.full lawful g.works)
    (λ (e : HasEnded image budget i v v0).
    inr (inr (record { end = e.end; last = e.last; stands = goes ∙ ap (λ (x : State). state_advanced budget x) e.stands; works = e.works }))))

-- where its event is over it goes on, or has ended
landed_ready : (image : Contents) (budget i count steps : ℕ) (s : Stepped) (w : View) (v1 : State) (page : Kept) → IsOver s → v1 ≡ state_answered i count steps s → length page.words ≡ 512 →
    Works image budget i w (stop_answered count steps s (λ c. next_within budget c)) → IsReady image budget i w (over v1 page)
landed_ready image budget i count steps (Moved v) w v1 page done is full works = inr (inl (record { cpu = at_count v (steps + count); vcpu = is; full = full; works = works }))
landed_ready image budget i count steps (Exits event v) w v1 page done is full works = absurd done
landed_ready image budget i count steps (Stops end v) w v1 page done is full works = inr (inr (record { end = end; last = at_count v (counted end steps); stands = is; works = works }))

abbrev entry_of : ℕ → Event → Entry
entry_of i event = record { vcpu = i; event = event }

-- it asked for the versions, and the turn made no entry
hears_versions : (image : Contents) (budget i : ℕ) (v w : View) (v0 v1 : State) (page0 page1 page2 : Kept) (r : Option ℕ) → Learns v w →
    MatchOption r (BooksNone v i page0 page1 w) (λ k. Books v i page0 k page1 w) → Runs (resuming image v0) v1 (keeping page1) (keeping page2) →
    IsAsking image i v (over v0 page0) → IsReady image budget i w (over v1 page2)
hears_versions image budget i v w v0 v1 page0 page1 page2 (Some k) learns turned runs asks =
    let nothing : entries i page0 ≡ [] = ap (λ (p : Kept). entries i p) asks.page ∙ asks_nothing i in
    let wrong : entry_of i turned.event ∷ [] ≡ [] = sym turned.is ∙ nothing in cc
hears_versions image budget i v w v0 v1 page0 page1 page2 None learns turned runs asks =
    let c : Counted = start_of image i in
    let d : Devices = opening 0 [] in
    let left : page1 ≡ offered = turned.leaves d ∙ ap (λ (p : Kept). (served i p d).page) asks.page ∙ ap (λ (s : Served). s.page) (offers i d) in
    let heard = hears_version image i c page1 page2 v0 v1 left asks.vcpu runs in
    inr (inl (record {
      cpu = c;
      vcpu = heard.0;
      full = ap (λ (p : Kept). length p.words) heard.1;
      works = works_same image budget i v w (next_within budget c) learns turned.own (works_first image budget i v asks.own);
    }))

-- it showed an event, and the turn made its entry
hears_reply : BothEndsAgree → (image : Contents) (budget i : ℕ) (v w : View) (v0 v1 : State) (page0 page1 page2 : Kept) (r : Option ℕ) → i < most_vcpus → Learns v w →
    MatchOption r (BooksNone v i page0 page1 w) (λ k. Books v i page0 k page1 w) → Runs (resuming image v0) v1 (keeping page1) (keeping page2) →
    IsShowing image budget i v (over v0 page0) → IsReady image budget i w (over v1 page2)
hears_reply ends_agree image budget i v w v0 v1 page0 page1 page2 None few learns turned runs shows =
    let d : Devices = opening 0 [] in
    let e : Event = shows.event in
    let agrees : Agrees i e page0 d = subst (λ (p : Kept). Agrees i e p d) (sym shows.page) (ends_agree i e shows.before d few shows.lawful shows.full) in
    let wrong : entry_of i e ∷ [] ≡ [] = sym agrees.entries ∙ turned.is in cc
hears_reply ends_agree image budget i v w v0 v1 page0 page1 page2 (Some k) few learns turned runs shows =
    let d : Devices = after_history (opening v.vcpus v.input) turned.before in
    let e : Event = shows.event in
    let c : Counted = shows.cpu in
    let agrees : Agrees i e page0 d = subst (λ (p : Kept). Agrees i e p d) (sym shows.page) (ends_agree i e shows.before d few shows.lawful shows.full) in
    let outcome : outcome_on e page1 ≡ outcome_to d i e = ap (λ (p : Kept). outcome_on e p) turned.leaves ∙ agrees.outcome in
    let after = replied image i e c d v0 v1 page1 page2 shows.vcpu outcome runs in
    landed_ready image budget i (count_of e) c.steps (event_applied image i e c.vcpu d) w v1 page2 (applied_over image i e c.vcpu d) after.0
    (ap (λ (p : Kept). length p.words) (after.1 ∙ turned.leaves) ∙ agrees.full)
    (works_on image budget i v w page0 page1 k e c learns turned agrees.entries shows.works)

-- its page was served by a turn, and it heard the host
pub hears : BothEndsAgree → (image : Contents) (budget i : ℕ) (v w : View) (v0 v1 : State) (page0 page1 page2 : Kept) (r : Option ℕ) → i < most_vcpus → is_waiting v0.phase ≡ true → Learns v w →
    MatchOption r (BooksNone v i page0 page1 w) (λ k. Books v i page0 k page1 w) → Runs (resuming image v0) v1 (keeping page1) (keeping page2) →
    IsOut image budget i v (over v0 page0) → IsReady image budget i w (over v1 page2)
hears ends_agree image budget i v w v0 v1 page0 page1 page2 r few waits learns turned runs = ⊎_elim
    (λ (asks : IsAsking image i v (over v0 page0)). hears_versions image budget i v w v0 v1 page0 page1 page2 r learns turned runs asks)
    (⊎_elim
    (λ (shows : IsShowing image budget i v (over v0 page0)). hears_reply ends_agree image budget i v w v0 v1 page0 page1 page2 r few learns turned runs shows)
    (λ (e : HasEnded image budget i v v0). let wrong : false ≡ true = ap (λ (x : State). is_waiting x.phase) (sym e.stands) ∙ waits in cc))

-- it has ended where it says so
pub over_of : (image : Contents) (budget i : ℕ) (v : View) (seat : RunningVcpu) (p : Progress) → p ≡ progress_in seat.vcpu.phase → p ≡ progress.Ended → IsOut image budget i v seat →
    HasEnded image budget i v seat.vcpu
over_of image budget i v seat p is ended = ⊎_elim
    (λ (asks : IsAsking image i v seat). let wrong : progress.Ended ≡ progress.Exited = sym ended ∙ is ∙ ap (λ (x : State). progress_in x.phase) asks.vcpu in cc)
    (⊎_elim
    (λ (shows : IsShowing image budget i v seat). let wrong : progress.Ended ≡ progress.Exited = sym ended ∙ is ∙ ap (λ (x : State). progress_in x.phase) shows.vcpu in cc)
    (λ (e : HasEnded image budget i v seat.vcpu). e))

-- and else it waits
pub waits_of : (image : Contents) (budget i : ℕ) (v : View) (seat : RunningVcpu) (p : Progress) → p ≡ progress_in seat.vcpu.phase → p ≢ progress.Ended → IsOut image budget i v seat → is_waiting seat.vcpu.phase ≡ true
waits_of image budget i v seat p is not = ⊎_elim
    (λ (asks : IsAsking image i v seat). ap (λ (x : State). is_waiting x.phase) asks.vcpu)
    (⊎_elim
    (λ (shows : IsShowing image budget i v seat). ap (λ (x : State). is_waiting x.phase) shows.vcpu)
    (λ (e : HasEnded image budget i v seat.vcpu). absurd (not (is ∙ ap (λ (x : State). progress_in x.phase) e.stands))))
