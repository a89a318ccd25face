-- A vCPU gets one item.
use Rattle.std.proofs.Common.{◌≡◌, ℕ, zero, suc, ◌<◌, ◌≤◌, true, false, List, [], ◌∷◌, ◌++◌, length, Some, append-nil, refl, sym, ap, ◌∙◌, subst, arith, ne_eqb}
use Rattle.std.specs.Prelude.{option_map, IfSome}
use Rattle.std.proofs.lemmas.List.{map-append}
use Rattle.std.proofs.lemmas.Option.{same_Some}
use Rattle.page_words.specs.declared.item.Item.{Item}
use Rattle.page_words.specs.declared.item.Item.TheVariants.{Exit}
use Rattle.page_words.specs.Told.{Told, Kept, Makes, keeping, kept_after_all}
use Rattle.page_words.specs.Dialogue.{Runs}
use Rattle.page_words.proofs.Making.{kept-after_all}
use Rattle.page_words.proofs.Dialogues.{Left, found_in, runs_kept, found_listen}
use Rattle.event_table.specs.declared.event.Event.{Event}
use Rattle.event_table.specs.declared.event.Event.TheVariants.{One, Many}
use Rattle.event_table.specs.declared.access.Access.{Access}
use Rattle.event_table.specs.Lawful.{IsLawfulEvent, count_of}
use Rattle.event_table.specs.declared.outcome.Outcome.{Outcome}
use Rattle.event_table.specs.declared.turn.Turn.{Turn}
use Rattle.image_file.specs.Format.{most_vcpus}
use Rattle.image_file.specs.Image.{Contents}
use Rattle.event_table.specs.Plan.{Stepped, Moved, Exits as Asked, Stops}
use Rattle.guest_interp.specs.Stepping.{Counted, Standstill, Waits, Ended, stop_answered, next_within, start_of}
use Rattle.device_bus.specs.declared.answer.Answer.{Answer}
use Rattle.device_bus.specs.declared.answer.Answer.TheVariants.{Done, Raise}
use Rattle.device_bus.specs.Devices.{Devices, answer}
use Rattle.event_table.specs.Turns.{turn_of}
use Rattle.vc_handler.specs.Wire.{wire}
use Rattle.vc_handler.specs.Accept.{accepting}
use Rattle.vc_handler.specs.Version.{question}
use Rattle.host_events.specs.Served.{Served, served, entries}
use Rattle.host_events.specs.Hosting.{Hosting, after_serve, Leaves}
use Rattle.round_runner.specs.declared.vcpu_on_page.VcpuOnPage.{VcpuOnPage}
use Rattle.both_ends.specs.BothEnds.{outcome_of, outcome_on, outcome_to, Agrees, BothEndsAgree}
use Rattle.vcpu_core.specs.Phase as phase
use Rattle.vcpu_core.specs.State.{State, state, is_waiting, pending_in, IsLawfulPhase}
use Rattle.vcpu_core.specs.Running.{state_advanced, items_said, items_said_at, state_stopped}
use Rattle.vcpu_core.specs.Resuming.{state_answered, resuming, settling}
use Rattle.event_table.specs.Ending.{IsOver}
use Rattle.device_bus.specs.History.{after_event}
use Rattle.device_bus.proofs.Histories.{after_history-append}
use Rattle.plain_machine.proofs.Over.{applied_over}
use Rattle.plain_machine.specs.Plain.{Machine, event_done, stop_after_event}
use Rattle.plain_machine.specs.Single.{answer_applied, at_once, event_applied}
use Rattle.round_runner.specs.Pages.{Talked, untalked, talked, pages_of, says}
use Rattle.round_runner.specs.Standing.{AreOthers, IsVcpuAt, Tells, Visited, pushed}
use Rattle.round_runner.proofs.Meeting.{asking, offered, offers, asks_nothing, hears_version}
use Rattle.round_runner.proofs.Talking.{shown_own, pages_own, pages_other}

-- what a vCPU says is on its page
pub says_on : (old new : Kept) (items : List Item) → Makes (keeping old) items (keeping new) → new ≡ kept_after_all old items
says_on old new items makes = same_Some _ _ (ap (λ (t : Told). t.kept) makes.leaves ∙ kept-after_all (keeping old) items old refl)

-- a vCPU over its page that goes on to this stop
pub record Goes (budget i : ℕ) (stop : Standstill) (old : Kept) (v : State) (new : Kept) : Type 0 where
  pub vcpu : v ≡ state_stopped i stop
  pub page : new ≡ kept_after_all old (items_said_at i stop)

-- a vCPU that goes on by itself comes to its stop
pub runs_on : (budget i : ℕ) (c : Counted) (v1 v2 : State) (old new : Kept) → v1 ≡ state i c phase.Going →
    Makes (keeping old) (items_said budget v1) (keeping new) → v2 ≡ state_advanced budget v1 → Goes budget i (next_within budget c) old v2 new
runs_on budget i c v1 v2 old new is makes goes = record {
  vcpu = goes ∙ ap (λ (x : State). state_advanced budget x) is;
  page = says_on old new (items_said_at i (next_within budget c)) (subst (λ (x : State). Makes (keeping old) (items_said budget x) (keeping new)) is makes);
}

landed_gone : (budget i count steps : ℕ) (s : Stepped) → state_advanced budget (state_answered i count steps s) ≡ state_stopped i (stop_answered count steps s (λ c. next_within budget c))
landed_gone budget i count steps (Moved v) = refl
landed_gone budget i count steps (Asked event v) = refl
landed_gone budget i count steps (Stops end v) = refl

landed_said : (budget i count steps : ℕ) (s : Stepped) → IsOver s → items_said budget (state_answered i count steps s) ≡ items_said_at i (stop_answered count steps s (λ c. next_within budget c))
landed_said budget i count steps (Moved v) over = refl
landed_said budget i count steps (Asked event v) over = absurd over
landed_said budget i count steps (Stops end v) over = refl

-- once its event is answered it goes on to its stop
landed_at : (budget i count steps : ℕ) (s : Stepped) (v1 v2 : State) (old new : Kept) → IsOver s → v1 ≡ state_answered i count steps s →
    Makes (keeping old) (items_said budget v1) (keeping new) → v2 ≡ state_advanced budget v1 → Goes budget i (stop_answered count steps s (λ c. next_within budget c)) old v2 new
landed_at budget i count steps s v1 v2 old new over is makes goes = record {
  vcpu = goes ∙ ap (λ (x : State). state_advanced budget x) is ∙ landed_gone budget i count steps s;
  page =
      says_on old new (items_said budget v1) makes
      ∙ ap (λ (x : State). kept_after_all old (items_said budget x)) is
      ∙ ap (λ items. kept_after_all old items) (landed_said budget i count steps s over);
}

-- what the devices say lands, and is over with it
answer_left : (image : Contents) (i : ℕ) (access : Access) (c : Counted) (a : Answer) (k : Kept) →
    found_in (settling image i c (One access) (outcome_of a)) k ≡ record { value = state_answered i 1 c.steps (answer_applied image a c.vcpu); page = k }
answer_left image i access c (Done values) k = refl
answer_left image i access c (Raise vector code) k = refl

answered_left : (image : Contents) (i : ℕ) (e : Event) (c : Counted) (d : Devices) (k : Kept) →
    found_in (settling image i c e (outcome_to d i e)) k ≡ record { value = state_answered i (count_of e) c.steps (event_applied image i e c.vcpu d); page = k }
answered_left image i (One access) c d k = answer_left image i access c (answer d i access) k
answered_left image i (Many block) c d k = refl

-- what a vCPU makes of the reply to its event; the page stays
pub replied : (image : Contents) (i : ℕ) (e : Event) (c : Counted) (d : Devices) (v0 v1 : State) (page1 page2 : Kept) →
    v0 ≡ state i c (phase.Waits e) → outcome_on e page1 ≡ outcome_to d i e → Runs (resuming image v0) v1 (keeping page1) (keeping page2) →
    (v1 ≡ state_answered i (count_of e) c.steps (event_applied image i e c.vcpu d)) × (page2 ≡ page1)
replied image i e c d v0 v1 page1 page2 is outcome runs =
    let left : found_in (resuming image v0) page1 ≡ record { value = state_answered i (count_of e) c.steps (event_applied image i e c.vcpu d); page = page1 } =
    ap (λ (x : State). found_in (resuming image x) page1) is
    ∙ found_listen (accepting e) (λ o. settling image i c e o) page1
    ∙ ap (λ (o : Outcome). found_in (settling image i c e o) page1) outcome
    ∙ answered_left image i e c d page1 in
    let kept = runs_kept (resuming image v0) v1 (keeping page1) (keeping page2) page1 refl runs in
    (kept.0 ∙ ap (λ (l : Left State). l.value) left, same_Some _ _ kept.1 ∙ ap (λ (l : Left State). l.page) left)

-- from the reply to the next stop
pub answered_at : (image : Contents) (budget i : ℕ) (e : Event) (c : Counted) (d : Devices) (v0 v1 v2 : State) (page1 page2 page3 : Kept) →
    v0 ≡ state i c (phase.Waits e) → outcome_on e page1 ≡ outcome_to d i e → Runs (resuming image v0) v1 (keeping page1) (keeping page2) →
    Makes (keeping page2) (items_said budget v1) (keeping page3) → v2 ≡ state_advanced budget v1 → Goes budget i (stop_after_event image budget i e c d) page1 v2 page3
answered_at image budget i e c d v0 v1 v2 page1 page2 page3 is outcome runs makes goes =
    let after = replied image i e c d v0 v1 page1 page2 is outcome runs in
    subst (λ (p : Kept). Goes budget i (stop_after_event image budget i e c d) p v2 page3) after.1
    (landed_at budget i (count_of e) c.steps (event_applied image i e c.vcpu d) v1 v2 page2 page3 (applied_over image i e c.vcpu d) after.0 makes goes)

told_on : (image : Contents) (budget i : ℕ) (e : Event) (v : Counted) (page : Kept) (d : Devices) (h0 h1 : Hosting) (order0 order1 : List Turn) (m : Machine) →
    Agrees i e page m.devices → Tells d h0 order0 m → h1 ≡ after_serve i page h0 → order1 ≡ order0 ++ turn_of (record { vcpu = i; event = e }) ∷ [] →
    Tells d h1 order1 (event_done budget i e v m (at_once image i e v.vcpu m.devices))
told_on image budget i e v page d h0 h1 order0 order1 m agrees tells serves pushed = record {
  devices =
      ap (λ (h : Hosting). h.devices) serves
      ∙ ap (λ o. option_map (λ d. (served i page d).devices) o) tells.devices
      ∙ ap Some agrees.devices;
  history =
      ap (λ (h : Hosting). h.history) serves
      ∙ ap (λ o. option_map (λ es. es ++ entries i page) o) tells.history
      ∙ ap (λ es. Some (m.events ++ es)) agrees.entries;
  legal =
      ap (λ (x : Devices). after_event x i e) tells.legal
      ∙ sym (after_history-append d m.events (record { vcpu = i; event = e } ∷ []));
  turns =
      pushed
      ∙ ap (λ turns. turns ++ turn_of (record { vcpu = i; event = e }) ∷ []) tells.turns
      ∙ sym (map-append turn_of m.events (record { vcpu = i; event = e } ∷ []));
}

-- an exchange changes nothing that is told but the pages
told_asked : (i : ℕ) (page : Kept) (d : Devices) (h0 h1 : Hosting) (order0 order1 : List Turn) (m : Machine) → page ≡ asking → Tells d h0 order0 m → h1 ≡ after_serve i page h0 → order1 ≡ order0 →
    Tells d h1 order1 m
told_asked i page d h0 h1 order0 order1 m is tells serves same = record {
  devices =
      ap (λ (h : Hosting). h.devices) serves
      ∙ ap (λ o. option_map (λ d. (served i page d).devices) o) tells.devices
      ∙ ap (λ (p : Kept). Some (served i p m.devices).devices) is
      ∙ ap (λ (s : Served). Some s.devices) (offers i m.devices);
  history =
      ap (λ (h : Hosting). h.history) serves
      ∙ ap (λ o. option_map (λ es. es ++ entries i page) o) tells.history
      ∙ ap (λ (p : Kept). Some (m.events ++ entries i p)) is
      ∙ ap (λ es. Some (m.events ++ es)) (asks_nothing i)
      ∙ ap Some (append-nil m.events);
  legal = tells.legal;
  turns = same ∙ tells.turns;
}

-- What each call of a visit says, where the vCPU waits.
pub record Calls (image : Contents) (budget : ℕ) (v0 v1 v2 : State) (page0 page1 page2 page3 : Kept) (h0 h1 : Hosting) : Type 0 where
  pub serves : h1 ≡ after_serve v0.number page0 h0
  pub leaves : Leaves v0.number page0 page1 h0
  pub resumes : Runs (resuming image v0) v1 (keeping page1) (keeping page2)
  pub says : Makes (keeping page2) (items_said budget v1) (keeping page3)
  pub goes : v2 ≡ state_advanced budget v1
  pub lawful : IsLawfulPhase v2.phase

-- its own pages have one more
pages_then : (i : ℕ) (page : Kept) (h0 h1 : Hosting) (t : Talked) (page_is : Kept) → page ≡ page_is → h1 ≡ after_serve i page h0 → IfSome h0.pages (λ given. pages_of i given ≡ t.pages) →
    IfSome h1.pages (λ given. pages_of i given ≡ t.pages ++ page_is ∷ [])
pages_then i page h0 h1 t page_is is serves before =
    subst (λ (p : Kept). IfSome h1.pages (λ given. pages_of i given ≡ t.pages ++ p ∷ [])) is
    (subst (λ (h : Hosting). IfSome h.pages (λ given. pages_of i given ≡ t.pages ++ page ∷ [])) (sym serves) (pages_own i page h0.pages t.pages before))

-- a visit to a vCPU that has asked for the versions
visited_first : (image : Contents) (budget : ℕ) (v0 v1 v2 : State) (page0 page1 page2 page3 : Kept) (h0 h1 : Hosting) (order0 order1 : List Turn) (d : Devices) (m : Machine) (stop : Standstill) →
    Calls image budget v0 v1 v2 page0 page1 page2 page3 h0 h1 → order1 ≡ order0 →
    IsVcpuAt image budget d h0 m.events 0 v0.number (record { vcpu = v0; page = page0 }) stop → Tells d h0 order0 m →
    Visited image budget d 0 v0.number stop m (record { vcpu = v2; page = page3 }) h1 order1
visited_first image budget v0 v1 v2 page0 page1 page2 page3 h0 h1 order0 order1 d m stop calls same at tells =
    let i = v0.number in
    let none : talked 0 i d m.events ≡ untalked = at.first.1 0 in
    let is : page0 ≡ asking = at.page ∙ ap (λ (t : Talked). kept_after_all t.left (Exit question ∷ [])) none in
    let left : page1 ≡ offered =
    subst (λ o. IfSome o (λ x. page1 ≡ (served i page0 x).page)) tells.devices calls.leaves
    ∙ ap (λ (p : Kept). (served i p m.devices).page) is
    ∙ ap (λ (s : Served). s.page) (offers i m.devices) in
    let heard = hears_version image i (start_of image i) page1 page2 v0 v1 left at.vcpu calls.resumes in
    let met_now : talked 1 i d m.events ≡ record { pages = asking ∷ []; left = offered } =
    at.first.1 1 ∙ ap (λ (s : Served). record { pages = asking ∷ []; left = s.page }) (offers i d) in
    let goes : Goes budget i (next_within budget (start_of image i)) page2 v2 page3 = runs_on budget i (start_of image i) v1 v2 page2 page3 heard.0 calls.says calls.goes in
    record {
      at = record {
        vcpu = goes.vcpu ∙ ap (λ (x : Standstill). state_stopped i x) (sym at.first.0);
        first = tt;
        page =
            goes.page
            ∙ ap (λ (p : Kept). kept_after_all p (items_said_at i (next_within budget (start_of image i)))) heard.1
            ∙ ap (λ (t : Talked). kept_after_all t.left (items_said_at i (next_within budget (start_of image i)))) (sym met_now)
            ∙ ap (λ (x : Standstill). kept_after_all (talked 1 i d m.events).left (items_said_at i x)) (sym at.first.0);
        full = ap (λ (t : Talked). length t.left.words) met_now;
        lawful = calls.lawful;
        pages =
            subst (λ (t : Talked). IfSome h1.pages (λ given. pages_of i given ≡ t.pages)) (sym met_now)
            (pages_then i page0 h0 h1 untalked asking is calls.serves (subst (λ (t : Talked). IfSome h0.pages (λ given. pages_of i given ≡ t.pages)) none at.pages));
      };
      tells = told_asked i page0 d h0 h1 order0 order1 m is tells calls.serves same;
    }

-- a visit to one that waits for an event
visited_event : BothEndsAgree → (image : Contents) (budget : ℕ) (v0 v1 v2 : State) (page0 page1 page2 page3 : Kept) (h0 h1 : Hosting) (order0 order1 : List Turn) (d : Devices) (n : ℕ) (m : Machine) (e : Event) (c : Counted) →
    v0.number < most_vcpus → Calls image budget v0 v1 v2 page0 page1 page2 page3 h0 h1 → order1 ≡ order0 ++ record { vcpu = v0.number; count = count_of e } ∷ [] →
    IsVcpuAt image budget d h0 m.events (suc n) v0.number (record { vcpu = v0; page = page0 }) (Waits e c) → Tells d h0 order0 m →
    Visited image budget d (suc n) v0.number (Waits e c) m (record { vcpu = v2; page = page3 }) h1 order1
visited_event ends_agree image budget v0 v1 v2 page0 page1 page2 page3 h0 h1 order0 order1 d n m e c few calls pushed at tells =
    let i = v0.number in
    let before = talked (suc n) i d m.events in
    let lawful : IsLawfulEvent e = subst (λ (x : State). IsLawfulPhase x.phase) at.vcpu at.lawful in
    let shown = kept_after_all before.left (wire i e) in
    let agrees : Agrees i e page0 m.devices = subst (λ (p : Kept). Agrees i e p m.devices) (sym at.page) (ends_agree i e before.left m.devices few lawful at.full) in
    let left : page1 ≡ (served i page0 m.devices).page = subst (λ o. IfSome o (λ x. page1 ≡ (served i page0 x).page)) tells.devices calls.leaves in
    let outcome : outcome_on e page1 ≡ outcome_to m.devices i e = ap (λ (p : Kept). outcome_on e p) left ∙ agrees.outcome in
    let now : talked (suc n) i d (m.events ++ record { vcpu = i; event = e } ∷ []) ≡ says i (wire i e) m.devices before = shown_own (suc n) i d m.devices m.events e tells.legal in
    let goes : Goes budget i (stop_after_event image budget i e c m.devices) page1 v2 page3 =
    answered_at image budget i e c m.devices v0 v1 v2 page1 page2 page3 at.vcpu outcome calls.resumes calls.says calls.goes in
    let here : page1 ≡ (served i shown m.devices).page = left ∙ ap (λ (p : Kept). (served i p m.devices).page) at.page in
    record {
      at = record {
        vcpu = goes.vcpu;
        first = tt;
        page =
            goes.page
            ∙ ap (λ (p : Kept). kept_after_all p (items_said_at i (stop_after_event image budget i e c m.devices))) here
            ∙ ap (λ (t : Talked). kept_after_all t.left (items_said_at i (stop_after_event image budget i e c m.devices))) (sym now);
        full = ap (λ (t : Talked). length t.left.words) now ∙ ap (λ (p : Kept). length (served i p m.devices).page.words) (sym at.page) ∙ agrees.full;
        lawful = calls.lawful;
        pages =
            subst (λ (t : Talked). IfSome h1.pages (λ given. pages_of i given ≡ t.pages)) (sym now)
            (pages_then i page0 h0 h1 before shown at.page calls.serves at.pages);
      };
      tells = told_on image budget i e c page0 d h0 h1 order0 order1 m agrees tells calls.serves pushed;
    }

some_accesses : (e : Event) → IsLawfulEvent e → 1 ≤ count_of e
some_accesses (One access) lawful = omega arith
some_accesses (Many block) lawful = lawful.count.0

pushed_some : (i n : ℕ) (order : List Turn) → 1 ≤ n → pushed i n order ≡ order ++ record { vcpu = i; count = n } ∷ []
pushed_some i zero order some = absurd (omega arith)
pushed_some i (suc n) order some = refl

-- What one visit makes of its vCPU and of what the host tells, from what each of its calls says.
pub visited : BothEndsAgree → (image : Contents) (budget : ℕ) (v0 v1 v2 : State) (page0 page1 page2 page3 : Kept) (h0 h1 : Hosting) (order0 order1 : List Turn) →
    v0.number < most_vcpus → is_waiting v0.phase ≡ true → Calls image budget v0 v1 v2 page0 page1 page2 page3 h0 h1 → order1 ≡ pushed v0.number (pending_in v0.phase) order0 →
    (d : Devices) (n : ℕ) (m : Machine) (stop : Standstill) → IsVcpuAt image budget d h0 m.events n v0.number (record { vcpu = v0; page = page0 }) stop → Tells d h0 order0 m →
    Visited image budget d n v0.number stop m (record { vcpu = v2; page = page3 }) h1 order1
visited ends_agree image budget v0 v1 v2 page0 page1 page2 page3 h0 h1 order0 order1 few waits calls is_pushed d zero m stop at tells =
    visited_first image budget v0 v1 v2 page0 page1 page2 page3 h0 h1 order0 order1 d m stop calls
    (is_pushed ∙ ap (λ (x : State). pushed v0.number (pending_in x.phase) order0) at.vcpu) at tells
visited ends_agree image budget v0 v1 v2 page0 page1 page2 page3 h0 h1 order0 order1 few waits calls is_pushed d (suc n) m (Ended end c) at tells =
    let wrong : false ≡ true = ap (λ (x : State). is_waiting x.phase) (sym at.vcpu) ∙ waits in cc
visited ends_agree image budget v0 v1 v2 page0 page1 page2 page3 h0 h1 order0 order1 few waits calls is_pushed d (suc n) m (Waits e c) at tells =
    visited_event ends_agree image budget v0 v1 v2 page0 page1 page2 page3 h0 h1 order0 order1 d n m e c few calls
    (is_pushed ∙ ap (λ (x : State). pushed v0.number (pending_in x.phase) order0) at.vcpu
    ∙ pushed_some v0.number (count_of e) order0 (some_accesses e (subst (λ (x : State). IsLawfulPhase x.phase) at.vcpu at.lawful)))
    at tells

-- one that doesn't wait has ended, and stays
pub unvisited : (image : Contents) (budget : ℕ) (seat : VcpuOnPage) (h : Hosting) (order : List Turn) → is_waiting seat.vcpu.phase ≡ false →
    (d : Devices) (n : ℕ) (m : Machine) (stop : Standstill) → IsVcpuAt image budget d h m.events n seat.vcpu.number seat stop → Tells d h order m →
    Visited image budget d n seat.vcpu.number stop m seat h order
unvisited image budget seat h order rests d zero m stop at tells =
    let wrong : true ≡ false = ap (λ (x : State). is_waiting x.phase) (sym at.vcpu) ∙ rests in cc
unvisited image budget seat h order rests d (suc n) m (Waits e c) at tells =
    let wrong : true ≡ false = ap (λ (x : State). is_waiting x.phase) (sym at.vcpu) ∙ rests in cc
unvisited image budget seat h order rests d (suc n) m (Ended end c) at tells = record { at = at; tells = tells }

-- the pages of the others stay
pub others_stay : (i : ℕ) (page : Kept) (h0 h1 : Hosting) → h1 ≡ after_serve i page h0 → AreOthers i h0 h1
others_stay i page h0 h1 serves = λ j other.
    ap (λ (h : Hosting). option_map (λ given. pages_of j given) h.pages) serves ∙ pages_other i j page h0.pages (ne_eqb i j (λ same. other (sym same)))
