-- What the rest of a run leads to, the whole leads to from the start.
use Rattle.std.proofs.Common.{◌≡◌, ℕ, suc, ◌<◌, Some, refl, sym, ◌∙◌, subst, true, false}
use Rattle.std.specs.Prelude.{is_some}
use Rattle.page_words.specs.Told.{Told, Makes}
use Rattle.page_words.specs.Dialogue.{Dialogue, Runs, RunsPart, ◌>>=◌}
use Rattle.page_words.specs.Recording.{roomless}
use Rattle.page_words.proofs.Dialogues.{runs_over, runs_say, runs_then, begins_none, begins_say, begins_within, begins_after}
use Rattle.page_words.proofs.Records.{makes_roomless, runs_roomless}
use Rattle.page_words.proofs.Same.{AllOf, goes_all}
use Rattle.image_file.specs.Image.{Contents}
use Rattle.event_table.specs.declared.end.End.{End}
use Rattle.guest_interp.specs.Stepping.{Counted, start_of}
use Rattle.vcpu_core.specs.Phase.{Phase}
use Rattle.vcpu_core.specs.Phase as phase
use Rattle.vcpu_core.specs.declared.vcpu.Progress.{Progress}
use Rattle.vcpu_core.specs.declared.vcpu.Progress.TheVariants.{Exited}
use Rattle.vcpu_core.specs.State.{IsLawfulPhase, State, state, end_in, is_waiting}
use Rattle.vcpu_core.specs.Running.{state_advanced, items_said, progress_in}
use Rattle.vcpu_core.specs.Resuming.{resuming, resuming_by}
use Rattle.hostile_host.specs.Answered.{Ran, run_of}
use Rattle.hostile_host.specs.Told.{HasRun}
use Rattle.hostile_host.specs.Turn.{turn_dialogue}
use Rattle.hostile_host.proofs.Going.{values_of-said}
use Rattle.hostile_host.proofs.Turning.{rest_of, less_one, IsStanding, turn_rest, left_by, Goes_on, IsNext, turn_next}

-- it speaks, and then hears
pub turned : (image : Contents) (budget : ℕ) (s next : State) (old t u v w : Told) →
    roomless t ≡ roomless old → Makes t (items_said budget s) u → roomless v ≡ roomless u → Runs (resuming image (state_advanced budget s)) next v w → Runs (turn_dialogue image budget s) next (roomless old) (roomless w)
turned image budget s next old t u v w first makes second runs =
    runs_say (items_said budget s) (resuming image (state_advanced budget s)) next (roomless old) (roomless u) (roomless w) (values_of-said s.phase budget s.number s.cpu)
    (subst (λ x. Makes x (items_said budget s) (roomless u)) first (makes_roomless t u (items_said budget s) makes))
    (subst (λ x. Runs (resuming image (state_advanced budget s)) next x (roomless w)) second (runs_roomless _ next v w runs))

ended_hears : (image : Contents) (p : Phase) (i : ℕ) (c : Counted) (t : Told) → (progress_in p ≡ Exited → ⊥) → Runs (resuming_by p image i c) (state i c p) t t
ended_hears image phase.New i c t ended = absurd (ended refl)
ended_hears image phase.Asked i c t ended = absurd (ended refl)
ended_hears image phase.Going i c t ended = absurd (ended refl)
ended_hears image (phase.Waits event) i c t ended = absurd (ended refl)
ended_hears image (phase.Ended end) i c t ended = runs_over (state i c (phase.Ended end)) t

-- it has ended, and hears nothing
pub turned_ended : (image : Contents) (budget : ℕ) (s next : State) (progress : Progress) (old t u : Told) →
    roomless t ≡ roomless old → Makes t (items_said budget s) u → next ≡ state_advanced budget s → progress ≡ progress_in next.phase → (progress ≡ Exited → ⊥) → Runs (turn_dialogue image budget s) next (roomless old) (roomless u)
turned_ended image budget s next progress old t u first makes goes is ended =
    turned image budget s next old t u u u first makes refl
    (subst (λ (x : State). Runs (resuming image x) next u u) goes (ended_hears image next.phase next.number next.cpu u (λ exited. ended (is ∙ exited))))

-- only what it says has been said
pub spoken : (image : Contents) (budget : ℕ) (s : State) (old t u v : Told) → roomless t ≡ roomless old → Makes t (items_said budget s) u → roomless v ≡ roomless u → RunsPart (turn_dialogue image budget s) (roomless old) (roomless v)
spoken image budget s old t u v first makes second =
    begins_say (items_said budget s) (resuming image (state_advanced budget s)) (roomless old) (roomless u) (roomless v) (values_of-said s.phase budget s.number s.cpu)
    (subst (λ x. Makes x (items_said budget s) (roomless u)) first (makes_roomless t u (items_said budget s) makes))
    (subst (λ x. RunsPart (resuming image (state_advanced budget s)) (roomless u) x) (sym second) (begins_none _ (roomless u)))

-- nothing has been said
pub silent : (image : Contents) (budget : ℕ) (s : State) (old t : Told) → roomless t ≡ roomless old → RunsPart (turn_dialogue image budget s) (roomless old) (roomless t)
silent image budget s old t first = subst (λ x. RunsPart (turn_dialogue image budget s) (roomless old) x) (sym first) (begins_none _ (roomless old))

-- A run that has come to this vCPU: what its rest leads to, the whole leads to.
pub record Leads (image : Contents) (budget : ℕ) (s : State) (old now : Told) : Type 0 where
  pub events : ℕ
  pub runs : (r : Ran) (new : Told) → Runs (rest_of events image budget s) r now new → Runs (run_of image budget) r old new
  pub begins : (new : Told) → RunsPart (rest_of events image budget s) now new → RunsPart (run_of image budget) old new
  pub stands : IsStanding s.phase events image budget s.cpu
  pub number : s.number ≡ 0

-- the run begins
pub leads_first : (image : Contents) (budget : ℕ) (old : Told) → Leads image budget (state 0 (start_of image 0) phase.New) old old
leads_first image budget old = record { events = suc budget; runs = λ r new whole. whole; begins = λ new begun. begun; stands = (refl, refl); number = refl }

-- the rest is a turn, and then the rest
leads_rest : (image : Contents) (budget events : ℕ) (s : State) → IsStanding s.phase events image budget s.cpu → s.number ≡ 0 →
    rest_of events image budget s ≡ (turn_dialogue image budget s >>= (λ x. rest_of (less_one events) image budget x))
leads_rest image budget events s stands number =
    subst (λ i. rest_of events image budget s ≡ (turn_dialogue image budget (state i s.cpu s.phase) >>= (λ x. rest_of (less_one events) image budget x))) (sym number)
    (turn_rest s.phase events image budget s.cpu stands)

-- a turn that was cut off
pub leads_cut : (image : Contents) (budget : ℕ) (s : State) (old now new : Told) → Leads image budget s old now → RunsPart (turn_dialogue image budget s) now new → RunsPart (run_of image budget) old new
leads_cut image budget s old now new leads begun =
    leads.begins new (subst (λ (d : Dialogue Ran). RunsPart d now new) (sym (leads_rest image budget leads.events s leads.stands leads.number)) (begins_within _ _ now new begun))

-- a turn, and then what comes
leads_then : (image : Contents) (budget : ℕ) (s next : State) (old now new : Told) (leads : Leads image budget s old now) → Runs (turn_dialogue image budget s) next now new →
    (r : Ran) (last : Told) → Runs (rest_of (less_one leads.events) image budget next) r new last → Runs (run_of image budget) r old last
leads_then image budget s next old now new leads turn r last rest =
    leads.runs r last (subst (λ (d : Dialogue Ran). Runs d r now last) (sym (leads_rest image budget leads.events s leads.stands leads.number)) (runs_then _ _ _ _ _ _ _ turn rest))

end_runs : (image : Contents) (budget events : ℕ) (p : Phase) (c : Counted) (t : Told) → is_some (end_in p) ≡ true →
    (end : End) × (end_in p ≡ Some end) × Runs (rest_of events image budget (state 0 c p)) (record { cpu = c; end = end }) t t
end_runs image budget events phase.New c t some = cc
end_runs image budget events phase.Asked c t some = cc
end_runs image budget events phase.Going c t some = cc
end_runs image budget events (phase.Waits event) c t some = cc
end_runs image budget events (phase.Ended end) c t some = (end, refl, runs_over _ t)

-- the last turn
pub leads_last : (image : Contents) (budget : ℕ) (s next : State) (old now new : Told) → Leads image budget s old now → Runs (turn_dialogue image budget s) next now new → is_some (end_in next.phase) ≡ true →
    HasRun image budget next old new
leads_last image budget s next old now new leads turn some =
    let ended = end_runs image budget (less_one leads.events) next.phase next.cpu new some in
    record { end = ended.0; ended = ended.1; runs = leads_then image budget s next old now new leads turn _ new ended.2 }

-- it stands, where it neither waits nor has ended
standing : (p : Phase) (left events : ℕ) (image : Contents) (budget : ℕ) (c : Counted) → Goes_on p left events budget c.steps → is_waiting p ≡ false → is_some (end_in p) ≡ false →
    IsStanding p events image budget c × (left_by p budget c.steps < left)
standing phase.New left events image budget c goes rests none = absurd goes
standing phase.Asked left events image budget c goes rests none = cc
standing phase.Going left events image budget c goes rests none = (goes.0, goes.1)
standing (phase.Waits event) left events image budget c goes rests none = cc
standing (phase.Ended end) left events image budget c goes rests none = cc

-- one more turn
pub leads_on : (image : Contents) (budget : ℕ) (s next : State) (old now new : Told) → Leads image budget s old now → Runs (turn_dialogue image budget s) next now new →
    IsLawfulPhase (state_advanced budget s).phase →
    is_waiting next.phase ≡ false → is_some (end_in next.phase) ≡ false → Leads image budget next old new × (left_by next.phase budget next.cpu.steps < left_by s.phase budget s.cpu.steps)
leads_on image budget s next old now new leads turn lawful rests none =
    let all : AllOf (IsNext (left_by s.phase budget s.cpu.steps) (less_one leads.events) budget) (turn_dialogue image budget s) =
    subst (λ i. AllOf (IsNext (left_by s.phase budget s.cpu.steps) (less_one leads.events) budget) (turn_dialogue image budget (state i s.cpu s.phase))) (sym leads.number)
    (turn_next s.phase leads.events image budget s.cpu leads.stands
    (subst (λ i. IsLawfulPhase (state_advanced budget (state i s.cpu s.phase)).phase) leads.number lawful)) in
    let is_next = goes_all (IsNext (left_by s.phase budget s.cpu.steps) (less_one leads.events) budget) (turn_dialogue image budget s) turn.items next all turn.goes in
    let stands = standing next.phase _ (less_one leads.events) image budget next.cpu is_next.1 rests none in (
      record {
        events = less_one leads.events;
        runs = λ r last rest. leads_then image budget s next old now new leads turn r last rest;
        begins = λ last begun. leads.begins last (subst (λ (d : Dialogue Ran). RunsPart d now last) (sym (leads_rest image budget leads.events s leads.stands leads.number)) (begins_after _ _ _ _ _ _ turn begun));
        stands = stands.0;
        number = is_next.0;
      },
      stands.1,
    )
