-- What the rest of a run with labels leads to, the whole leads to from the start.
use Rattle.std.proofs.Common.{◌≡◌, ℕ, zero, suc, ◌+◌, ◌-◌, ◌<◌, ◌≤◌, List, [], ◌∷◌, Option, Some, None, Result, Ok, Err, refl, sym, ap, ◌∙◌, subst, arith}
use Rattle.std.specs.Prelude.{IfSome}
use Rattle.page_words.specs.declared.item.Item.TheVariants.{Exit}
use Rattle.page_words.specs.Told.{Told, Makes}
use Rattle.page_words.specs.Dialogue.{Dialogue, Runs, Reads, Taken, say, listen, ◌>>=◌}
use Rattle.page_words.proofs.Dialogues.{begins_ahead, goes_taken, runs_listen, runs_over, runs_say, runs_then}
use Rattle.page_words.proofs.Same.{listen_then, say_then}
use Rattle.image_file.specs.Image.{Contents}
use Rattle.event_table.specs.declared.end.End.{End}
use Rattle.event_table.specs.declared.end.End.TheVariants.{Terminated}
use Rattle.event_table.specs.declared.end.Reason.{Reason}
use Rattle.event_table.specs.declared.event.Event.{Event}
use Rattle.guest_interp.specs.Guest.{counted_vcpu}
use Rattle.guest_interp.specs.Stepping.{Counted, Waits, start_of}
use Rattle.vc_handler.specs.Accept.{accepting}
use Rattle.vc_handler.specs.Version.{farewell, negotiating, question}
use Rattle.vc_handler.specs.Wire.{wire}
use Rattle.secret_labels.specs.declared.marked_guest.MarkedGuest.{MarkedGuest}
use Rattle.secret_labels.specs.declared.stepping.Met.{Met}
use Rattle.secret_labels.specs.declared.stepping.Met.TheVariants as mets
use Rattle.secret_labels.specs.declared.verdict.Verdict.{Verdict}
use Rattle.secret_labels.specs.declared.verdict.Verdict.TheVariants.{Clean, Flows}
use Rattle.secret_labels.specs.declared.verdict.What.{What}
use Rattle.secret_labels.specs.declared.verdict.What.TheVariants as what
use Rattle.secret_labels.specs.Following.{Met as Follow, Stands, labelled, met_heard, met_within, secret_of, verdict_agreed, verdict_from, verdict_of, verdict_on, what_of}
use Rattle.secret_labels.specs.Labels.{Labels}
use Rattle.secret_labels.specs.Marked.{IsLater, IsReady, event_met, met_in}
use Rattle.secret_labels.specs.Notes.{use_of}
use Rattle.secret_labels.specs.TwoWorlds.{HasSecret, HoldsInWorlds}
use Rattle.secret_labels.proofs.Answering.{parts}
use Rattle.secret_labels.proofs.Running.{whole_show}

-- ONE EVENT, AND THE REST

waits_then : (events : ℕ) (image : Contents) (budget : ℕ) (l : Labels) (c : Counted) (event : Event) →
    verdict_from (suc events) image budget (Stands l (Waits event c)) ≡ (event_met image budget l c event >>= (λ met. verdict_from events image budget met))
waits_then events image budget l c event =
    sym (say_then (wire 0 event) (listen (accepting event) (λ o. met_heard image budget l c event o)) (λ met. verdict_from events image budget met)
    ∙ ap (λ (d : Dialogue Verdict). say (wire 0 event) d) (listen_then (accepting event) (λ o. met_heard image budget l c event o) (λ met. verdict_from events image budget met)))

waits_run : (events : ℕ) (image : Contents) (budget : ℕ) (l : Labels) (c : Counted) (event : Event) (met : Follow) (verdict : Verdict) (t u v : Told) →
    Runs (event_met image budget l c event) met t u → Runs (verdict_from events image budget met) verdict u v → Runs (verdict_from (suc events) image budget (Stands l (Waits event c))) verdict t v
waits_run events image budget l c event met verdict t u v one rest =
    subst (λ (d : Dialogue Verdict). Runs d verdict t v) (sym (waits_then events image budget l c event))
    (runs_then (event_met image budget l c event) (λ m. verdict_from events image budget m) met verdict t u v one rest)

-- where it waits, there are events enough for the steps that are left
abbrev pub IsEnough : Met → ℕ → ℕ → ℕ → Type 0
IsEnough mets.Waits events budget steps = budget ≤ events + steps
IsEnough _ events budget steps = Unit {0}

-- the steps that are left where it waits
abbrev pub left_by : Met → ℕ → ℕ → ℕ
left_by mets.Waits budget steps = budget - steps
left_by _ budget steps = 0

-- with some number of events, what the rest leads to, the whole leads to from the start
pub record Leads (image : Contents) (budget : ℕ) (first : Follow) (t : Told) (met : Met) (g : MarkedGuest) (u : Told) : Type 0 where
  pub events : ℕ
  pub enough : IsEnough met events budget g.guest.steps
  pub rest : (verdict : Verdict) (now : Told) → Runs (verdict_from events image budget (met_in met g)) verdict u now → Runs (verdict_from budget image budget first) verdict t now

enough_first : (met : Met) (budget steps : ℕ) → IsEnough met budget budget steps
enough_first mets.Waits budget steps = omega arith
enough_first (mets.Leaks what) budget steps = tt
enough_first (mets.Ends end) budget steps = tt

pub leads_first : (image : Contents) (budget : ℕ) (met : Met) (g : MarkedGuest) (t : Told) → Leads image budget (met_in met g) t met g t
leads_first image budget met g t = record { events = budget; enough = enough_first met budget g.guest.steps; rest = λ verdict now runs. runs }

enough_next : (met : Met) (events budget old new : ℕ) → budget ≤ suc events + old → IsLater met old new → IsEnough met events budget new
enough_next mets.Waits events budget old new enough later = omega (arith, enough, later)
enough_next (mets.Leaks what) events budget old new enough later = tt
enough_next (mets.Ends end) events budget old new enough later = tt

on_events : (events : ℕ) (image : Contents) (budget : ℕ) (first : Follow) (t : Told) (g : MarkedGuest) (u : Told) (met : Met) (h : MarkedGuest) (v : Told) → budget ≤ events + g.guest.steps →
    ((verdict : Verdict) (now : Told) → Runs (verdict_from events image budget (Stands g.marks (Waits g.event (counted_vcpu g.guest)))) verdict u now → Runs (verdict_from budget image budget first) verdict t now) →
    Runs (event_met image budget g.marks (counted_vcpu g.guest) g.event) (met_in met h) u v → g.guest.steps < budget → IsLater met g.guest.steps h.guest.steps → Leads image budget first t met h v
on_events zero image budget first t g u met h v enough rest one less later = absurd (omega (arith, enough, less))
on_events (suc events) image budget first t g u met h v enough rest one less later = record {
  events = events;
  enough = enough_next met events budget g.guest.steps h.guest.steps enough later;
  rest = λ verdict now runs. rest verdict now (waits_run events image budget g.marks (counted_vcpu g.guest) g.event (met_in met h) verdict u v now one runs);
}

-- after an event
pub leads_on : (image : Contents) (budget : ℕ) (first : Follow) (t : Told) (old : Met) (g : MarkedGuest) (u : Told) (met : Met) (h : MarkedGuest) (v : Told) → old ≡ mets.Waits → Leads image budget first t old g u →
    Runs (event_met image budget g.marks (counted_vcpu g.guest) g.event) (met_in met h) u v → IsReady old g budget → IsLater met g.guest.steps h.guest.steps → Leads image budget first t met h v
leads_on image budget first t old g u met h v is leads one ready later =
    let l = subst (λ (m : Met). Leads image budget first t m g u) is leads in
    let less = (subst (λ (m : Met). IsReady m g budget) is ready).lawful.1 in
    on_events l.events image budget first t g u met h v l.enough l.rest one less later

-- THE VERDICT

what_is : (w : What) → what_of (use_of w) ≡ w
what_is what.Address = refl
what_is what.Branch = refl
what_is what.Named = refl

pub leads_flows : (image : Contents) (budget : ℕ) (first : Follow) (t : Told) (met : Met) (g : MarkedGuest) (u : Told) (w : What) → met ≡ mets.Leaks w → Leads image budget first t met g u →
    Runs (verdict_from budget image budget first) (Flows g.guest.steps w) t u
leads_flows image budget first t met g u w is leads =
    let l = subst (λ (m : Met). Leads image budget first t m g u) is leads in
    subst (λ (x : What). Runs (verdict_from budget image budget first) (Flows g.guest.steps x) t u) (what_is w)
    (l.rest (Flows g.guest.steps (what_of (use_of w))) u (runs_over (Flows g.guest.steps (what_of (use_of w))) u))

pub leads_clean : (image : Contents) (budget : ℕ) (first : Follow) (t : Told) (met : Met) (g : MarkedGuest) (u : Told) (e : End) → met ≡ mets.Ends e → Leads image budget first t met g u →
    Runs (verdict_from budget image budget first) (Clean e g.guest.steps) t u
leads_clean image budget first t met g u e is leads =
    let l = subst (λ (m : Met). Leads image budget first t m g u) is leads in l.rest (Clean e g.guest.steps) u (runs_over (Clean e g.guest.steps) u)

-- THE WHOLE RUN

-- the host's versions are heard, and then comes what they lead to
heard_run : (image : Contents) (budget : ℕ) (l : Labels) (c : Counted) (r : Result ℕ Reason) (verdict : Verdict) (t u v w : Told) → Makes t (Exit question ∷ []) u → Reads negotiating r u v →
    Runs (verdict_agreed l c image budget r) verdict v w → Runs (verdict_on l c image budget) verdict t w
heard_run image budget l c r verdict t u v w makes reads runs =
    runs_say (Exit question ∷ []) (listen negotiating (λ version. verdict_agreed l c image budget version)) verdict t u w refl makes
    (runs_listen negotiating (λ version. verdict_agreed l c image budget version) r verdict u v w reads runs)

pub agrees : (image : Contents) (budget : ℕ) (l : Labels) (c : Counted) (r : Result ℕ Reason) (version : ℕ) (met : Follow) (verdict : Verdict) (t u v w : Told) → r ≡ Ok version → Makes t (Exit question ∷ []) u →
    Reads negotiating r u v → met ≡ met_within budget l c → Runs (verdict_from budget image budget met) verdict v w → Runs (verdict_on l c image budget) verdict t w
agrees image budget l c r version met verdict t u v w is makes reads goes runs =
    heard_run image budget l c r verdict t u v w makes reads
    (subst (λ (x : Result ℕ Reason). Runs (verdict_agreed l c image budget x) verdict v w) (sym is) (subst (λ (m : Follow). Runs (verdict_from budget image budget m) verdict v w) goes runs))

pub disagrees : (image : Contents) (budget : ℕ) (l : Labels) (c : Counted) (r : Result ℕ Reason) (reason : Reason) (t u v w : Told) → r ≡ Err reason → Makes t (Exit question ∷ []) u →
    Reads negotiating r u v → Makes v (Exit (farewell reason) ∷ []) w → Runs (verdict_on l c image budget) (Clean (Terminated reason) c.steps) t w
disagrees image budget l c r reason t u v w is makes reads last =
    heard_run image budget l c r (Clean (Terminated reason) c.steps) t u v w makes reads
    (subst (λ (x : Result ℕ Reason). Runs (verdict_agreed l c image budget x) (Clean (Terminated reason) c.steps) v w) (sym is) (parts reason (Clean (Terminated reason) c.steps) v w last))

-- from the image's start
pub from_start : (image : Contents) (budget : ℕ) (l : Labels) (c : Counted) (verdict : Verdict) (t u : Told) → l ≡ secret_of image → c ≡ start_of image 0 →
    Runs (verdict_on l c image budget) verdict t u → Runs (verdict_of image budget) verdict t u
from_start image budget l c verdict t u labels starts runs =
    subst (λ (x : Counted). Runs (verdict_on (secret_of image) x image budget) verdict t u) starts (subst (λ (x : Labels). Runs (verdict_on x c image budget) verdict t u) labels runs)

-- on the words that are ahead
is_labelled_on : (image : Contents) (budget : ℕ) (verdict : Verdict) (t u : Told) (words : List ℕ) → t.ahead ≡ Some words → Runs (verdict_of image budget) verdict t u → labelled image budget words ≡ verdict
is_labelled_on image budget verdict t u words is runs =
    ap (λ (x : Taken Verdict). x.value) (goes_taken (verdict_of image budget) runs.items verdict words runs.goes (begins_ahead t runs.items words is runs.makes.gives))

pub on_words : (image : Contents) (budget : ℕ) (verdict : Verdict) (t u : Told) (ahead : Option (List ℕ)) → t.ahead ≡ ahead → Runs (verdict_of image budget) verdict t u →
    IfSome ahead (λ words. verdict ≡ labelled image budget words)
on_words image budget verdict t u None is runs = tt
on_words image budget verdict t u (Some words) is runs = sym (is_labelled_on image budget verdict t u words is runs)

pub in_worlds : (image : Contents) (budget : ℕ) (verdict : Verdict) (t u : Told) (ahead : Option (List ℕ)) → HasSecret image → t.ahead ≡ ahead → Runs (verdict_of image budget) verdict t u →
    IfSome ahead (λ words. HoldsInWorlds image budget words verdict)
in_worlds image budget verdict t u None secret is runs = tt
in_worlds image budget verdict t u (Some words) secret is runs =
    subst (λ (v : Verdict). HoldsInWorlds image budget words v) (is_labelled_on image budget verdict t u words is runs) (λ bytes differs. whole_show image budget words bytes secret differs)
