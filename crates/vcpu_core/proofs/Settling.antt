-- What a vCPU comes to once it has heard the host.
use Rattle.std.proofs.Common.{◌≡◌, ℕ, [], ◌∷◌, Result, Ok, Err, refl, sym, subst}
use Rattle.page_words.specs.declared.item.Item.TheVariants.{Exit}
use Rattle.page_words.specs.Told.{Told, Makes}
use Rattle.page_words.specs.Dialogue.{Reads, Runs, over}
use Rattle.page_words.proofs.Dialogues.{runs_over, runs_say, runs_listen}
use Rattle.image_file.specs.Image.{Contents}
use Rattle.event_table.specs.declared.end.End.TheVariants.{Terminated}
use Rattle.event_table.specs.declared.end.Reason.{Reason}
use Rattle.event_table.specs.declared.event.Event.{Event}
use Rattle.event_table.specs.declared.outcome.Outcome.{Outcome}
use Rattle.event_table.specs.declared.outcome.Outcome.TheVariants.{Terminate}
use Rattle.guest_interp.specs.Stepping.{Counted}
use Rattle.vc_handler.specs.Accept.{accepting}
use Rattle.vc_handler.specs.Version.{farewell, negotiating}
use Rattle.vcpu_core.specs.Phase.{Phase}
use Rattle.vcpu_core.specs.Phase as phase
use Rattle.vcpu_core.specs.State.{State, state}
use Rattle.vcpu_core.specs.Resuming.{agreeing, resuming_by, settling, terminating}

-- it ends the communication
pub terminates : (i : ℕ) (c : Counted) (reason : Reason) (t u : Told) → Makes t (Exit (farewell reason) ∷ []) u →
    Runs (terminating i c reason) (state i c (phase.Ended (Terminated reason))) t u
terminates i c reason t u makes = runs_say (Exit (farewell reason) ∷ []) (over (state i c (phase.Ended (Terminated reason)))) (state i c (phase.Ended (Terminated reason))) t u u refl makes (runs_over _ u)

-- the host has version 1
pub agrees : (image : Contents) (i : ℕ) (c : Counted) (r : Result ℕ Reason) (version : ℕ) (t u : Told) → r ≡ Ok version → Reads negotiating r t u →
    Runs (resuming_by phase.Asked image i c) (state i c phase.Going) t u
agrees image i c r version t u is reads =
    runs_listen negotiating (λ (x : Result ℕ Reason). agreeing i c x) r (state i c phase.Going) t u u reads
    (subst (λ (x : Result ℕ Reason). Runs (agreeing i c x) (state i c phase.Going) u u) (sym is) (runs_over (state i c phase.Going) u))

-- it has not
pub disagrees : (image : Contents) (i : ℕ) (c : Counted) (r : Result ℕ Reason) (reason : Reason) (s : State) (t u v : Told) → r ≡ Err reason → Reads negotiating r t u →
    s ≡ state i c (phase.Ended (Terminated reason)) → Makes u (Exit (farewell reason) ∷ []) v → Runs (resuming_by phase.Asked image i c) s t v
disagrees image i c r reason s t u v is reads ended makes =
    let end = state i c (phase.Ended (Terminated reason)) in
    subst (λ (x : State). Runs (resuming_by phase.Asked image i c) x t v) (sym ended)
    (runs_listen negotiating (λ (x : Result ℕ Reason). agreeing i c x) r end t u v reads
    (subst (λ (x : Result ℕ Reason). Runs (agreeing i c x) end u v) (sym is) (terminates i c reason u v makes)))

-- the reply is read, and then what comes of it
pub takes : (image : Contents) (i : ℕ) (c : Counted) (event : Event) (outcome : Outcome) (s : State) (t u v : Told) → Reads (accepting event) outcome t u → Runs (settling image i c event outcome) s u v →
    Runs (resuming_by (phase.Waits event) image i c) s t v
takes image i c event outcome s t u v reads runs = runs_listen (accepting event) (λ o. settling image i c event o) outcome s t u v reads runs

-- an outcome that ends the communication
pub settles_so : (image : Contents) (i : ℕ) (c : Counted) (event : Event) (outcome : Outcome) (reason : Reason) (s : State) (t u : Told) → outcome ≡ Terminate reason → s ≡ state i c (phase.Ended (Terminated reason)) →
    Makes t (Exit (farewell reason) ∷ []) u → Runs (settling image i c event outcome) s t u
settles_so image i c event outcome reason s t u is ended makes =
    subst (λ (o : Outcome). Runs (settling image i c event o) s t u) (sym is)
    (subst (λ (x : State). Runs (terminating i c reason) x t u) (sym ended) (terminates i c reason t u makes))
