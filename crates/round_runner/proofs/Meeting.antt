-- A vCPU has an exchange with the host.
use Rattle.std.proofs.Common.{◌≡◌, ℕ, [], ◌∷◌, refl, ap, ◌∙◌, subst}
use Rattle.std.proofs.lemmas.Option.{same_Some}
use Rattle.page_words.specs.declared.item.Item.TheVariants.{Exit}
use Rattle.page_words.specs.Told.{Told, Kept, Makes, blank, keeping, kept_after, kept_after_all}
use Rattle.page_words.specs.Dialogue.{Runs, listen}
use Rattle.page_words.proofs.Dialogues.{runs_kept}
use Rattle.image_file.specs.Image.{Contents}
use Rattle.device_bus.specs.Devices.{Devices}
use Rattle.vc_handler.specs.Version.{question}
use Rattle.host_events.specs.Call.{Call}
use Rattle.host_events.specs.Call.{SevInfo}
use Rattle.host_events.specs.Calls.{call_of}
use Rattle.host_events.specs.Served.{entries, entries_by, served, served_by, sev_info}
use Rattle.guest_interp.specs.Stepping.{Counted}
use Rattle.vcpu_core.specs.Phase as phase
use Rattle.vcpu_core.specs.State.{State, state}
use Rattle.vcpu_core.specs.Running.{items_said}
use Rattle.vcpu_core.specs.Resuming.{resuming}

-- the page that asks for the versions
abbrev pub asking : Kept
asking = kept_after_all blank (Exit question ∷ [])

-- and what is left of it
abbrev pub offered : Kept
offered = record { words = blank.words; msr = sev_info }

pub asks : (i : ℕ) (c : Counted) (budget : ℕ) (v : State) (zeros page : Kept) → v ≡ state i c phase.New → zeros ≡ blank → Makes (keeping zeros) (items_said budget v) (keeping page) → page ≡ asking
asks i c budget v zeros page new is makes =
    let exits : Makes (keeping zeros) (Exit question ∷ []) (keeping page) = subst (λ (x : State). Makes (keeping zeros) (items_said budget x) (keeping page)) new makes in
    same_Some _ _ (ap (λ (t : Told). t.kept) exits.leaves) ∙ ap (λ (k : Kept). kept_after k (Exit question)) is

-- it asks for the versions, whatever the vCPU
asked : (i : ℕ) → call_of i asking ≡ SevInfo
asked i = refl

pub offers : (i : ℕ) (d : Devices) → served i asking d ≡ record { page = offered; devices = d }
offers i d = ap (λ (c : Call). served_by i c asking d) (asked i)

pub asks_nothing : (i : ℕ) → entries i asking ≡ []
asks_nothing i = ap (λ (c : Call). entries_by i c) (asked i)

-- a host that tells its devices offers version 1, and the vCPU goes on
pub hears_version : (image : Contents) (i : ℕ) (c : Counted) (page1 page2 : Kept) (v0 v1 : State) → page1 ≡ offered → v0 ≡ state i c phase.Asked →
    Runs (resuming image v0) v1 (keeping page1) (keeping page2) → (v1 ≡ state i c phase.Going) × (page2 ≡ offered)
unfolding listen
hears_version image i c page1 page2 v0 v1 left is runs =
    let hears : Runs (resuming image (state i c phase.Asked)) v1 (keeping offered) (keeping page2) =
    subst (λ (p : Kept). Runs (resuming image (state i c phase.Asked)) v1 (keeping p) (keeping page2)) left
    (subst (λ (x : State). Runs (resuming image x) v1 (keeping page1) (keeping page2)) is runs) in
    let kept = runs_kept (resuming image (state i c phase.Asked)) v1 (keeping offered) (keeping page2) offered refl hears in
    (kept.0, same_Some _ _ kept.1)
