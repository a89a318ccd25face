-- A guest with labels, as the code has it between two events.
use Rattle.std.specs.Prelude.{ℕ, ◌<◌}
use Rattle.page_words.specs.Dialogue.{Dialogue, say, listen}
use Rattle.image_file.specs.Image.{Contents}
use Rattle.event_table.specs.declared.event.Event.{Event}
use Rattle.guest_interp.specs.Guest.{counted_vcpu, vcpu_in}
use Rattle.guest_interp.specs.Stepping.{Counted}
use Rattle.vc_handler.specs.Accept.{accepting}
use Rattle.vc_handler.specs.Wire.{wire}
use Rattle.secret_labels.specs.declared.marked_guest.MarkedGuest.{MarkedGuest}
use Rattle.secret_labels.specs.declared.stepping.Met.{Met}
use Rattle.secret_labels.specs.declared.stepping.Met.TheVariants as met
use Rattle.secret_labels.specs.Following.{Met as Follow, met_heard}
use Rattle.secret_labels.specs.Labels.{Labels}
use Rattle.secret_labels.specs.Notes.{IsLawfulMet, IsMetBy, as_met}

-- where it came to
abbrev pub met_in : Met → MarkedGuest → Follow
met_in met g = as_met met g.event g.marks (counted_vcpu g.guest)

-- Where it waits for an event, the event is lawful and a step is left for it, and the instruction at RIP asks it.
pub record IsReady (met : Met) (g : MarkedGuest) (budget : ℕ) : Type 0 where
  pub lawful : IsLawfulMet met g.event g.guest.steps budget
  pub waited : IsMetBy met g.event g.insn (vcpu_in g.guest)

-- where it waits again, it has counted more steps
abbrev pub IsLater : Met → ℕ → ℕ → Type 0
IsLater met.Waits old new = old < new
IsLater _ old new = Unit {0}

-- an event is shown, and what comes of its reply
abbrev pub event_met : Contents → ℕ → Labels → Counted → Event → Dialogue Follow
event_met image budget l c event =
    say (wire 0 event) (listen (accepting event) (λ outcome. met_heard image budget l c event outcome))
