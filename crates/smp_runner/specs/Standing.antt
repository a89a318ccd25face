-- Where a worker's vCPU stands before and after it goes on.
use Rattle.std.specs.Prelude.{◌≡◌, ◌⊎◌, ℕ, [], ◌∷◌, length}
use Rattle.page_words.specs.declared.item.Item.TheVariants.{Exit}
use Rattle.page_words.specs.Told.{Kept, blank, kept_after_all}
use Rattle.image_file.specs.Image.{Contents}
use Rattle.event_table.specs.declared.event.Event.{Event}
use Rattle.event_table.specs.Lawful.{IsLawfulEvent}
use Rattle.guest_interp.specs.Stepping.{Counted, Waits, next_within, start_of}
use Rattle.vc_handler.specs.Version.{question}
use Rattle.vc_handler.specs.Wire.{wire}
use Rattle.vcpu_core.specs.Phase as phase
use Rattle.vcpu_core.specs.State.{state}
use Rattle.bus_lock.specs.declared.view.View.{View}
use Rattle.smp_runner.specs.declared.running_vcpu.RunningVcpu.{RunningVcpu}
use Rattle.smp_runner.specs.Working.{HasEnded, Works}

-- it has said nothing yet
pub record IsNew (image : Contents) (i : ℕ) (v : View) (seat : RunningVcpu) : Type 0 where
  pub vcpu : seat.vcpu ≡ state i (start_of image i) phase.New
  pub page : seat.page ≡ blank
  pub own : v.own ≡ []

-- it goes on from here
pub record IsGoing (image : Contents) (budget i : ℕ) (v : View) (seat : RunningVcpu) : Type 0 where
  pub cpu : Counted
  pub vcpu : seat.vcpu ≡ state i cpu phase.Going
  pub full : length seat.page.words ≡ 512
  pub works : Works image budget i v (next_within budget cpu)

abbrev pub IsReady : Contents → ℕ → ℕ → View → RunningVcpu → Type 0
IsReady image budget i v seat = IsNew image i v seat ⊎ IsGoing image budget i v seat ⊎ HasEnded image budget i v seat.vcpu

-- it has asked the host for its versions
pub record IsAsking (image : Contents) (i : ℕ) (v : View) (seat : RunningVcpu) : Type 0 where
  pub vcpu : seat.vcpu ≡ state i (start_of image i) phase.Asked
  pub page : seat.page ≡ kept_after_all blank (Exit question ∷ [])
  pub own : v.own ≡ []

-- it has shown its event on its page, and waits for the reply
pub record IsShowing (image : Contents) (budget i : ℕ) (v : View) (seat : RunningVcpu) : Type 0 where
  pub event : Event
  pub cpu : Counted
  pub before : Kept
  pub vcpu : seat.vcpu ≡ state i cpu (phase.Waits event)
  pub page : seat.page ≡ kept_after_all before (wire i event)
  pub full : length before.words ≡ 512
  pub lawful : IsLawfulEvent event
  pub works : Works image budget i v (Waits event cpu)

abbrev pub IsOut : Contents → ℕ → ℕ → View → RunningVcpu → Type 0
IsOut image budget i v seat = IsAsking image i v seat ⊎ IsShowing image budget i v seat ⊎ HasEnded image budget i v seat.vcpu
