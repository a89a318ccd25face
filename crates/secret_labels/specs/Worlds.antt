-- Two vCPUs that differ at most where a label stands.
use Rattle.std.specs.Prelude.{◌≡◌, ℕ, ◌<◌, ◌^◌, Bool, false, List, length, get_or}
use Rattle.x86_base.specs.declared.flags.Flags.{Flags}
use Rattle.image_file.specs.Image.{Contents}
use Rattle.event_table.specs.declared.outcome.Reply.{Reply}
use Rattle.event_table.specs.Places.{Vcpu}
use Rattle.event_table.specs.Plan.{Change, apply, Stepped, Moved, Exits, Stops}
use Rattle.event_table.specs.Raising.{step_raised}
use Rattle.guest_interp.specs.Stepping.{results_of, step_of}
use Rattle.secret_labels.specs.Labels.{Labels, marked, Quiet}
use Rattle.secret_labels.specs.Following.{noted_raised, noted_results, noted_step}

-- two lists agree where no label stands
pub record Agree (labels : List Bool) (xs ys : List ℕ) : Type 0 where
  pub left : length xs ≡ length labels
  pub right : length ys ≡ length labels
  pub same : (k : ℕ) → get_or labels k false ≡ false → get_or xs k 0 ≡ get_or ys k 0

-- the flags that a label stands on
abbrev pub status_of : Vcpu → Flags
status_of v = record v.regs.flags { df = false }

-- Two vCPUs agree where no label stands. None stands on RIP, on DF, and on the size of the code.
pub record SameOff (l : Labels) (v w : Vcpu) : Type 0 where
  pub gpr : Agree l.gpr v.regs.gpr w.regs.gpr
  pub ram : Agree l.ram v.ram.bytes w.ram.bytes
  pub status : l.status ≡ false → status_of v ≡ status_of w
  pub df : v.regs.flags.df ≡ w.regs.flags.df
  pub rip : v.regs.rip ≡ w.regs.rip
  pub code : v.ram.code ≡ w.ram.code

-- one change of both keeps them so
abbrev pub OneChange : Type 0
OneChange = (l : Labels) (v w : Vcpu) (c : Change) → SameOff l v w → SameOff (marked c l) (apply c v) (apply c w)

-- none stands on the code
abbrev pub IsFree : ℕ → Labels → Type 0
IsFree code l = (k : ℕ) → k < code → get_or l.ram k false ≡ false

-- Two worlds: vCPUs that agree where no label stands, with code of this size that has none, and a RAM below 2^64
-- bytes.
pub record Worlds (code : ℕ) (l : Labels) (v w : Vcpu) : Type 0 where
  pub same : SameOff l v w
  pub size : v.ram.code ≡ code
  pub free : IsFree code l
  pub small : length l.ram < 2 ^ 64

-- what one instruction comes to in both
abbrev pub Alike : ℕ → Labels → Stepped → Stepped → Type 0
Alike code l (Moved v) (Moved w) = Worlds code l v w
Alike code l (Exits event v) (Exits other w) = (event ≡ other) × Worlds code l v w
Alike code l (Stops end v) (Stops other w) = (end ≡ other) × Worlds code l v w
Alike code l _ _ = ⊥

-- One step of both, whatever the instruction: where no label is used, both move on, ask the same, or end alike, and
-- agree still where no label stands.
abbrev pub OneStep : Type 0
OneStep = (code : ℕ) (l m : Labels) (v w : Vcpu) → Worlds code l v w → noted_step l v ≡ Quiet m →
    Alike code m (step_of v) (step_of w)

-- the same of the reply to an event
abbrev pub OneAnswer : Type 0
OneAnswer = (code : ℕ) (reply : Reply) (l m : Labels) (v w : Vcpu) → Worlds code l v w →
    noted_results reply l v ≡ Quiet m → Alike code m (results_of reply v) (results_of reply w)

-- and of the delivery of an exception
abbrev pub OneException : Type 0
OneException = (code : ℕ) (image : Contents) (vector error : ℕ) (l m : Labels) (v w : Vcpu) → Worlds code l v w →
    noted_raised image vector error l v ≡ Quiet m →
    Alike code m (step_raised image vector error v) (step_raised image vector error w)
