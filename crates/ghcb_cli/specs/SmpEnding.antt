-- How a call of `ghcb_smp` ends, and what each end means.
use Rattle.std.specs.Prelude.{◌≡◌, ◌⊎◌, ℕ, true, List, Option, Some, None, Ok, IfSome, IsSome, length}
use Rattle.image_file.specs.Image.{Contents}
use Rattle.event_table.specs.declared.turn.Finished.{Finished}
use Rattle.event_table.specs.declared.turn.Turn.{Turn}
use Rattle.host_events.specs.Hosting.{Hosting}
use Rattle.run_io.specs.Outside.{FilesTold, SinkTold, Rose, FailsToPut, HasSpace, wrote}
use Rattle.smp_runner.specs.Ran.{IsLegalOrder, RanAlong}
use Rattle.ghcb_cli.specs.declared.files.Unready.{Unready}
use Rattle.ghcb_cli.specs.declared.files.Unready.TheVariants as unready
use Rattle.ghcb_cli.specs.declared.smp_run.Unfinished.{Unfinished}
use Rattle.ghcb_cli.specs.declared.smp_run.Unfinished.TheVariants as unfinished
use Rattle.ghcb_cli.specs.declared.text.Refused.{Refused}
use Rattle.ghcb_cli.specs.Command.{command_word}
use Rattle.ghcb_cli.specs.Files.{Folder, Holds, image_in, input_in}
use Rattle.ghcb_cli.specs.Said.{Said, says_refused}
use Rattle.ghcb_cli.specs.SmpCommand.{smp_steps, smp_said, output_along}
use Rattle.ghcb_cli.specs.Text.{line_of, smp_usage}

-- The run of an image over an input with a worker for each vCPU, which are those of the files that the words name where the
-- folder is told. The host that is handed back is legal, the order is that of its history, and this order has a plain run, with
-- the history's events and the host's devices. Its console was written.
pub record RunsSmp (folder : Option Folder) (words : List (List ℕ)) (f : Finished) (h : Hosting) (old new : Option (List ℕ)) : Type 0 where
  pub steps : ℕ
  pub image : Contents
  pub input : List ℕ
  pub command : smp_steps words ≡ Some steps
  pub image_file : Holds folder image_in (command_word words 0) (Ok image)
  pub input_file : Holds folder input_in (command_word words 1) (Ok input)
  pub legal : IsLegalOrder image input f h
  pub ran : RanAlong image steps input f h
  pub writes : new ≡ wrote old ran.machine.devices.console

-- the usage line, with no file read
pub record SmpUses (words : List (List ℕ)) (old new : FilesTold) (before after : Option (List ℕ)) : Type 0 where
  pub outside : smp_steps words ≡ None
  pub files : new ≡ old
  pub writes : after ≡ wrote before smp_usage

-- the line of the first refusal, whatever order a run had had
pub record SmpRefuses (folder : Option Folder) (words : List (List ℕ)) (before after : Option (List ℕ)) (r : Refused) : Type 0 where
  pub inside : IsSome (smp_steps words)
  pub first : IfSome folder (λ f. (order : List Turn) → smp_said order f words ≡ Some (says_refused r))
  pub writes : after ≡ wrote before (line_of r)

-- A read failed; where it is told that none is to fail, a file is absent. Nothing was written.
pub record SmpFailsRead (words : List (List ℕ)) (old new : FilesTold) (before after : Option (List ℕ)) : Type 0 where
  pub inside : IsSome (smp_steps words)
  pub rose : Rose old.faults new.faults
  pub absent : old.is_reliable ≡ true → IfSome old.folder (λ f. (order : List Turn) → smp_said order f words ≡ None)
  pub writes : after ≡ before

-- A write failed, of the usage line, or of what is to be said along some order.
pub record SmpFailsWrite (folder : Option Folder) (words : List (List ℕ)) (old new : SinkTold) : Type 0 where
  pub text : List ℕ
  pub outside : smp_steps words ≡ None → text ≡ smp_usage
  pub inside : IfSome folder (λ f. (order : List Turn) × (s : Said) × (smp_said order f words ≡ Some s) × (text ≡ s.text))
  pub fails : FailsToPut text old new

-- memory was wanting, and nothing was written
pub record SmpWantsMemory (words : List (List ℕ)) (before after : Option (List ℕ)) : Type 0 where
  pub inside : IsSome (smp_steps words)
  pub writes : after ≡ before

-- the sink has room for what is to be said, in whichever order the devices are accessed
abbrev pub HasRoom : Folder → List (List ℕ) → SinkTold → Type 0
HasRoom folder words out = (order : List Turn) → IfSome (smp_said order folder words) (λ s. HasSpace out (length s.text))

-- a line was put, and the call ends so, or a write of it failed
abbrev pub PutsLine : Unfinished → List ℕ → SinkTold → SinkTold → Unfinished → Type 0
PutsLine told line old new u =
    ((u ≡ told) × (new.written ≡ wrote old.written line))
    ⊎ ((u ≡ unfinished.WriteFault) × FailsToPut line old new)

-- how a call ends that has nothing to run
abbrev pub ReportsAs : Unready → SinkTold → SinkTold → Unfinished → Type 0
ReportsAs (unready.Refused r) old new u = PutsLine (unfinished.Refused r) (line_of r) old new u
ReportsAs unready.ReadFault old new u = (u ≡ unfinished.ReadFault) × (new ≡ old)
ReportsAs unready.OutOfMemory old new u = (u ≡ unfinished.OutOfMemory) × (new ≡ old)

-- how the run of an image over an input ends where it wasn't written: a write of an output failed, or memory was wanting
abbrev pub RunUnfinished : Contents → ℕ → List ℕ → SinkTold → SinkTold → Unfinished → Type 0
RunUnfinished image steps input old new unfinished.WriteFault = (order : List Turn) × FailsToPut (output_along order image steps input) old new
RunUnfinished image steps input old new unfinished.OutOfMemory = new ≡ old
RunUnfinished image steps input old new _ = ⊥

-- how a call ends without a run that was written
abbrev pub EndsUnfinished : List (List ℕ) → FilesTold → FilesTold → SinkTold → SinkTold → Unfinished → Type 0
EndsUnfinished words old new before after unfinished.Usage = SmpUses words old new before.written after.written
EndsUnfinished words old new before after (unfinished.Refused r) = SmpRefuses old.folder words before.written after.written r
EndsUnfinished words old new before after unfinished.ReadFault = SmpFailsRead words old new before.written after.written
EndsUnfinished words old new before after unfinished.WriteFault = SmpFailsWrite old.folder words before after
EndsUnfinished words old new before after unfinished.OutOfMemory = SmpWantsMemory words before.written after.written
