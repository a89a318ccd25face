-- How a call of the program ends, and what each end means.
use Rattle.std.specs.Prelude.{◌≡◌, ◌⊎◌, ℕ, Bool, true, false, List, [], Option, Some, None, IfSome, length}
use Rattle.image_file.specs.Image.{Contents}
use Rattle.image_file.specs.Made.{made_contents}
use Rattle.event_table.specs.declared.turn.Finished.{Finished}
use Rattle.answered_runs.specs.Answered.{answered_text, IsAnswered}
use Rattle.host_events.specs.Hosting.{Hosting, IsTelling}
use Rattle.run_io.specs.Outside.{FilesTold, SinkTold, Rose, FailsToPut, HasSpace, wrote}
use Rattle.round_runner.specs.Ran.{RanRounds}
use Rattle.ghcb_cli.specs.declared.top.Done.{Done}
use Rattle.ghcb_cli.specs.declared.commands.Ending.{Ending}
use Rattle.ghcb_cli.specs.declared.commands.Ending.TheVariants as ending
use Rattle.ghcb_cli.specs.declared.files.Unready.{Unready}
use Rattle.ghcb_cli.specs.declared.files.Unready.TheVariants as unready
use Rattle.plain_machine.specs.Ran.{RanPlain}
use Rattle.ghcb_cli.specs.declared.command.Command.TheVariants.{Run, Plain, Hostile, Live, Secret, Make}
use Rattle.ghcb_cli.specs.declared.text.Refused.{Refused}
use Rattle.ghcb_cli.specs.Command.{command_of, reading_of, calls_host}
use Rattle.ghcb_cli.specs.Files.{Folder}
use Rattle.ghcb_cli.specs.LiveCommand.{RunsLive}
use Rattle.ghcb_cli.specs.MakeCommand.{RunsMade, make_steps, made_summary}
use Rattle.ghcb_cli.specs.PlainCommand.{RunsPlain}
use Rattle.ghcb_cli.specs.RunCommand.{RunsFiles, run_text}
use Rattle.ghcb_cli.specs.Said.{Said, said, says_refused, judged_text, IsToEnd}
use Rattle.ghcb_cli.specs.ScriptCommand.{RunsScript}
use Rattle.ghcb_cli.specs.SecretCommand.{Judges}
use Rattle.ghcb_cli.specs.Text.{usage, line_of}

-- what the files, the sink and the host told before and after
pub record Told : Type 0 where
  pub files : FilesTold
  pub out : SinkTold
  pub host : Hosting

abbrev pub told : FilesTold → SinkTold → Hosting → Told
told files out host = record { files = files; out = out; host = host }

-- the host is called for a run over it alone, of an image that is read or made
abbrev pub IsUncalled : List (List ℕ) → Told → Told → Type 0
IsUncalled words old new = calls_host (command_of words) ≡ false → new.host ≡ old.host

-- the text is known of what is to be said: that of a run over a host needs a host that tells
abbrev pub IsKnown : List (List ℕ) → Hosting → Said → Type 0
IsKnown words h s = calls_host (command_of words) ≡ true → s.status ≡ 0 → IsTelling h

-- The text is what is to be said where some words came, if that is known: of the command's words alone where they are no command
-- or ask for a reading.
pub record IsText (folder : Option Folder) (words : List (List ℕ)) (h : Hosting) (text : List ℕ) : Type 0 where
  pub outside : command_of words ≡ None → text ≡ usage
  pub shown : (reading : List ℕ) → reading_of words ≡ Some reading → text ≡ reading
  pub inside : IfSome folder (λ f. (heard : List ℕ) × (s : Said) × (said heard f words ≡ Some s) × (IsKnown words h s → text ≡ s.text))

-- the run, with its output or its report written
pub record Finishes (words : List (List ℕ)) (old new : Told) (f : Finished) : Type 0 where
  pub steps : ℕ
  pub report : Bool
  pub command : command_of words ≡ Some (Run steps report)
  pub ran : IsTelling old.host → RunsFiles old.files.folder words f new.host old.out.written new.out.written
  pub is_end : IsToEnd old.files.folder words 0

-- the run with the devices alone, with its console written
pub record Computes (words : List (List ℕ)) (old new : Told) (f : Finished) : Type 0 where
  pub steps : ℕ
  pub command : command_of words ≡ Some (Plain steps)
  pub ran : RunsPlain old.files.folder words f old.out.written new.out.written
  pub is_end : IsToEnd old.files.folder words 0
  pub host : new.host ≡ old.host

-- the run of the image that a number makes, with its summary written
pub record Makes (words : List (List ℕ)) (old new : Told) (f : Finished) : Type 0 where
  pub number : ℕ
  pub command : command_of words ≡ Some (Make number)
  pub files : new.files ≡ old.files
  pub ran : IsTelling old.host → RunsMade words f new.host old.out.written new.out.written
  pub is_end : IsToEnd old.files.folder words 0

-- the run on a script's words, with its text written
pub record Answers (words : List (List ℕ)) (old new : Told) (f : Finished) (heard : List ℕ) : Type 0 where
  pub steps : ℕ
  pub command : command_of words ≡ Some (Hostile steps)
  pub ran : RunsScript old.files.folder words f heard old.out.written new.out.written
  pub is_end : IsToEnd old.files.folder words 0
  pub host : new.host ≡ old.host

-- the run on a page that another thread changes, with its text written
pub record Hears (words : List (List ℕ)) (old new : Told) (f : Finished) (heard : List ℕ) : Type 0 where
  pub seed : ℕ
  pub steps : ℕ
  pub command : command_of words ≡ Some (Live seed steps)
  pub ran : RunsLive old.files.folder words f heard old.out.written new.out.written
  pub is_end : IsToEnd old.files.folder words 0
  pub host : new.host ≡ old.host

-- the verdict on an image's secret, with its text written
pub record Decides (words : List (List ℕ)) (old new : Told) : Type 0 where
  pub steps : ℕ
  pub command : command_of words ≡ Some (Secret steps)
  pub judged : Judges old.files.folder words old.out.written new.out.written
  pub is_end : IsToEnd old.files.folder words 0
  pub host : new.host ≡ old.host

-- the usage line
pub record Uses (words : List (List ℕ)) (old new : Told) : Type 0 where
  pub outside : command_of words ≡ None
  pub files : new.files ≡ old.files
  pub writes : new.out.written ≡ wrote old.out.written usage
  pub host : new.host ≡ old.host

-- the line of a refusal, which no words that might have come would have changed
pub record Refuses (words : List (List ℕ)) (old new : Told) (r : Refused) : Type 0 where
  pub first : IfSome old.files.folder (λ folder. (heard : List ℕ) → said heard folder words ≡ Some (says_refused r))
  pub writes : new.out.written ≡ wrote old.out.written (line_of r)
  pub host : new.host ≡ old.host

-- a reading, with its text written
pub record Shows (words : List (List ℕ)) (old new : Told) : Type 0 where
  pub text : List ℕ
  pub reads : reading_of words ≡ Some text
  pub files : new.files ≡ old.files
  pub writes : new.out.written ≡ wrote old.out.written text
  pub host : new.host ≡ old.host

-- A read failed; where it is told that none is to fail, a file is absent.
pub record FailsRead (words : List (List ℕ)) (old new : Told) : Type 0 where
  pub rose : Rose old.files.faults new.files.faults
  pub absent : old.files.is_reliable ≡ true → IfSome old.files.folder (λ folder. (heard : List ℕ) → said heard folder words ≡ None)
  pub writes : new.out.written ≡ old.out.written
  pub host : new.host ≡ old.host

-- a write failed
pub record FailsWrite (words : List (List ℕ)) (old new : Told) : Type 0 where
  pub text : List ℕ
  pub is_text : IsText old.files.folder words old.host text
  pub fails : FailsToPut text old.out new.out
  pub uncalled : IsUncalled words old new

-- the sink has room for what is to be said, whichever words come
abbrev pub HasRoomFor : Folder → List (List ℕ) → SinkTold → Type 0
HasRoomFor folder words out = (heard : List ℕ) → IfSome (said heard folder words) (λ s. HasSpace out (length s.text))

-- memory was wanting: nothing was written, and the host is called for a run over it alone
pub record WantsMemory (words : List (List ℕ)) (old new : Told) : Type 0 where
  pub writes : new.out.written ≡ old.out.written
  pub uncalled : IsUncalled words old new

abbrev pub EndsAs : List (List ℕ) → Told → Told → Ending → Type 0
EndsAs words old new (ending.Done f) = Finishes words old new f
EndsAs words old new (ending.Plain f) = Computes words old new f
EndsAs words old new (ending.Made f) = Makes words old new f
EndsAs words old new (ending.Answered f heard) = Answers words old new f heard.items
EndsAs words old new (ending.Heard f heard) = Hears words old new f heard.items
EndsAs words old new ending.Judged = Decides words old new
EndsAs words old new ending.Usage = Uses words old new
EndsAs words old new ending.Shown = Shows words old new
EndsAs words old new (ending.Refused r) = Refuses words old new r
EndsAs words old new ending.ReadFault = FailsRead words old new
EndsAs words old new ending.WriteFault = FailsWrite words old new
EndsAs words old new ending.OutOfMemory = WantsMemory words old new

-- the call put a text and ends so, or a write of it failed
abbrev pub PutsAs : Ending → List ℕ → SinkTold → SinkTold → Ending → Type 0
PutsAs done text old new e =
    ((e ≡ done) × (new.written ≡ wrote old.written text))
    ⊎ ((e ≡ ending.WriteFault) × FailsToPut text old new)

-- the call wanted memory before it wrote
abbrev pub WantsAs : SinkTold → SinkTold → Ending → Type 0
WantsAs old new e = (e ≡ ending.OutOfMemory) × (new ≡ old)

-- the run of an image over an input, and the console's bytes
pub record IsRun (image : Contents) (input : List ℕ) (steps : ℕ) (before after : Hosting) (f : Finished) (console : List ℕ) : Type 0 where
  pub ran : IsTelling before → RanRounds image steps input f after
  pub shown : IfSome after.devices (λ d. console ≡ d.console)

-- a run that put out these bytes is written, or memory was wanting for its report
abbrev pub IsWritten : Bool → List ℕ → Finished → SinkTold → SinkTold → Ending → Type 0
IsWritten report console f old new e = PutsAs (ending.Done f) (run_text report console f) old new e ⊎ WantsAs old new e

-- how the run of an image over an input ends
abbrev pub RunEndsAs : Contents → List ℕ → ℕ → Bool → Hosting → Hosting → SinkTold → SinkTold → Ending → Type 0
RunEndsAs image input steps report before after old new e =
    ((f : Finished) × (console : List ℕ) × IsRun image input steps before after f console × IsWritten report console f old new e)
    ⊎ WantsAs old new e

-- how the run of an image over an input with the devices alone ends
abbrev pub PlainEndsAs : Contents → List ℕ → ℕ → SinkTold → SinkTold → Ending → Type 0
PlainEndsAs image input steps old new e =
    ((f : Finished) × (text : List ℕ) × RanPlain image steps input f text × PutsAs (ending.Plain f) text old new e)
    ⊎ WantsAs old new e

-- how the run of the image that a number makes ends
abbrev pub MakeEndsAs : ℕ → Hosting → Hosting → SinkTold → SinkTold → Ending → Type 0
MakeEndsAs number before after old new e =
    ((f : Finished) × (console : List ℕ) × IsRun (made_contents number) [] make_steps before after f console
    × PutsAs (ending.Made f) (made_summary number f console) old new e)
    ⊎ WantsAs old new e

-- the run of an image on a script's words is handed back
abbrev pub IsHandedBack : Contents → List ℕ → ℕ → Ending → Type 0
IsHandedBack image script steps (ending.Answered f heard) = IsAnswered image steps script f heard.items
IsHandedBack image script steps _ = ⊥

-- how the run of an image on a script's words ends
abbrev pub ScriptEndsAs : Contents → List ℕ → ℕ → SinkTold → SinkTold → Ending → Type 0
ScriptEndsAs image script steps old new e =
    ((done : Ending) × IsHandedBack image script steps done × PutsAs done (answered_text image steps script) old new e)
    ⊎ WantsAs old new e

-- the run of an image on the words that came is handed back, with these words
abbrev pub IsHeardBack : Contents → ℕ → List ℕ → Ending → Type 0
IsHeardBack image steps heard (ending.Heard f words) = (words.items ≡ heard) × IsAnswered image steps heard f heard
IsHeardBack image steps heard _ = ⊥

-- how the run of an image on a page that another thread changes ends
abbrev pub LiveEndsAs : Contents → ℕ → SinkTold → SinkTold → Ending → Type 0
LiveEndsAs image steps old new e =
    ((heard : List ℕ) × (done : Ending) × IsHeardBack image steps heard done × PutsAs done (answered_text image steps heard) old new e)
    ⊎ WantsAs old new e

-- how a run with labels on a script's words ends
abbrev pub SecretEndsAs : Contents → List ℕ → ℕ → SinkTold → SinkTold → Ending → Type 0
SecretEndsAs image script steps old new e =
    PutsAs ending.Judged (judged_text image steps script) old new e ⊎ WantsAs old new e

-- how a call ends that has nothing to run
abbrev pub GivesUpAs : Unready → SinkTold → SinkTold → Ending → Type 0
GivesUpAs (unready.Refused r) old new e = PutsAs (ending.Refused r) (line_of r) old new e
GivesUpAs unready.ReadFault old new e = (e ≡ ending.ReadFault) × (new ≡ old)
GivesUpAs unready.OutOfMemory old new e = WantsAs old new e

-- the order, steps and ends of a call
abbrev pub finished_of : Done → Finished
finished_of done = record { order = done.order; steps = done.steps; ends = done.ends }

-- no run was made
pub record IsWithoutRun (done : Done) : Type 0 where
  pub order : done.order.items ≡ []
  pub steps : done.steps.items ≡ []
  pub ends : done.ends.items ≡ []

-- the statuses that there are
abbrev pub IsStatus : ℕ → Type 0
IsStatus status = (status ≡ 0) ⊎ (status ≡ 2) ⊎ (status ≡ 3) ⊎ (status ≡ 4) ⊎ (status ≡ 5) ⊎ (status ≡ 6)
