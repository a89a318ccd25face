-- How a call of `ghcb_smp` ends, from how its parts end.
use Rattle.std.proofs.Common.{◌≡◌, ℕ, ◌⊎◌, inl, inr, List, [], length, Option, Some, None, Result, Ok, Err, refl, sym, ap, ◌∙◌, subst}
use Rattle.std.specs.Prelude.{IfSome, IfOk, IfErr, IsSome, is_some, option_map}
use Rattle.image_file.specs.Image.{Contents}
use Rattle.event_table.specs.declared.turn.Finished.{Finished}
use Rattle.event_table.specs.declared.turn.Turn.{Turn}
use Rattle.host_events.specs.Hosting.{Hosting}
use Rattle.run_io.specs.Outside.{FilesTold, SinkTold, FailsToPut, HasSpace, wrote}
use Rattle.smp_runner.specs.Ran.{IsLegalOrder, RanAlong}
use Rattle.ghcb_cli.specs.declared.files.Unready.{Unready}
use Rattle.ghcb_cli.specs.declared.files.Unready.TheVariants as unready
use Rattle.ghcb_cli.specs.declared.smp_run.Unfinished.{Unfinished}
use Rattle.ghcb_cli.specs.declared.smp_run.Unfinished.TheVariants as unfinished
use Rattle.ghcb_cli.specs.declared.text.Refused.{Refused}
use Rattle.ghcb_cli.specs.Command.{command_word}
use Rattle.ghcb_cli.specs.Files.{Folder, Holds, AreRefused, AreUnread, IsAbsent, run_parts, image_in, input_in}
use Rattle.ghcb_cli.specs.Said.{Said, said_of_files, says_refused, says_output}
use Rattle.ghcb_cli.specs.SmpCommand.{smp_steps, smp_said, smp_said_by, says_smp_usage, output_along, running_along}
use Rattle.ghcb_cli.specs.SmpEnding.{EndsUnfinished, HasRoom, PutsLine, ReportsAs, RunsSmp, RunUnfinished, SmpFailsWrite}
use Rattle.ghcb_cli.specs.Text.{line_of, smp_usage}
use Rattle.ghcb_cli.specs.Unready.{Explains}
use Rattle.ghcb_cli.proofs.Answering.{refusal_said, absent_said, output_said}

-- what is to be said of words of the grammar
said_as : (order : List Turn) (f : Folder) (words : List (List ℕ)) (steps : ℕ) → smp_steps words ≡ Some steps →
    smp_said order f words ≡ said_of_files (running_along order steps) (f (command_word words 0)) (f (command_word words 1))
said_as order f words steps command = ap (λ (o : Option ℕ). smp_said_by order (f (command_word words 0)) (f (command_word words 1)) o) command

is_inside : (words : List (List ℕ)) (steps : ℕ) → smp_steps words ≡ Some steps → IsSome (smp_steps words)
is_inside words steps command = ap (λ (o : Option ℕ). is_some o) command

-- a refusal is what is to be said
refusal_is : (folder : Option Folder) (words : List (List ℕ)) (steps : ℕ) (r : Refused) → smp_steps words ≡ Some steps → AreRefused run_parts folder (command_word words 0) (command_word words 1) r →
    IfSome folder (λ f. (order : List Turn) → smp_said order f words ≡ Some (says_refused r))
refusal_is None words steps r command refusal = tt
refusal_is (Some f) words steps r command refusal = λ order.
    said_as order f words steps command ∙ refusal_said (running_along order steps) (f (command_word words 0)) (f (command_word words 1)) r refusal

-- where a file is absent there is nothing
absent_is : (folder : Option Folder) (words : List (List ℕ)) (steps : ℕ) → smp_steps words ≡ Some steps →
    IfSome folder (λ f. IsAbsent (option_map run_parts.image (f (command_word words 0))) (option_map run_parts.second (f (command_word words 1)))) →
    IfSome folder (λ f. (order : List Turn) → smp_said order f words ≡ None)
absent_is None words steps command absent = tt
absent_is (Some f) words steps command absent = λ order.
    said_as order f words steps command ∙ absent_said (running_along order steps) (f (command_word words 0)) (f (command_word words 1)) absent

-- the output along an order is what is to be said
output_is : (folder : Option Folder) (words : List (List ℕ)) (steps : ℕ) (image : Contents) (input : List ℕ) → smp_steps words ≡ Some steps →
    Holds folder image_in (command_word words 0) (Ok image) → Holds folder input_in (command_word words 1) (Ok input) →
    IfSome folder (λ f. (order : List Turn) → smp_said order f words ≡ Some (says_output (output_along order image steps input)))
output_is None words steps image input command first second = tt
output_is (Some f) words steps image input command first second = λ order.
    said_as order f words steps command ∙ output_said (running_along order steps) (f (command_word words 0)) (f (command_word words 1)) image input first second

-- the usage line is what is to be said of words outside the grammar
usage_is : (folder : Option Folder) (words : List (List ℕ)) → smp_steps words ≡ None → IfSome folder (λ f. (order : List Turn) → smp_said order f words ≡ Some says_smp_usage)
usage_is None words none = tt
usage_is (Some f) words none = λ order. ap (λ (o : Option ℕ). smp_said_by order (f (command_word words 0)) (f (command_word words 1)) o) none

-- what is to be said along an order is the text of a write that failed
fails_saying : (folder : Option Folder) (words : List (List ℕ)) (what : List Turn → Said) (order : List Turn) (old new : SinkTold) →
    IfSome folder (λ f. (order : List Turn) → smp_said order f words ≡ Some (what order)) → (smp_steps words ≡ None → (what order).text ≡ smp_usage) → FailsToPut (what order).text old new →
    SmpFailsWrite folder words old new
fails_saying None words what order old new says outside fails = record { text = (what order).text; outside = outside; inside = tt; fails = fails }
fails_saying (Some f) words what order old new says outside fails = record {
  text = (what order).text;
  outside = outside;
  inside = (order, what order, says order, refl);
  fails = fails;
}

no_usage : {P : Type 0} (words : List (List ℕ)) (steps : ℕ) → smp_steps words ≡ Some steps → smp_steps words ≡ None → P
no_usage words steps command none = let wrong : Some steps ≡ None = sym command ∙ none in cc

-- a line was put, or a write of it failed
line_ends : (words : List (List ℕ)) (line : List ℕ) (old new : FilesTold) (before after : SinkTold) (told u : Unfinished) → PutsLine told line before after u →
    (after.written ≡ wrote before.written line → EndsUnfinished words old new before after told) → (FailsToPut line before after → SmpFailsWrite old.folder words before after) →
    EndsUnfinished words old new before after u
line_ends words line old new before after told u (inl put) ends fails = subst (λ (x : Unfinished). EndsUnfinished words old new before after x) (sym put.0) (ends put.1)
line_ends words line old new before after told u (inr failed) ends fails = subst (λ (x : Unfinished). EndsUnfinished words old new before after x) (sym failed.0) (fails failed.1)

-- how a call ends whose words are outside the grammar
pub usage_ends : (words : List (List ℕ)) (old new : FilesTold) (before after : SinkTold) (u : Unfinished) → smp_steps words ≡ None → new ≡ old → PutsLine unfinished.Usage smp_usage before after u →
    EndsUnfinished words old new before after u
usage_ends words old new before after u none files puts =
    line_ends words smp_usage old new before after unfinished.Usage u puts
    (λ writes. record { outside = none; files = files; writes = writes })
    (λ fails. fails_saying old.folder words (λ order. says_smp_usage) [] before after (usage_is old.folder words none) (λ _. refl) fails)

-- how a call ends that has nothing to run
pub unready_ends : (words : List (List ℕ)) (steps : ℕ) (r : Unready) (old new : FilesTold) (before after : SinkTold) (u : Unfinished) → smp_steps words ≡ Some steps →
    Explains r (λ refused. AreRefused run_parts old.folder (command_word words 0) (command_word words 1) refused) (AreUnread run_parts (command_word words 0) (command_word words 1) old new) →
    ReportsAs r before after u → EndsUnfinished words old new before after u
unready_ends words steps (unready.Refused r) old new before after u command refusal reports =
    let first = refusal_is old.folder words steps r command refusal in
    line_ends words (line_of r) old new before after (unfinished.Refused r) u reports
    (λ writes. record { inside = is_inside words steps command; first = first; writes = writes })
    (λ fails. fails_saying old.folder words (λ order. says_refused r) [] before after first (λ none. no_usage words steps command none) fails)
unready_ends words steps unready.ReadFault old new before after u command unread reports =
    let ends : EndsUnfinished words old new before after unfinished.ReadFault = record {
      inside = is_inside words steps command;
      rose = unread.rose;
      absent = λ reliable. absent_is old.folder words steps command (unread.absent reliable);
      writes = ap (λ (out : SinkTold). out.written) reports.1;
    } in
    subst (λ (x : Unfinished). EndsUnfinished words old new before after x) (sym reports.0) ends
unready_ends words steps unready.OutOfMemory old new before after u command explains reports =
    let ends : EndsUnfinished words old new before after unfinished.OutOfMemory = record {
      inside = is_inside words steps command;
      writes = ap (λ (out : SinkTold). out.written) reports.1;
    } in
    subst (λ (x : Unfinished). EndsUnfinished words old new before after x) (sym reports.0) ends

-- the run of the files, with its console written
pub run_ends : {H : Type 0} (tells : H → Hosting) (words : List (List ℕ)) (steps : ℕ) (image : Contents) (input : List ℕ) (folder : Option Folder) (old new : Option (List ℕ)) (result : Result (Finished × H) Unfinished) →
    smp_steps words ≡ Some steps → Holds folder image_in (command_word words 0) (Ok image) → Holds folder input_in (command_word words 1) (Ok input) →
    IfOk result (λ r. IsLegalOrder image input r.0 (tells r.1)) →
    IfOk result (λ r. (ran : RanAlong image steps input r.0 (tells r.1)) × (new ≡ wrote old ran.machine.devices.console)) →
    IfOk result (λ r. RunsSmp folder words r.0 (tells r.1) old new)
run_ends tells words steps image input folder old new (Ok r) command first second legal ran = record {
  steps = steps;
  image = image;
  input = input;
  command = command;
  image_file = first;
  input_file = second;
  legal = legal;
  ran = ran.0;
  writes = ran.1;
}
run_ends tells words steps image input folder old new (Err u) command first second legal ran = tt

unrun : (words : List (List ℕ)) (steps : ℕ) (image : Contents) (input : List ℕ) (old new : FilesTold) (before after : SinkTold) (u : Unfinished) →
    smp_steps words ≡ Some steps → Holds old.folder image_in (command_word words 0) (Ok image) → Holds old.folder input_in (command_word words 1) (Ok input) →
    RunUnfinished image steps input before after u → EndsUnfinished words old new before after u
unrun words steps image input old new before after unfinished.WriteFault command first second failed =
    fails_saying old.folder words (λ order. says_output (output_along order image steps input)) failed.0 before after
    (output_is old.folder words steps image input command first second) (λ none. no_usage words steps command none) failed.1
unrun words steps image input old new before after unfinished.OutOfMemory command first second same = record {
  inside = is_inside words steps command;
  writes = ap (λ (out : SinkTold). out.written) same;
}
unrun words steps image input old new before after unfinished.Usage command first second wrong = absurd wrong
unrun words steps image input old new before after (unfinished.Refused r) command first second wrong = absurd wrong
unrun words steps image input old new before after unfinished.ReadFault command first second wrong = absurd wrong

-- the run of the files that wasn't written
pub unrun_ends : {T : Type 0} (words : List (List ℕ)) (steps : ℕ) (image : Contents) (input : List ℕ) (old new : FilesTold) (before after : SinkTold) (result : Result T Unfinished) →
    smp_steps words ≡ Some steps → Holds old.folder image_in (command_word words 0) (Ok image) → Holds old.folder input_in (command_word words 1) (Ok input) →
    IfErr result (RunUnfinished image steps input before after) → IfErr result (EndsUnfinished words old new before after)
unrun_ends words steps image input old new before after (Ok r) command first second ends = tt
unrun_ends words steps image input old new before after (Err u) command first second ends = unrun words steps image input old new before after u command first second ends

-- the console of a plain run along an order is the output along it
pub ran_output : (image : Contents) (steps : ℕ) (input : List ℕ) (f : Finished) (h : Hosting) (console : List ℕ) → (ran : RanAlong image steps input f h) →
    IfSome h.devices (λ d. console ≡ d.console) → console ≡ ran.machine.devices.console
ran_output image steps input f h console ran shown = subst (λ o. IfSome o (λ d. console ≡ d.console)) ran.devices shown

-- over a sink that has room no write fails
pub unwritten_in_room : (folder : Option Folder) (words : List (List ℕ)) (out new : SinkTold) (status : ℕ) → SmpFailsWrite folder words out new →
    IfSome folder (λ f. HasRoom f words out → (order : List Turn) (s : Said) → smp_said order f words ≡ Some s → (status ≡ s.status) ⊎ (status ≡ 6))
unwritten_in_room None words out new status fails = tt
unwritten_in_room (Some f) words out new status fails = λ room order s says.
    let said = fails.inside in
    let fits : HasSpace out (length said.1.text) = subst (λ o. IfSome o (λ (x : Said). HasSpace out (length x.text))) said.2 (room said.0) in
    absurd (fails.fails.full (subst (λ (text : List ℕ). HasSpace out (length text)) (sym said.3) fits))
