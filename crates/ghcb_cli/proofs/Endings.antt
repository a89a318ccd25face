-- How a call of the program ends, from how its parts end.
use Rattle.std.proofs.Common.{◌≡◌, ℕ, ◌⊎◌, Bool, true, false, inl, inr, List, length, Option, Some, None, Ok, Err, refl, sym, ap, ◌∙◌, subst}
use Rattle.std.specs.Prelude.{IfSome}
use Rattle.std.proofs.lemmas.Option.{same_Some}
use Rattle.image_file.specs.Image.{Contents}
use Rattle.image_file.specs.Made.{made_contents}
use Rattle.answered_runs.specs.Answered.{answered_text}
use Rattle.host_events.specs.Hosting.{Hosting}
use Rattle.run_io.specs.Outside.{SinkTold, Rose, FailsToRead, FailsToPut, HasSpace, wrote}
use Rattle.ghcb_cli.specs.declared.command.Command.{Command}
use Rattle.ghcb_cli.specs.declared.command.Command.TheVariants.{Run, Plain, Hostile, Live, Secret, Make}
use Rattle.ghcb_cli.specs.declared.commands.Ending.{Ending}
use Rattle.ghcb_cli.specs.declared.commands.Ending.TheVariants as ending
use Rattle.ghcb_cli.specs.declared.files.Unready.{Unready}
use Rattle.ghcb_cli.specs.declared.files.Unready.TheVariants as unready
use Rattle.ghcb_cli.specs.declared.text.Refused.{Refused}
use Rattle.ghcb_cli.specs.Command.{command_of, reading_by, reading_of, command_word, calls_host}
use Rattle.ghcb_cli.specs.Ending.{Told, FailsRead, FailsWrite, WantsMemory, EndsAs, PutsAs, WantsAs, GivesUpAs, RunEndsAs, PlainEndsAs, MakeEndsAs, ScriptEndsAs, IsHandedBack, LiveEndsAs, SecretEndsAs, IsHeardBack, Hears, HasRoomFor, IsKnown, IsText}
use Rattle.ghcb_cli.specs.Files.{Folder, Holds, AreRefused, AreUnread, input_in, image_in, script_in}
use Rattle.ghcb_cli.specs.Said.{Said, Making, IsMadeBy, running, answering, judging, judged_text, output_of, said, says_refused, says_output, IsToEnd}
use Rattle.ghcb_cli.specs.MakeCommand.{made_summary}
use Rattle.ghcb_cli.specs.RunCommand.{run_text}
use Rattle.ghcb_cli.specs.Text.{usage, line_of}
use Rattle.ghcb_cli.specs.Unready.{Explains}
use Rattle.ghcb_cli.proofs.Answering.{made_by_run, made_by_plain, made_by_script, made_by_secret, called, first_refused, none_said, said_output, text_is, made_text, made_is, to_end, usage_is, usage_text, shown_is, shown_text, live_is, live_text, live_refused, live_unsaid, said_status}
use Rattle.ghcb_cli.proofs.Outputs.{output_shown, plain_output, runs_written, made_written, summary_is}

-- a text was put, or a write of it failed
put_ends : (words : List (List ℕ)) (text : List ℕ) (old new : Told) (done e : Ending) → PutsAs done text old.out new.out e →
    (new.out.written ≡ wrote old.out.written text → EndsAs words old new done) → (FailsToPut text old.out new.out → FailsWrite words old new) → EndsAs words old new e
put_ends words text old new done e (inl put) ends fails = subst (λ (x : Ending). EndsAs words old new x) (sym put.0) (ends put.1)
put_ends words text old new done e (inr failed) ends fails = subst (λ (x : Ending). EndsAs words old new x) (sym failed.0) (fails failed.1)

wants_ends : (words : List (List ℕ)) (old new : Told) (e : Ending) → WantsAs old.out new.out e → (calls_host (command_of words) ≡ false → new.host ≡ old.host) → EndsAs words old new e
wants_ends words old new e wants uncalled =
    let memory : WantsMemory words old new = record { writes = ap (λ (p : SinkTold). p.written) wants.1; uncalled = uncalled } in
    subst (λ (x : Ending). EndsAs words old new x) (sym wants.0) memory

-- how the run of the files ends
pub ran_ends : (words : List (List ℕ)) (steps : ℕ) (report : Bool) (image : Contents) (input : List ℕ) (old new : Told) (e : Ending) → command_of words ≡ Some (Run steps report) →
    Holds old.files.folder image_in (command_word words 1) (Ok image) → Holds old.files.folder input_in (command_word words 2) (Ok input) →
    RunEndsAs image input steps report old.host new.host old.out new.out e → EndsAs words old new e
ran_ends words steps report image input old new e command first second (inr wants) = wants_ends words old new e wants (λ none. called words (Run steps report) command refl none)
ran_ends words steps report image input old new e command first second (inl (f, console, run, inr wants)) =
    wants_ends words old new e wants (λ none. called words (Run steps report) command refl none)
ran_ends words steps report image input old new e command first second (inl (f, console, run, inl put)) =
    let text = run_text report console f in
    let says = said_output (running report steps) (Run steps report) (made_by_run steps report) old.files.folder words image input command first second in
    let whole = (running report steps).text image input in
    put_ends words text old new (ending.Done f) e put
    (λ writes. record {
      steps = steps;
      report = report;
      command = command;
      ran = λ telling. record {
        steps = steps;
        report = report;
        image = image;
        input = input;
        command = command;
        image_file = first;
        input_file = second;
        runs = runs_written image steps report input f new.host console old.out.written new.out.written (run.ran telling) run.shown writes;
      };
      is_end = to_end old.files.folder words (says_output whole) says;
    })
    (λ fails. record {
      text = text;
      is_text =
          text_is (Run steps report) (λ digits. refl) old.files.folder words old.host text (says_output whole) command says
          (λ known. output_shown image steps report input f new.host console (run.ran (known (ap (λ (x : Option Command). calls_host x) command) refl)) run.shown);
      fails = fails;
      uncalled = λ none. called words (Run steps report) command refl none;
    })

-- how the run of the files with the devices alone ends
pub plain_ends : (words : List (List ℕ)) (steps : ℕ) (image : Contents) (input : List ℕ) (old new : Told) (e : Ending) → command_of words ≡ Some (Plain steps) → new.host ≡ old.host →
    Holds old.files.folder image_in (command_word words 1) (Ok image) → Holds old.files.folder input_in (command_word words 2) (Ok input) →
    PlainEndsAs image input steps old.out new.out e → EndsAs words old new e
plain_ends words steps image input old new e command host first second (inr wants) = wants_ends words old new e wants (λ other. host)
plain_ends words steps image input old new e command host first second (inl ran) =
    let f = ran.0 in
    let text = ran.1 in
    let says = said_output (running false steps) (Plain steps) (made_by_plain steps) old.files.folder words image input command first second in
    put_ends words text old new (ending.Plain f) e ran.3
    (λ writes. record {
      steps = steps;
      command = command;
      ran = record {
        steps = steps;
        image = image;
        input = input;
        command = command;
        image_file = first;
        input_file = second;
        console = text;
        ran = ran.2;
        writes = writes;
      };
      is_end = to_end old.files.folder words (says_output (output_of image steps input)) says;
      host = host;
    })
    (λ fails. record {
      text = text;
      is_text =
          text_is (Plain steps) (λ digits. refl) old.files.folder words old.host text (says_output (output_of image steps input)) command says
          (λ known. plain_output image steps input f text ran.2);
      fails = fails;
      uncalled = λ other. host;
    })

-- how the run of the image that a number makes ends
pub made_ends : (words : List (List ℕ)) (number : ℕ) (old new : Told) (e : Ending) → command_of words ≡ Some (Make number) → new.files ≡ old.files →
    MakeEndsAs number old.host new.host old.out new.out e → EndsAs words old new e
made_ends words number old new e command files (inr wants) = wants_ends words old new e wants (λ none. called words (Make number) command refl none)
made_ends words number old new e command files (inl (f, console, run, put)) =
    let text = made_summary number f console in
    put_ends words text old new (ending.Made f) e put
    (λ writes. record {
      number = number;
      command = command;
      files = files;
      ran = λ telling. made_written words number f new.host console old.out.written new.out.written command (run.ran telling) run.shown writes;
      is_end = made_is old.files.folder words number command;
    })
    (λ fails. record {
      text = text;
      is_text =
          made_text old.files.folder words old.host number text command
          (λ known. summary_is number f new.host console (run.ran (known (ap (λ (x : Option Command). calls_host x) command) refl)) run.shown);
      fails = fails;
      uncalled = λ none. called words (Make number) command refl none;
    })

handed_ends : (words : List (List ℕ)) (steps : ℕ) (image : Contents) (script : List ℕ) (old new : Told) (done : Ending) → command_of words ≡ Some (Hostile steps) → new.host ≡ old.host →
    Holds old.files.folder image_in (command_word words 1) (Ok image) → Holds old.files.folder script_in (command_word words 2) (Ok script) →
    IsHandedBack image script steps done → new.out.written ≡ wrote old.out.written (answered_text image steps script) → EndsAs words old new done
handed_ends words steps image script old new (ending.Answered f heard) command host first second handed writes = record {
  steps = steps;
  command = command;
  ran = record {
    steps = steps;
    image = image;
    script = script;
    command = command;
    image_file = first;
    script_file = second;
    answers = handed;
    writes = writes;
  };
  is_end =
      to_end old.files.folder words (says_output (answered_text image steps script))
      (said_output (answering steps) (Hostile steps) (made_by_script steps) old.files.folder words image script command first second);
  host = host;
}
handed_ends words steps image script old new (ending.Done f) command host first second handed writes = absurd handed
handed_ends words steps image script old new (ending.Plain f) command host first second handed writes = absurd handed
handed_ends words steps image script old new (ending.Made f) command host first second handed writes = absurd handed
handed_ends words steps image script old new (ending.Heard f heard) command host first second handed writes = absurd handed
handed_ends words steps image script old new ending.Judged command host first second handed writes = absurd handed
handed_ends words steps image script old new ending.Usage command host first second handed writes = absurd handed
handed_ends words steps image script old new ending.Shown command host first second handed writes = absurd handed
handed_ends words steps image script old new (ending.Refused r) command host first second handed writes = absurd handed
handed_ends words steps image script old new ending.ReadFault command host first second handed writes = absurd handed
handed_ends words steps image script old new ending.WriteFault command host first second handed writes = absurd handed
handed_ends words steps image script old new ending.OutOfMemory command host first second handed writes = absurd handed

-- how the run on the script of the files ends
pub answered_ends : (words : List (List ℕ)) (steps : ℕ) (image : Contents) (script : List ℕ) (old new : Told) (e : Ending) → command_of words ≡ Some (Hostile steps) → new.host ≡ old.host →
    Holds old.files.folder image_in (command_word words 1) (Ok image) → Holds old.files.folder script_in (command_word words 2) (Ok script) →
    ScriptEndsAs image script steps old.out new.out e → EndsAs words old new e
answered_ends words steps image script old new e command host first second (inr wants) = wants_ends words old new e wants (λ other. host)
answered_ends words steps image script old new e command host first second (inl ran) =
    let text = answered_text image steps script in
    put_ends words text old new ran.0 e ran.2
    (λ writes. handed_ends words steps image script old new ran.0 command host first second ran.1 writes)
    (λ fails. record {
      text = text;
      is_text =
          text_is (Hostile steps) (λ digits. refl) old.files.folder words old.host text (says_output text) command
          (said_output (answering steps) (Hostile steps) (made_by_script steps) old.files.folder words image script command first second) (λ known. refl);
      fails = fails;
      uncalled = λ other. host;
    })

-- how the run with labels on the script of the files ends
pub judged_ends : (words : List (List ℕ)) (steps : ℕ) (image : Contents) (script : List ℕ) (old new : Told) (e : Ending) → command_of words ≡ Some (Secret steps) → new.host ≡ old.host →
    Holds old.files.folder image_in (command_word words 1) (Ok image) → Holds old.files.folder script_in (command_word words 2) (Ok script) →
    SecretEndsAs image script steps old.out new.out e → EndsAs words old new e
judged_ends words steps image script old new e command host first second (inr wants) = wants_ends words old new e wants (λ other. host)
judged_ends words steps image script old new e command host first second (inl put) =
    let text = judged_text image steps script in
    let says = said_output (judging steps) (Secret steps) (made_by_secret steps) old.files.folder words image script command first second in
    put_ends words text old new ending.Judged e put
    (λ writes. record {
      steps = steps;
      command = command;
      judged = record {
        steps = steps;
        image = image;
        script = script;
        command = command;
        image_file = first;
        script_file = second;
        writes = writes;
      };
      is_end = to_end old.files.folder words (says_output text) says;
      host = host;
    })
    (λ fails. record {
      text = text;
      is_text = text_is (Secret steps) (λ digits. refl) old.files.folder words old.host text (says_output text) command says (λ known. refl);
      fails = fails;
      uncalled = λ other. host;
    })

heard_ends : (words : List (List ℕ)) (seed steps : ℕ) (image : Contents) (heard : List ℕ) (old new : Told) (done : Ending) → command_of words ≡ Some (Live seed steps) → new.host ≡ old.host →
    Holds old.files.folder image_in (command_word words 1) (Ok image) → IsHeardBack image steps heard done → new.out.written ≡ wrote old.out.written (answered_text image steps heard) → EndsAs words old new done
heard_ends words seed steps image heard old new (ending.Heard f came) command host first back writes =
    let hears : Hears words old new f heard = record {
      seed = seed;
      steps = steps;
      command = command;
      ran = record {
        seed = seed;
        steps = steps;
        image = image;
        command = command;
        image_file = first;
        answers = back.1;
        writes = writes;
      };
      is_end = live_is old.files.folder words seed steps image command first;
      host = host;
    } in
    subst (λ (x : List ℕ). Hears words old new f x) (sym back.0) hears
heard_ends words seed steps image heard old new (ending.Answered f came) command host first back writes = absurd back
heard_ends words seed steps image heard old new (ending.Done f) command host first back writes = absurd back
heard_ends words seed steps image heard old new (ending.Plain f) command host first back writes = absurd back
heard_ends words seed steps image heard old new (ending.Made f) command host first back writes = absurd back
heard_ends words seed steps image heard old new ending.Judged command host first back writes = absurd back
heard_ends words seed steps image heard old new ending.Usage command host first back writes = absurd back
heard_ends words seed steps image heard old new ending.Shown command host first back writes = absurd back
heard_ends words seed steps image heard old new (ending.Refused r) command host first back writes = absurd back
heard_ends words seed steps image heard old new ending.ReadFault command host first back writes = absurd back
heard_ends words seed steps image heard old new ending.WriteFault command host first back writes = absurd back
heard_ends words seed steps image heard old new ending.OutOfMemory command host first back writes = absurd back

-- how the run on a page that another thread changes ends
pub live_ends : (words : List (List ℕ)) (seed steps : ℕ) (image : Contents) (old new : Told) (e : Ending) → command_of words ≡ Some (Live seed steps) → new.host ≡ old.host →
    Holds old.files.folder image_in (command_word words 1) (Ok image) → LiveEndsAs image steps old.out new.out e → EndsAs words old new e
live_ends words seed steps image old new e command host first (inr wants) = wants_ends words old new e wants (λ other. host)
live_ends words seed steps image old new e command host first (inl (heard, done, back, put)) =
    put_ends words (answered_text image steps heard) old new done e put
    (λ writes. heard_ends words seed steps image heard old new done command host first back writes)
    (λ fails. record {
      text = answered_text image steps heard;
      is_text = live_text old.files.folder words old.host seed steps image heard command first;
      fails = fails;
      uncalled = λ other. host;
    })

-- A read failed; where it is told that none is to fail, there is nothing to be said.
record IsUnsaid (words : List (List ℕ)) (old new : Told) : Type 0 where
  rose : Rose old.files.faults new.files.faults
  absent : old.files.is_reliable ≡ true → IfSome old.files.folder (λ f. (heard : List ℕ) → said heard f words ≡ None)

-- how a call ends that has nothing to run
given_up : (c : Command) → ((digits : List ℕ) → reading_by digits (Some c) ≡ None) → (words : List (List ℕ)) (u : Unready) (old new : Told) (e : Ending) → command_of words ≡ Some c → new.host ≡ old.host →
    Explains u (λ r. IfSome old.files.folder (λ f. (heard : List ℕ) → said heard f words ≡ Some (says_refused r))) (IsUnsaid words old new) → GivesUpAs u old.out new.out e → EndsAs words old new e
given_up c unread words (unready.Refused r) old new e command host first ends =
    put_ends words (line_of r) old new (ending.Refused r) e ends
    (λ writes. record { first = first; writes = writes; host = host })
    (λ fails. record {
      text = line_of r;
      is_text = text_is c unread old.files.folder words old.host (line_of r) (says_refused r) command first (λ known. refl);
      fails = fails;
      uncalled = λ other. host;
    })
given_up c unread words unready.ReadFault old new e command host unsaid ends =
    let fails : FailsRead words old new = record {
      rose = unsaid.rose;
      absent = unsaid.absent;
      writes = ap (λ (p : SinkTold). p.written) ends.1;
      host = host;
    } in
    subst (λ (x : Ending). EndsAs words old new x) (sym ends.0) fails
given_up c unread words unready.OutOfMemory old new e command host explains ends = wants_ends words old new e ends (λ other. host)

explains_weaker : {A B : Type 0} {P Q : Refused → Type 0} (u : Unready) → ((r : Refused) → P r → Q r) → (A → B) → Explains u P A → Explains u Q B
explains_weaker (unready.Refused r) refused failed is = refused r is
explains_weaker unready.ReadFault refused failed is = failed is
explains_weaker unready.OutOfMemory refused failed is = is

-- how a command on two files ends that has nothing to run
pub files_given_up : (m : Making) (c : Command) → IsMadeBy c m → (words : List (List ℕ)) (u : Unready) (old new : Told) (e : Ending) → command_of words ≡ Some c → new.host ≡ old.host →
    Explains u (λ r. AreRefused m.parts old.files.folder (command_word words 1) (command_word words 2) r) (AreUnread m.parts (command_word words 1) (command_word words 2) old.files new.files) →
    GivesUpAs u old.out new.out e → EndsAs words old new e
files_given_up m c made words u old new e command host explains ends =
    given_up c made.unread words u old new e command host
    (explains_weaker u
    (λ r refusal. first_refused m c made old.files.folder words r command refusal)
    (λ unread. record { rose = unread.rose; absent = λ reliable. none_said m c made old.files.folder words command (unread.absent reliable) })
    explains)
    ends

-- how the command on a page that another thread changes ends that has nothing to run
pub live_given_up : (words : List (List ℕ)) (seed steps : ℕ) (u : Unready) (old new : Told) (e : Ending) → command_of words ≡ Some (Live seed steps) → new.host ≡ old.host →
    Explains u (λ r. Holds old.files.folder image_in (command_word words 1) (Err r)) (FailsToRead (command_word words 1) old.files new.files) →
    GivesUpAs u old.out new.out e → EndsAs words old new e
live_given_up words seed steps u old new e command host explains ends =
    given_up (Live seed steps) (λ digits. refl) words u old new e command host
    (explains_weaker u
    (λ r refusal. live_refused old.files.folder words seed steps r command refusal)
    (λ failed. record {
      rose = failed.rose;
      absent = λ reliable. live_unsaid old.files.folder words seed steps command (λ some. failed.unreadable (reliable, some));
    })
    explains)
    ends

-- how a call ends whose words are no command
pub usage_ends : (words : List (List ℕ)) (old new : Told) (e : Ending) → command_of words ≡ None → new.host ≡ old.host → new.files ≡ old.files →
    PutsAs ending.Usage usage old.out new.out e → EndsAs words old new e
usage_ends words old new e none host files ends =
    put_ends words usage old new ending.Usage e ends
    (λ writes. record { outside = none; files = files; writes = writes; host = host })
    (λ fails. record { text = usage; is_text = usage_text old.files.folder words old.host none; fails = fails; uncalled = λ other. host })

-- how a call ends that shows a reading
pub shown_ends : (words : List (List ℕ)) (text : List ℕ) (old new : Told) (e : Ending) → reading_of words ≡ Some text → new.host ≡ old.host → new.files ≡ old.files →
    PutsAs ending.Shown text old.out new.out e → EndsAs words old new e
shown_ends words text old new e reads host files ends =
    put_ends words text old new ending.Shown e ends
    (λ writes. record { text = text; reads = reads; files = files; writes = writes; host = host })
    (λ fails. record { text = text; is_text = shown_text old.files.folder words old.host text reads; fails = fails; uncalled = λ other. host })

-- the status of an end
abbrev pub status_of : Ending → ℕ
status_of (ending.Done f) = 0
status_of (ending.Plain f) = 0
status_of (ending.Made f) = 0
status_of (ending.Answered f heard) = 0
status_of (ending.Heard f heard) = 0
status_of ending.Judged = 0
status_of ending.Usage = 2
status_of ending.Shown = 0
status_of (ending.Refused r) = 3
status_of ending.ReadFault = 4
status_of ending.WriteFault = 5
status_of ending.OutOfMemory = 6

-- it ends as it is to end, or memory was wanting, where the sink has room for what is to be said, whichever words come
abbrev pub EndsSo : Option Folder → List (List ℕ) → Hosting → SinkTold → ℕ → Type 0
EndsSo folder words h out status = IfSome folder (λ f. HasRoomFor f words out → (heard : List ℕ) (s : Said) → said heard f words ≡ Some s → IsKnown words h s → (status ≡ s.status) ⊎ (status ≡ 6))

end_so : (folder : Option Folder) (words : List (List ℕ)) (h : Hosting) (out : SinkTold) (status : ℕ) → IsToEnd folder words status → EndsSo folder words h out status
end_so None words h out status is_end = tt
end_so (Some f) words h out status is_end = λ room heard s says known. inl (sym (is_end heard).2 ∙ ap (λ (x : Said). x.status) (same_Some _ _ (sym (is_end heard).1 ∙ says)))

absent_so : (folder : Option Folder) (words : List (List ℕ)) (h : Hosting) (out : SinkTold) (status : ℕ) → IfSome folder (λ f. (heard : List ℕ) → said heard f words ≡ None) → EndsSo folder words h out status
absent_so None words h out status none = tt
absent_so (Some f) words h out status none = λ room heard s says known. let wrong : None ≡ Some s = sym (none heard) ∙ says in cc

full_so : (folder : Option Folder) (words : List (List ℕ)) (h : Hosting) (text : List ℕ) (out new : SinkTold) (status : ℕ) → IsText folder words h text → FailsToPut text out new → EndsSo folder words h out status
full_so None words h text out new status is_text fails = tt
full_so (Some f) words h text out new status is_text fails = λ room heard s says known.
    let inside = is_text.inside in
    let known_too : IsKnown words h inside.1 = λ calls zero. known calls (said_status heard inside.0 f words s inside.1 says inside.2 ∙ zero) in
    let whole : text ≡ inside.1.text = inside.3 known_too in
    let fits : HasSpace out (length inside.1.text) = subst (λ (o : Option Said). IfSome o (λ (x : Said). HasSpace out (length x.text))) inside.2 (room inside.0) in
    absurd (fails.full (subst (λ (t : List ℕ). HasSpace out (length t)) (sym whole) fits))

memory_so : (folder : Option Folder) (words : List (List ℕ)) (h : Hosting) (out : SinkTold) → EndsSo folder words h out 6
memory_so None words h out = tt
memory_so (Some f) words h out = λ room heard s says known. inr refl

ends_so : (words : List (List ℕ)) (old new : Told) (e : Ending) → EndsAs words old new e → old.files.is_reliable ≡ true → EndsSo old.files.folder words old.host old.out (status_of e)
ends_so words old new (ending.Done f) ends reliable = end_so old.files.folder words old.host old.out 0 ends.is_end
ends_so words old new (ending.Plain f) ends reliable = end_so old.files.folder words old.host old.out 0 ends.is_end
ends_so words old new (ending.Made f) ends reliable = end_so old.files.folder words old.host old.out 0 ends.is_end
ends_so words old new (ending.Answered f heard) ends reliable = end_so old.files.folder words old.host old.out 0 ends.is_end
ends_so words old new (ending.Heard f heard) ends reliable = end_so old.files.folder words old.host old.out 0 ends.is_end
ends_so words old new ending.Judged ends reliable = end_so old.files.folder words old.host old.out 0 ends.is_end
ends_so words old new ending.Usage ends reliable = end_so old.files.folder words old.host old.out 2 (usage_is old.files.folder words ends.outside)
ends_so words old new ending.Shown ends reliable = end_so old.files.folder words old.host old.out 0 (shown_is old.files.folder words ends.text ends.reads)
ends_so words old new (ending.Refused r) ends reliable = end_so old.files.folder words old.host old.out 3 (to_end old.files.folder words (says_refused r) ends.first)
ends_so words old new ending.ReadFault ends reliable = absent_so old.files.folder words old.host old.out 4 (ends.absent reliable)
ends_so words old new ending.WriteFault ends reliable = full_so old.files.folder words old.host ends.text old.out new.out 5 ends.is_text ends.fails
ends_so words old new ending.OutOfMemory ends reliable = memory_so old.files.folder words old.host old.out

-- over files that can't fail and a sink that has room
pub certain : (words : List (List ℕ)) (old new : Told) (e : Ending) (status : ℕ) → EndsAs words old new e → status ≡ status_of e → old.files.is_reliable ≡ true →
    EndsSo old.files.folder words old.host old.out status
certain words old new e status ends is reliable =
    subst (λ n. EndsSo old.files.folder words old.host old.out n) (sym is) (ends_so words old new e ends reliable)

-- it ends as it is to end
pub end_complete : (folder : Option Folder) (words : List (List ℕ)) (end status : ℕ) → IsToEnd folder words end → status ≡ end →
    IfSome folder (λ f. (heard : List ℕ) (s : Said) → said heard f words ≡ Some s → (status ≡ s.status) ⊎ (status ≡ 6))
end_complete None words end status is_end is = tt
end_complete (Some f) words end status is_end is = λ heard s says. inl (is ∙ sym (is_end heard).2 ∙ ap (λ (x : Said). x.status) (same_Some _ _ (sym (is_end heard).1 ∙ says)))

pub memory_complete : (folder : Option Folder) (words : List (List ℕ)) (status : ℕ) → status ≡ 6 →
    IfSome folder (λ f. (heard : List ℕ) (s : Said) → said heard f words ≡ Some s → (status ≡ s.status) ⊎ (status ≡ 6))
memory_complete None words status is = tt
memory_complete (Some f) words status is = λ heard s says. inr is
