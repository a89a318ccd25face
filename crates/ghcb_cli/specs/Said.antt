-- What the program is to say: a function of its words, its files and, of a run on a page that another thread changes, the
-- words that came.
use Rattle.std.specs.Prelude.{◌≡◌, ℕ, Bool, false, if◌then◌else◌, List, [], Option, Some, None, Result, Ok, Err, IfSome, length, option_map, option_and_then}
use Rattle.image_file.specs.Image.{Contents}
use Rattle.image_file.specs.Made.{made_contents}
use Rattle.answered_runs.specs.Answered.{answered_text}
use Rattle.plain_machine.specs.Plain.{rounds_machine, rounds_order, steps_of, ends_of}
use Rattle.report_text.specs.Report.{report_text}
use Rattle.report_text.specs.Summary.{summary_text}
use Rattle.secret_labels.specs.Following.{labelled}
use Rattle.verdict_text.specs.Verdict.{verdict_text}
use Rattle.ghcb_cli.specs.declared.command.Command.{Command}
use Rattle.ghcb_cli.specs.declared.command.Command.TheVariants.{Run, Plain, Hostile, Live, Secret, ShowPage, ShowMsr, ShowInfo, Make}
use Rattle.ghcb_cli.specs.declared.text.Refused.{Refused}
use Rattle.ghcb_cli.specs.Command.{command_of, reading_by, command_word}
use Rattle.ghcb_cli.specs.Files.{Folder, Parts, run_parts, script_parts, image_in}
use Rattle.ghcb_cli.specs.MakeCommand.{make_steps}
use Rattle.ghcb_cli.specs.Text.{usage, line_of}

-- its status, the refusal, and the whole text
pub record Said : Type 0 where
  pub status : ℕ
  pub refused : Option Refused
  pub text : List ℕ

abbrev pub says_usage : Said
says_usage = record { status = 2; refused = None; text = usage }

abbrev pub says_refused : Refused → Said
says_refused refused = record { status = 3; refused = Some refused; text = line_of refused }

abbrev pub says_output : List ℕ → Said
says_output text = record { status = 0; refused = None; text = text }

-- the plain machine's output in the order of rounds
abbrev pub output_of : Contents → ℕ → List ℕ → List ℕ
output_of image steps input = (rounds_machine image steps input).devices.console

-- the report of the plain machine's values in the order of rounds
abbrev pub report_of : Contents → ℕ → List ℕ → List ℕ
report_of image steps input =
    let stops = (rounds_machine image steps input).stops in
    report_text (output_of image steps input) (rounds_order image steps input) (ends_of stops) (steps_of stops)

-- the summary of the plain machine's values in the order of rounds, on the image that a number makes
abbrev pub summary_of : ℕ → List ℕ
summary_of number =
    let image = made_contents number in
    let turns = length (rounds_order image make_steps []) in
    summary_text number (length image.code) turns (output_of image make_steps [])

-- the verdict on an image's secret along the run on a script's words
abbrev pub judged_text : Contents → ℕ → List ℕ → List ℕ
judged_text image steps words = verdict_text (labelled image steps words)

-- What a command makes of two files: what is in them, and the text of its run on both.
pub record Making : Type 0 where
  pub parts : Parts
  pub text : Contents → List ℕ → List ℕ

abbrev pub running : Bool → ℕ → Making
running report steps = record {
  parts = run_parts;
  text = λ image input. if report then report_of image steps input else output_of image steps input;
}

abbrev pub answering : ℕ → Making
answering steps = record { parts = script_parts; text = λ image words. answered_text image steps words }

abbrev pub judging : ℕ → Making
judging steps = record { parts = script_parts; text = λ image words. judged_text image steps words }

abbrev pub said_over : Making → Contents → Result (List ℕ) Refused → Said
said_over making image (Ok second) = says_output (making.text image second)
said_over making image (Err refused) = says_refused refused

abbrev pub said_with : Making → Option (List ℕ) → Result Contents Refused → Option Said
said_with making second (Ok image) = option_map (λ bytes. said_over making image (making.parts.second bytes)) second
said_with making second (Err refused) = Some (says_refused refused)

abbrev pub said_of_files : Making → Option (List ℕ) → Option (List ℕ) → Option Said
said_of_files making image second = option_and_then (λ bytes. said_with making second (making.parts.image bytes)) image

-- what is to be said of a run on an image alone
abbrev pub said_on : (Contents → List ℕ) → Result Contents Refused → Said
said_on text (Ok image) = says_output (text image)
said_on text (Err refused) = says_refused refused

abbrev pub said_of_image : (Contents → List ℕ) → Option (List ℕ) → Option Said
said_of_image text image = option_map (λ bytes. said_on text (image_in bytes)) image

-- by the words that came, the bytes of both files, the digits of a page, and the command
abbrev pub said_by : List ℕ → Option (List ℕ) → Option (List ℕ) → List ℕ → Option Command → Option Said
said_by heard image second digits (Some (Run steps report)) = said_of_files (running report steps) image second
said_by heard image second digits (Some (Plain steps)) = said_of_files (running false steps) image second
said_by heard image second digits (Some (Hostile steps)) = said_of_files (answering steps) image second
said_by heard image second digits (Some (Secret steps)) = said_of_files (judging steps) image second
said_by heard image second digits (Some (Live seed steps)) = said_of_image (λ contents. answered_text contents steps heard) image
said_by heard image second digits (Some ShowPage) = option_map (λ text. says_output text) (reading_by digits (Some ShowPage))
said_by heard image second digits (Some (ShowMsr word)) = option_map (λ text. says_output text) (reading_by digits (Some (ShowMsr word)))
said_by heard image second digits (Some (ShowInfo word)) = option_map (λ text. says_output text) (reading_by digits (Some (ShowInfo word)))
said_by heard image second digits (Some (Make number)) = Some (says_output (summary_of number))
said_by heard image second digits None = Some says_usage

-- a command makes its text of two files in this way, whichever words came, and is no reading
pub record IsMadeBy (c : Command) (m : Making) : Type 0 where
  pub made : (heard : List ℕ) (image second : Option (List ℕ)) (digits : List ℕ) → said_by heard image second digits (Some c) ≡ said_of_files m image second
  pub unread : (digits : List ℕ) → reading_by digits (Some c) ≡ None

-- What the program is to say: of a run the words first, then the image's limit and form, then the limit and form of the input or
-- the script, then the text of the run; of a reading its text, and of a made image its summary. The words that came matter to the
-- text of a run on a page that another thread changes alone. There is none where a file that is read is absent.
abbrev pub said : List ℕ → Folder → List (List ℕ) → Option Said
said heard folder words = said_by heard (folder (command_word words 1)) (folder (command_word words 2)) (command_word words 2) (command_of words)

-- it is to end so, whichever words came
abbrev pub IsToEnd : Option Folder → List (List ℕ) → ℕ → Type 0
IsToEnd folder words status = IfSome folder (λ f. (heard : List ℕ) → (s : Said) × (said heard f words ≡ Some s) × (s.status ≡ status))
