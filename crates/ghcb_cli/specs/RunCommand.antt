-- The command `run`.
use Rattle.std.specs.Prelude.{◌≡◌, ℕ, Bool, if◌then◌else◌, List, Option, Some, Ok}
use Rattle.image_file.specs.Image.{Contents}
use Rattle.event_table.specs.declared.turn.Finished.{Finished}
use Rattle.host_events.specs.Hosting.{Hosting}
use Rattle.report_text.specs.Report.{report_text}
use Rattle.run_io.specs.Outside.{wrote}
use Rattle.round_runner.specs.Ran.{RanRounds}
use Rattle.ghcb_cli.specs.declared.command.Command.TheVariants.{Run}
use Rattle.ghcb_cli.specs.Command.{command_of, command_word}
use Rattle.ghcb_cli.specs.Files.{Folder, Holds, image_in, input_in}

-- what is written of a run that put out these bytes: the bytes, or its report
abbrev pub run_text : Bool → List ℕ → Finished → List ℕ
run_text report console f = if report then report_text console f.order.items f.ends.items f.steps.items else console

-- The run of an image over an input, in rounds, with its output or its report written.
pub record Runs (image : Contents) (input : List ℕ) (steps : ℕ) (report : Bool) (f : Finished) (h : Hosting) (old new : Option (List ℕ)) : Type 0 where
  pub ran : RanRounds image steps input f h
  pub writes : new ≡ wrote old (run_text report ran.ran.machine.devices.console f)

-- The run of an image and an input, which are those of the files that the words name where the folder is told: the plain
-- machine's output in the order of rounds was written, or the report of its values.
pub record RunsFiles (folder : Option Folder) (words : List (List ℕ)) (f : Finished) (h : Hosting) (old new : Option (List ℕ)) : Type 0 where
  pub steps : ℕ
  pub report : Bool
  pub image : Contents
  pub input : List ℕ
  pub command : command_of words ≡ Some (Run steps report)
  pub image_file : Holds folder image_in (command_word words 1) (Ok image)
  pub input_file : Holds folder input_in (command_word words 2) (Ok input)
  pub runs : Runs image input steps report f h old new
