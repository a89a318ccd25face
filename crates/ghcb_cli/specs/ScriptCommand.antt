-- The command `hostile`.
use Rattle.std.specs.Prelude.{◌≡◌, ℕ, List, Option, Some, Ok}
use Rattle.image_file.specs.Image.{Contents}
use Rattle.event_table.specs.declared.turn.Finished.{Finished}
use Rattle.answered_runs.specs.Answered.{answered_text, IsAnswered}
use Rattle.run_io.specs.Outside.{wrote}
use Rattle.ghcb_cli.specs.declared.command.Command.TheVariants.{Hostile}
use Rattle.ghcb_cli.specs.Command.{command_of, command_word}
use Rattle.ghcb_cli.specs.Files.{Folder, Holds, image_in, script_in}

-- The run of an image on the words of a script, which are those of the files that the words name where the folder is told: its
-- trace and its end were written, and these words, steps and end are handed back.
pub record RunsScript (folder : Option Folder) (words : List (List ℕ)) (f : Finished) (heard : List ℕ) (old new : Option (List ℕ)) : Type 0 where
  pub steps : ℕ
  pub image : Contents
  pub script : List ℕ
  pub command : command_of words ≡ Some (Hostile steps)
  pub image_file : Holds folder image_in (command_word words 1) (Ok image)
  pub script_file : Holds folder script_in (command_word words 2) (Ok script)
  pub answers : IsAnswered image steps script f heard
  pub writes : new ≡ wrote old (answered_text image steps script)
