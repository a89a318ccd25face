-- The command `live`.
use Rattle.std.specs.Prelude.{◌≡◌, ℕ, List, Option, Some, Ok}
use Rattle.image_file.specs.Image.{Contents}
use Rattle.event_table.specs.declared.turn.Finished.{Finished}
use Rattle.answered_runs.specs.Answered.{answered_text, IsAnswered}
use Rattle.run_io.specs.Outside.{wrote}
use Rattle.ghcb_cli.specs.declared.command.Command.TheVariants.{Live}
use Rattle.ghcb_cli.specs.Command.{command_of, command_word}
use Rattle.ghcb_cli.specs.Files.{Folder, Holds, image_in}

-- The run of an image on the words that came of a page that another thread changes. The image is that of the file that
-- the command's words name where the folder is told: the trace and the end of the run on the words that came were
-- written, and these words are handed back with the run's steps and end.
pub record RunsLive (folder : Option Folder) (words : List (List ℕ)) (f : Finished) (heard : List ℕ) (old new : Option (List ℕ)) : Type 0 where
  pub seed : ℕ
  pub steps : ℕ
  pub image : Contents
  pub command : command_of words ≡ Some (Live seed steps)
  pub image_file : Holds folder image_in (command_word words 1) (Ok image)
  pub answers : IsAnswered image steps heard f heard
  pub writes : new ≡ wrote old (answered_text image steps heard)
