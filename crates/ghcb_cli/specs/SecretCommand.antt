-- The command `secret`.
use Rattle.std.specs.Prelude.{◌≡◌, ℕ, List, Option, Some, Ok}
use Rattle.image_file.specs.Image.{Contents}
use Rattle.run_io.specs.Outside.{wrote}
use Rattle.ghcb_cli.specs.declared.command.Command.TheVariants.{Secret}
use Rattle.ghcb_cli.specs.Command.{command_of, command_word}
use Rattle.ghcb_cli.specs.Files.{Folder, Holds, image_in, script_in}
use Rattle.ghcb_cli.specs.Said.{judged_text}

-- The verdict on an image's secret along the run on the words of a script, which are those of the files that the words name where
-- the folder is told, was written.
pub record Judges (folder : Option Folder) (words : List (List ℕ)) (old new : Option (List ℕ)) : Type 0 where
  pub steps : ℕ
  pub image : Contents
  pub script : List ℕ
  pub command : command_of words ≡ Some (Secret steps)
  pub image_file : Holds folder image_in (command_word words 1) (Ok image)
  pub script_file : Holds folder script_in (command_word words 2) (Ok script)
  pub writes : new ≡ wrote old (judged_text image steps script)
