-- The command `plain`.
use Rattle.std.specs.Prelude.{◌≡◌, ℕ, List, Option, Some, Ok}
use Rattle.image_file.specs.Image.{Contents}
use Rattle.event_table.specs.declared.turn.Finished.{Finished}
use Rattle.run_io.specs.Outside.{wrote}
use Rattle.plain_machine.specs.Ran.{RanPlain}
use Rattle.ghcb_cli.specs.declared.command.Command.TheVariants.{Plain}
use Rattle.ghcb_cli.specs.Command.{command_of, command_word}
use Rattle.ghcb_cli.specs.Files.{Folder, Holds, image_in, input_in}

-- The run of an image over an input with the devices alone, which are those of the files that the words name where the folder
-- is told: its console was written.
pub record RunsPlain (folder : Option Folder) (words : List (List ℕ)) (f : Finished) (old new : Option (List ℕ)) : Type 0 where
  pub steps : ℕ
  pub image : Contents
  pub input : List ℕ
  pub command : command_of words ≡ Some (Plain steps)
  pub image_file : Holds folder image_in (command_word words 1) (Ok image)
  pub input_file : Holds folder input_in (command_word words 2) (Ok input)
  pub console : List ℕ
  pub ran : RanPlain image steps input f console
  pub writes : new ≡ wrote old console
