-- A command with what its words hold.
use Rattle.std.specs.Prelude.{◌≡◌, ◌≤◌, ℕ, List, Some}
use Rattle.show_text.specs.Digits.{page_of_digits}
use Rattle.ghcb_cli.specs.Command.{most_steps, most_hostile_steps}
use Rattle.ghcb_cli.specs.declared.command.Command.{Command}
use Rattle.ghcb_cli.specs.declared.command.Command.TheVariants as command
use Rattle.ghcb_cli.specs.declared.command.Task.{Task}
use Rattle.ghcb_cli.specs.declared.command.Task.TheVariants as task

-- the command alone
abbrev pub command_in : Task → Command
command_in (task.Run image input steps report) = command.Run steps report
command_in (task.Plain image input steps) = command.Plain steps
command_in (task.Hostile image script steps) = command.Hostile steps
command_in (task.Secret image script steps) = command.Secret steps
command_in (task.Live image seed steps) = command.Live seed steps
command_in (task.ShowPage page) = command.ShowPage
command_in (task.ShowMsr word) = command.ShowMsr word
command_in (task.ShowInfo word) = command.ShowInfo word
command_in (task.Make number) = command.Make number

-- it has what the second and the third word hold
abbrev pub HasWords : List ℕ → List ℕ → Task → Type 0
HasWords first second (task.Run image input steps report) = (image.now ≡ first) × (input.now ≡ second)
HasWords first second (task.Plain image input steps) = (image.now ≡ first) × (input.now ≡ second)
HasWords first second (task.Hostile image script steps) = (image.now ≡ first) × (script.now ≡ second)
HasWords first second (task.Secret image script steps) = (image.now ≡ first) × (script.now ≡ second)
HasWords first second (task.Live image seed steps) = image.now ≡ first
HasWords first second (task.ShowPage page) = page_of_digits second ≡ Some page
HasWords first second (task.ShowMsr word) = Unit {0}
HasWords first second (task.ShowInfo word) = Unit {0}
HasWords first second (task.Make number) = Unit {0}

-- a run has no more steps than the grammar allows
abbrev pub IsWithin : Task → Type 0
IsWithin (task.Run image input steps report) = steps ≤ most_steps
IsWithin (task.Plain image input steps) = steps ≤ most_steps
IsWithin (task.Hostile image script steps) = steps ≤ most_hostile_steps
IsWithin (task.Secret image script steps) = steps ≤ most_hostile_steps
IsWithin (task.Live image seed steps) = steps ≤ most_hostile_steps
IsWithin _ = Unit {0}
