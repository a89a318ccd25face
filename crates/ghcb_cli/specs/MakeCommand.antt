-- The command `make`.
use Rattle.std.specs.Prelude.{◌≡◌, ℕ, List, [], Option, Some, length}
use Rattle.image_file.specs.Made.{made_code, made_contents}
use Rattle.event_table.specs.declared.turn.Finished.{Finished}
use Rattle.host_events.specs.Hosting.{Hosting}
use Rattle.report_text.specs.Summary.{summary_text}
use Rattle.run_io.specs.Outside.{wrote}
use Rattle.round_runner.specs.Ran.{RanRounds}
use Rattle.ghcb_cli.specs.declared.command.Command.TheVariants.{Make}
use Rattle.ghcb_cli.specs.Command.{command_of}

-- the steps of each vCPU
abbrev pub make_steps : ℕ
make_steps = 65536

-- the summary of a run of the image that a number makes, which put out these bytes
abbrev pub made_summary : ℕ → Finished → List ℕ → List ℕ
made_summary number f console = summary_text number (length (made_code number)) (length f.order.items) console

-- The run of the image that the number among the words makes, over no input and in rounds, with its summary written.
pub record RunsMade (words : List (List ℕ)) (f : Finished) (h : Hosting) (old new : Option (List ℕ)) : Type 0 where
  pub number : ℕ
  pub command : command_of words ≡ Some (Make number)
  pub ran : RanRounds (made_contents number) make_steps [] f h
  pub writes : new ≡ wrote old (made_summary number f ran.ran.machine.devices.console)
