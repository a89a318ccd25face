-- The program `ghcb_smp`: its words, and what it is to say.
use Rattle.std.specs.Prelude.{ℕ, ◌==◌, ◌&&◌, not, if◌then◌else◌, List, [], ◌∷◌, length, Option, Some, None}
use Rattle.image_file.specs.Image.{Contents}
use Rattle.event_table.specs.declared.turn.Turn.{Turn}
use Rattle.plain_machine.specs.Plain.{Machine, plain_run}
use Rattle.ghcb_cli.specs.Command.{command_word, decimal_of, most_steps}
use Rattle.ghcb_cli.specs.Files.{Folder, run_parts}
use Rattle.ghcb_cli.specs.Said.{Said, Making, said_of_files}
use Rattle.ghcb_cli.specs.Text.{smp_usage}

-- The grammar: `IMAGE INPUT STEPS`, two names that aren't empty and 1 to 2,097,152 steps.
abbrev pub smp_steps : List (List ℕ) → Option ℕ
smp_steps (image ∷ input ∷ steps ∷ []) =
    if not (length image == 0) && not (length input == 0) then decimal_of 1 most_steps steps else None
smp_steps _ = None

-- what a plain run put out; nothing where there is no run
abbrev pub console_of : Option Machine → List ℕ
console_of (Some machine) = machine.devices.console
console_of None = []

-- the plain machine's output in the order of these turns
abbrev pub output_along : List Turn → Contents → ℕ → List ℕ → List ℕ
output_along order image steps input = console_of (plain_run image steps input order)

abbrev pub running_along : List Turn → ℕ → Making
running_along order steps = record { parts = run_parts; text = λ image input. output_along order image steps input }

abbrev pub says_smp_usage : Said
says_smp_usage = record { status = 2; refused = None; text = smp_usage }

abbrev pub smp_said_by : List Turn → Option (List ℕ) → Option (List ℕ) → Option ℕ → Option Said
smp_said_by order image input (Some steps) = said_of_files (running_along order steps) image input
smp_said_by order image input None = Some says_smp_usage

-- What the program is to say where the devices are accessed in this order: the words first, then the image's limit and form, then
-- the input's limit, then the output of the run. The order matters to the output alone. There is none where a file that is read
-- is absent.
abbrev pub smp_said : List Turn → Folder → List (List ℕ) → Option Said
smp_said order folder words =
    smp_said_by order (folder (command_word words 0)) (folder (command_word words 1)) (smp_steps words)
