-- One exit of a vCPU, and what it hears.
use Rattle.std.specs.Prelude.{ℕ}
use Rattle.page_words.specs.Dialogue.{Dialogue, say}
use Rattle.image_file.specs.Image.{Contents}
use Rattle.vcpu_core.specs.State.{State}
use Rattle.vcpu_core.specs.Running.{state_advanced, items_said}
use Rattle.vcpu_core.specs.Resuming.{resuming}

-- it goes to its next exit or its end, and hears what it waits for
abbrev pub turn_dialogue : Contents → ℕ → State → Dialogue State
turn_dialogue image budget s = say (items_said budget s) (resuming image (state_advanced budget s))
