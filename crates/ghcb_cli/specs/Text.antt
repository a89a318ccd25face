-- The programs' texts.
use Rattle.std.specs.Prelude.{ℕ, List, ◌++◌, codes}
use Rattle.show_text.specs.Number.{labelled, line_end}
use Rattle.image_file.specs.Fault.{fault_number}
use Rattle.ghcb_cli.specs.declared.text.Refused.{Refused}
use Rattle.ghcb_cli.specs.declared.text.Refused.TheVariants.{ImageLimit, Image, InputLimit, ScriptLimit, ScriptLine}

abbrev pub usage : List ℕ
usage = codes "usage: ghcb_run run|plain|hostile|live|secret|show|make\n"

abbrev pub smp_usage : List ℕ
smp_usage = codes "usage: ghcb_smp IMAGE INPUT STEPS\n"

-- what is refused: a limit, an image by the number of its first broken rule, or a script by the number of its first bad line
abbrev pub what_of : Refused → List ℕ
what_of ImageLimit = codes "image limit"
what_of (Image fault) = labelled (codes "image ") (fault_number fault)
what_of InputLimit = codes "input limit"
what_of ScriptLimit = codes "script limit"
what_of (ScriptLine line) = labelled (codes "script line ") line

abbrev pub line_of : Refused → List ℕ
line_of refused = codes "refused " ++ what_of refused ++ line_end
