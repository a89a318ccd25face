use Rattle.script_file.proofs.Lines.{AreRead}
use Rattle.script_file.proofs.script.read_script.Given as goal

abbrev pub invariant-lines : goal.invariant-lines
invariant-lines l = AreRead l.words.items l.line l.bytes
