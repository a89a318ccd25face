use Rattle.std.proofs.Common.{◌≡◌, ◌-◌, ◌++◌}
use Rattle.image_file.proofs.Pieces.{code_left}
use Rattle.image_file.proofs.made.write_code.Given as goal

-- what is written and the code that is left are the whole code
abbrev pub invariant-loop : goal.invariant-loop
invariant-loop l =
    l.file.items ++ code_left (4096 - l.counter) l.generator.number ≡ l.initial.file.items ++ code_left 4096 l.n
