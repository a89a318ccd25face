use Rattle.std.proofs.Common.{◌≡◌, ◌+◌, ◌-◌, ◌*◌, ◌≤◌, length}
use Rattle.image_file.specs.Made.{made_code}
use Rattle.image_file.proofs.Pieces.{code_left}
use Rattle.image_file.proofs.made.code_len.Given as goal

-- what is counted and the code that is left are the whole code
abbrev pub invariant-loop : goal.invariant-loop
invariant-loop l = record {
  whole : l.len + length (code_left (4096 - l.counter) l.generator.number) ≡ length (made_code l.n);
  few : l.len ≤ 1 + 8 * l.counter;
}
