use Rattle.std.proofs.Common.{◌≡◌, ◌≤◌, ◌+◌, ◌*◌}
use Rattle.std.specs.Prelude.{drop}
use Rattle.ghcb_cli.specs.Command.{value_after}
use Rattle.ghcb_cli.proofs.command.value_up_to.Given as goal

-- what is left of the digits makes the whole number of what was read
abbrev pub invariant-loop-digit : goal.invariant-loop-digit
invariant-loop-digit l = record {
  rest : value_after l.value (drop l.digit-index l.text) ≡ value_after 0 l.text;
  bound : l.value ≤ 10 * l.most + 9;
}
