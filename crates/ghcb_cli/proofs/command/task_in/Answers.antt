use Rattle.std.proofs.Common.{rules}
use Rattle.std.specs.String.{string_bytes}
use Rattle.ghcb_cli.proofs.Grammar.{too_few, too_many}
use Rattle.ghcb_cli.proofs.command.task_in.Goals as goal
use Rattle.ghcb_cli.proofs.command.task_in.Goals.{in_default-via-then-words-lt2, in_default-via-else-words-lt2+else-words-lt3+else-words-lt4+else-words-lt5+else-words-lt6}

pub returns-in_default-clause-command : goal.returns-in_default-clause-command
returns-in_default-clause-command c = elim c.in_default.branch [
  | in_default-via-then-words-lt2 w ↦ too_few string_bytes c.args.words.now (search rules)
  | in_default-via-else-words-lt2+else-words-lt3+else-words-lt4+else-words-lt5+else-words-lt6 w ↦ too_many string_bytes c.args.words.now (search rules)
]
