use Rattle.std.proofs.Common.{◌<◌, arith}
use Rattle.std.specs.Prelude.{drop}
use Rattle.ghcb_cli.specs.Command.{value_after}
use Rattle.ghcb_cli.proofs.Values.{too_great}
use Rattle.ghcb_cli.proofs.command.value_up_to.Goals as goal

pub returns-then-value-most-clause-value : goal.returns-then-value-most-clause-value
returns-then-value-most-clause-value c =
    let above : c.args.most < c.loop-digit.value = omega arith in
    too_great c.loop-digit.value c.args.most (value_after 0 c.args.text.now) (drop c.loop-digit.digit-index c.args.text.now) c.loop-digit.invariant.rest above
