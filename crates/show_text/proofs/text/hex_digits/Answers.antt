use Rattle.std.proofs.Common.{rules}
use Rattle.show_text.specs.Number.{hex_text}
use Rattle.show_text.proofs.text.hex_digits.Goals as goal

pub returns : goal.returns
unfolding hex_text
returns c = search rules
