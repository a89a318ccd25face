use Rattle.std.proofs.Common.{append_assoc}
use Rattle.show_text.proofs.text.Text.push_three_digits.Goals as goal

pub returns-clause-text : goal.returns-clause-text
returns-clause-text c = rw (c.push_byte-3.ensures, c.push_byte-2.ensures, c.push_byte.ensures) (simp append_assoc)
