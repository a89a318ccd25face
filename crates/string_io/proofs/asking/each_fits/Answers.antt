use Rattle.std.proofs.Common.{arith}
use Rattle.string_io.proofs.asking.each_fits.Goals as goal

pub returns : goal.returns
returns c = record { fits = λ k h. omega (arith, c.type_inv.bytes k) }
