use Rattle.std.proofs.Common.{◌-◌, arith}
use Rattle.std.proofs.lemmas.Grind.{common_steps}
use Rattle.ghcb_layout.proofs.OneBit.{with_one_same, with_one_other}
use Rattle.ghcb_layout.proofs.bitmap.Bitmap.with.Goals as goal

pub returns-then-bit-lt64-clause-sets : goal.returns-then-bit-lt64-clause-sets
returns-then-bit-lt64-clause-sets c = record {
  bit = grind (arith, common_steps, with_one_same c.args.self.now.low c.args.bit);
  others = λ j below other. grind (arith, common_steps, with_one_other c.args.self.now.low c.args.bit j other);
}

pub returns-else-bit-lt64-clause-sets : goal.returns-else-bit-lt64-clause-sets
returns-else-bit-lt64-clause-sets c = record {
  bit = grind (arith, common_steps, with_one_same c.args.self.now.high (c.args.bit - 64));
  others = λ j below other. grind (arith, common_steps, with_one_other c.args.self.now.high (c.args.bit - 64) (j - 64));
}
