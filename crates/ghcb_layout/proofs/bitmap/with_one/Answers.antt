use Rattle.std.proofs.lemmas.Nat.{one_shl}
use Rattle.ghcb_layout.proofs.OneBit.{or-with_one}
use Rattle.ghcb_layout.proofs.bitmap.with_one.Goals as goal

pub returns : goal.returns
returns c = rw (one_shl c.args.bit 64 c.requires) (or-with_one c.args.word c.args.bit)
