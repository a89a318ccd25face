use Rattle.std.proofs.Common.{◌≡◌, ◌≤◌, ◌+◌, ◌-◌, arith}
use Rattle.std.proofs.lemmas.Nat.{and_mask}
use Rattle.std.proofs.lemmas.Nat.Bits.{ones_shr}
use Rattle.word_bits.proofs.number_in_bits.Goals as goal

pub returns : goal.returns
returns c =
    let within : 63 + c.args.low - c.args.high ≤ 64 = omega arith in
    let width : 64 - (63 + c.args.low - c.args.high) ≡ c.args.high + 1 - c.args.low = omega arith in
    record { value = rw (ones_shr 64 (63 + c.args.low - c.args.high) within, width, and_mask) }
