use Rattle.std.proofs.Common.{length, decimal, arith, length-append, ap}
use Rattle.std.proofs.lemmas.Fmt.{length-decimal-le}
use Rattle.show_text.proofs.text.Text.push_number.Goals as goal

pub push_decimal-requires : goal.push_decimal-requires
push_decimal-requires c =
    let short = length-decimal-le 20 c.args.number (omega arith) (omega arith) c.ranges.number.fits in
    omega arith

pub returns-clause-size : goal.returns-clause-size
returns-clause-size c =
    let short = length-decimal-le 20 c.args.number (omega arith) (omega arith) c.ranges.number.fits in
    let sum = length-append c.push_str.new.self (decimal c.args.number) in
    omega (arith, ap length c.push_decimal.ensures)
