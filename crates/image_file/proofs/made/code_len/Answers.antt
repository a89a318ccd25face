use Rattle.std.proofs.Common.{◌-◌, length, ap, arith}
use Rattle.image_file.specs.Made.{made_code}
use Rattle.image_file.proofs.Pieces.{counted_more, left_none}
use Rattle.image_file.proofs.made.code_len.Goals as goal

pub loop-preserved : goal.loop-preserved
loop-preserved c =
    record {
      whole =
          counted_more 4096 c.loop.counter c.loop.generator.number c.next_piece.new.self.number c.loop.len
          c.len-len.result (length (made_code c.args.n)) c.next_piece.result c.loop-test.true c.next_piece.ensures.step
          c.next_piece.ensures.piece c.len-len.ensures.value c.loop.invariant.whole;
      few = omega (arith, c.len-len.ensures.few, c.loop.invariant.few);
    }

pub returns-clause-value : goal.returns-clause-value
returns-clause-value c =
    let none = ap length (left_none (4096 - c.loop.counter) c.loop.generator.number (omega arith)) in
    omega (arith, none, c.loop.invariant.whole)
