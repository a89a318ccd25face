use Rattle.std.proofs.Common.{◌-◌, [], ◌∷◌, ◌++◌, arith}
use Rattle.image_file.proofs.Pieces.{code_left, written_all, written_more}
use Rattle.image_file.proofs.made.write_code.Goals as goal

pub loop-preserved : goal.loop-preserved
loop-preserved c =
    written_more 4096 c.loop.counter c.loop.generator.number c.next_piece.new.self.number c.next_piece.result
    c.loop.file.items c.write.new.file.items (c.args.file.now.items ++ code_left 4096 c.args.n) c.loop-test.true
    c.next_piece.ensures.step c.next_piece.ensures.piece c.in_ok-write.ensures.appended c.loop.invariant

pub returns : goal.returns
returns c =
    record {
      appended =
          written_all (4096 - c.loop.counter) c.loop.generator.number c.loop.file.items c.push.new.self.items
          c.args.file.now.items (code_left 4096 c.args.n) (0xF4 ∷ []) (omega arith)
          c.in_ok-push.ensures.items c.loop.invariant;
    }
