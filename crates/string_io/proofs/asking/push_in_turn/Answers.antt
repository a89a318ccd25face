use Rattle.std.proofs.Common.{ℕ, ◌+◌, ◌-◌, length, ap, arith, append_assoc, length-append}
use Rattle.string_io.proofs.Runs.{bytes_more}
use Rattle.string_io.proofs.asking.push_in_turn.Goals as goal

pub loop-i-preserved : goal.loop-i-preserved
loop-i-preserved c =
    let e = bytes_more (c.args.len - c.loop-i.i) (c.args.len - (c.loop-i.i + 1)) c.loop-i.rest (omega arith) in
    record {
      room = omega (arith, ap length c.push.ensures.appended, length-append {A = ℕ});
      whole = rw (c.push.ensures.appended, append_assoc) (rw e at c.loop-i.invariant.whole);
    }
