use Rattle.std.proofs.Common.{◌≡◌, ◌+◌}
use Rattle.std.specs.Prelude.{drop, sum}
use Rattle.report_text.proofs.summary.sum_of.Given as goal

-- the sum so far and that of the bytes that are left are that of all
abbrev pub invariant-loop-byte : goal.invariant-loop-byte
invariant-loop-byte l = l.total + sum (drop l.byte-index l.bytes) ≡ sum l.bytes
