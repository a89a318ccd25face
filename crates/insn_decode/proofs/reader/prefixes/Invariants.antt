use Rattle.std.proofs.Common.{◌≡◌, length}
use Rattle.insn_decode.specs.Reading.{start, prefixes_at}
use Rattle.insn_decode.proofs.reader.prefixes.Given as goal

abbrev pub invariant-loop-rest : goal.invariant-loop-rest
invariant-loop-rest l = prefixes_at start l.bytes ≡ prefixes_at l.context l.rest

abbrev pub decreases-loop-rest : goal.decreases-loop-rest
decreases-loop-rest l = length l.rest
