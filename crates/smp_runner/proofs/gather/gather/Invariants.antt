use Rattle.std.proofs.Common.{◌≡◌, ◌+◌, vec_len}
use Rattle.smp_runner.specs.Jobs.{AllFinished, HasGathered}
use Rattle.smp_runner.proofs.gather.gather.Given as goal

-- the first passes are joined, and the others are there
abbrev pub invariant-loop-i : goal.invariant-loop-i
invariant-loop-i g l = record {
  len : vec_len l.done ≡ vec_len l.initial.done;
  done : AllFinished l.lock l.image l.budget l.i l.done.items;
  gathered : HasGathered l.lock l.image l.budget l.i l.all l.steps.items l.ends.items;
  share : l.all.view.share + vec_len l.done ≡ 1024 + l.i;
}
