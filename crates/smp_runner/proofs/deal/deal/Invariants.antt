use Rattle.std.proofs.Common.{◌≡◌, ◌+◌, vec_len}
use Rattle.smp_runner.specs.Jobs.{AreDealt, HasNoEntries}
use Rattle.smp_runner.proofs.deal.deal.Given as goal

-- so many passes are split
abbrev pub invariant-loop-number : goal.invariant-loop-number
invariant-loop-number g l = record {
  all : HasNoEntries l.lock l.all;
  share : l.all.view.share + l.number ≡ 1024;
  len : vec_len l.jobs ≡ l.number;
  dealt : AreDealt l.lock l.jobs.items;
}
