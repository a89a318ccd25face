use Rattle.std.proofs.Common.{◌≤◌, ◌+◌, ◌-◌}
use Rattle.run_io.specs.Outside.{AreRead}
use Rattle.run_io.specs.Reading.{IsReading}
use Rattle.run_io.proofs.whole_file.read_whole.Given as goal

-- the first bytes of the file are in the buffer
abbrev pub invariant-reads : goal.invariant-reads
invariant-reads g l = record {
  read : AreRead (g.F.Files.told l.fn.files) (g.F.Files.told l.files);
  more : l.filled ≤ l.limit;
  reading : IsReading (g.F.Files.told l.fn.files).folder l.name l.limit l.filled l.buffer.items;
}

abbrev pub decreases-reads : goal.decreases-reads
decreases-reads g l = l.limit + 1 - l.filled
