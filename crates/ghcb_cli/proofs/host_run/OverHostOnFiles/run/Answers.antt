use Rattle.std.proofs.Common.{inl}
use Rattle.ghcb_cli.proofs.Endings.{ran_ends}
use Rattle.ghcb_cli.proofs.host_run.OverHostOnFiles.run.Goals as goal

pub returns : goal.returns
returns g c = record {
  ends = λ words old new command first second.
      ran_ends words _ _ _ _ _ _ _ command first second
      (inl (
        c.in-Ok.finished,
        c.console.result.now,
        record { ran = c.in-Ok.ensures.ran; shown = c.console.ensures.bytes },
        c.write_run.ensures.ends,
      ));
}
