use Rattle.std.proofs.Common.{List, ℕ, inl, refl, subst}
use Rattle.ghcb_cli.specs.declared.commands.Ending.TheVariants as ending
use Rattle.ghcb_cli.specs.Ending.{PutsAs}
use Rattle.ghcb_cli.proofs.Endings.{plain_ends}
use Rattle.ghcb_cli.proofs.plain_run.OverDevicesOnFiles.run.Goals as goal

pub returns : goal.returns
returns g c =
    let done = c.in-Ok.done in
    let out = g.S.Sink.told in
    record {
      ends = λ words old new command first second.
          plain_ends words _ _ _ _ _ _ command refl first second
          (inl (
            done.finished,
            done.console.items,
            c.in-Ok.ensures.ran,
            subst (λ (t : List ℕ). PutsAs (ending.Plain done.finished) t (out c.args.out.now) (out c.put.new.out) c.put.result) c.deref.ensures.value c.put.ensures.ends,
          ));
    }
