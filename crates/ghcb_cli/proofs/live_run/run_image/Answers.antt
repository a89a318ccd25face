use Rattle.std.proofs.Common.{◌≡◌, List, ℕ, inl, refl, subst, ◌∙◌}
use Rattle.answered_runs.specs.Answered.{answered_text}
use Rattle.ghcb_cli.specs.declared.commands.Ending.TheVariants as ending
use Rattle.ghcb_cli.specs.Ending.{PutsAs}
use Rattle.ghcb_cli.proofs.live_run.run_image.Goals as goal

pub returns : goal.returns
returns g c =
    let done = ending.Heard c.in-Ok.answered.finished c.in-Ok.answered.heard in
    let heard = c.in-Ok.answered.heard.items in
    let text : c.deref.result.now ≡ answered_text c.args.image.now c.args.steps heard = c.deref.ensures.value ∙ c.in-Ok.ensures.text in
    let out = g.S.Sink.told in
    record {
      ends =
          inl (
            heard,
            done,
            (refl, c.in-Ok.ensures.answered),
            subst (λ (t : List ℕ). PutsAs done t (out c.args.out.now) (out c.put.new.out) c.put.result) text c.put.ensures.ends,
          );
    }
