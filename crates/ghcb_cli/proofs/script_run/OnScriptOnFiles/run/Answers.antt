use Rattle.std.proofs.Common.{◌≡◌, List, ℕ, inl, refl, ap, subst, ◌∙◌}
use Rattle.answered_runs.specs.Answered.{answered_text, IsAnswered}
use Rattle.ghcb_cli.specs.declared.commands.Ending.TheVariants as ending
use Rattle.ghcb_cli.specs.Ending.{PutsAs}
use Rattle.ghcb_cli.proofs.Endings.{answered_ends}
use Rattle.ghcb_cli.proofs.script_run.OnScriptOnFiles.run.Goals as goal

pub returns : goal.returns
returns g c =
    let image = c.args.image.now in
    let steps = c.args.self.now.steps in
    let finished = c.in-Ok.answered.finished in
    let heard = c.in-Ok.answered.heard in
    let done = ending.Answered finished heard in
    let script : c.new-page.result ≡ c.args.script.items = c.new-page.ensures.words in
    let text : c.deref.result.now ≡ answered_text image steps c.args.script.items =
    c.deref.ensures.value ∙ c.in-Ok.ensures.text_ahead ∙ ap (λ (w : List ℕ). answered_text image steps w) script in
    let out = g.S.Sink.told in
    record {
      ends = λ words old new command first second.
          answered_ends words _ _ _ _ _ _ command refl first second
          (inl (
            done,
            subst (λ (w : List ℕ). IsAnswered image steps w finished heard.items) script c.in-Ok.ensures.answered_ahead,
            subst (λ (t : List ℕ). PutsAs done t (out c.args.out.now) (out c.put.new.out) c.put.result) text c.put.ensures.ends,
          ));
    }
