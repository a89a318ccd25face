use Rattle.std.proofs.Common.{◌≡◌, List, ℕ, inl, refl, ap, subst, ◌∙◌}
use Rattle.secret_labels.specs.Following.{labelled}
use Rattle.verdict_text.specs.Verdict.{verdict_text}
use Rattle.ghcb_cli.specs.declared.commands.Ending.TheVariants as ending
use Rattle.ghcb_cli.specs.Ending.{PutsAs}
use Rattle.ghcb_cli.specs.Said.{judged_text}
use Rattle.ghcb_cli.proofs.Endings.{judged_ends}
use Rattle.ghcb_cli.proofs.secret_run.WithLabelsOnFiles.run.Goals as goal

pub returns : goal.returns
returns g c =
    let image = c.args.image.now in
    let steps = c.args.self.now.steps in
    let out = g.S.Sink.told in
    let script : c.new.result ≡ c.args.script.items = c.new.ensures.words in
    let text : c.as_bytes.result.now ≡ judged_text image steps c.args.script.items =
    c.as_bytes.ensures.value ∙ c.verdict_text.ensures.text ∙ ap verdict_text c.in-Ok.ensures.ahead
    ∙ ap (λ (w : List ℕ). verdict_text (labelled image steps w)) script in
    record {
      ends = λ words old new command first second.
          judged_ends words _ _ _ _ _ _ command refl first second
          (inl (subst (λ (t : List ℕ). PutsAs ending.Judged t (out c.args.out.now) (out c.put.new.out) c.put.result) text c.put.ensures.ends));
    }
