use Rattle.std.proofs.Common.{List, ℕ, ap, ◌∙◌}
use Rattle.run_io.specs.Outside.{wrote}
use Rattle.ghcb_cli.proofs.SmpEndings.{ran_output}
use Rattle.ghcb_cli.proofs.smp_run.run_and_write.Goals as goal

pub returns-in-Ok-put-clause-ran : goal.returns-in-Ok-put-clause-ran
returns-in-Ok-put-clause-ran g c =
    let ran = c.in-Ok.ensures.ran in
    let old = (g.S.Sink.told c.args.out.now).written in
    let output = ran_output c.args.image.now c.args.steps c.args.input.items c.in-Ok.finished (g.H.Host.told c.in-Ok.host) c.console.result.now ran c.console.ensures.bytes in
    (ran, c.in-Ok-put.ensures.ok ∙ ap (λ (text : List ℕ). wrote old text) output)
