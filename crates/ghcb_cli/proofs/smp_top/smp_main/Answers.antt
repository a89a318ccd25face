use Rattle.std.proofs.Common.{map, subst}
use Rattle.std.specs.String.{string_bytes}
use Rattle.ghcb_cli.specs.declared.smp_run.Unfinished.{Unfinished}
use Rattle.ghcb_cli.specs.SmpEnding.{EndsUnfinished}
use Rattle.ghcb_cli.proofs.SmpEndings.{unwritten_in_room}
use Rattle.ghcb_cli.proofs.smp_top.smp_main.Goals as goal

pub returns-in-Err-WriteFault-clause-certain : goal.returns-in-Err-WriteFault-clause-certain
returns-in-Err-WriteFault-clause-certain g c = λ reliable.
    let words = map string_bytes c.args.words.now in
    let files = g.F.Files.told in
    let out = g.S.Sink.told in
    let old = files c.args.files.now in
    let new = files c.run_words.new.files in
    let fails = subst (λ (u : Unfinished). EndsUnfinished words old new (out c.args.out.now) (out c.run_words.new.out) u) c.in-Err-WriteFault.field-0-is c.in-Err-WriteFault.ensures.unfinished in
    unwritten_in_room old.folder words (out c.args.out.now) (out c.run_words.new.out) c.without_run-in-Err-WriteFault.result.status fails
