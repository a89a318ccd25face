use Rattle.std.proofs.Common.{rules, ◌≡◌, ℕ, List, Some, None, Ok, map, refl, subst}
use Rattle.std.specs.String.{string_bytes}
use Rattle.ghcb_cli.specs.declared.smp_run.Unfinished.TheVariants as unfinished
use Rattle.ghcb_cli.specs.Command.{command_word}
use Rattle.ghcb_cli.specs.Files.{Holds, AreRefused, AreUnread, run_parts, image_in, input_in}
use Rattle.ghcb_cli.specs.SmpCommand.{smp_steps}
use Rattle.ghcb_cli.specs.SmpEnding.{PutsLine}
use Rattle.ghcb_cli.specs.Unready.{Explains}
use Rattle.ghcb_cli.proofs.SmpEndings.{run_ends, unready_ends, unrun_ends, usage_ends}
use Rattle.ghcb_cli.proofs.smp_run.run_words.Goals as goal

pub returns-in_default-clause-unfinished : goal.returns-in_default-clause-unfinished
returns-in_default-clause-unfinished g c =
    let none : smp_steps (map string_bytes c.args.words.now) ≡ None = search rules in
    usage_ends _ _ _ _ _ _ none refl
    (subst (λ (line : List ℕ). PutsLine unfinished.Usage line (g.S.Sink.told c.args.out.now) (g.S.Sink.told c.put_line.new.out) c.put_line.result) c.smp_usage.ensures.text c.put_line.ensures.puts)

pub returns-in-Ok-clause-ran : goal.returns-in-Ok-clause-ran
returns-in-Ok-clause-ran g c =
    let words = map string_bytes c.args.words.now in
    let task = c.in-Some.task in
    let folder = (g.F.Files.told c.args.files.now).folder in
    let command : smp_steps words ≡ Some task.steps = search rules in
    let first = subst (λ (name : List ℕ). Holds folder image_in name (Ok c.in-Ok.image)) c.in-Some.ensures.image c.in-Ok.ensures.image in
    let second = subst (λ (name : List ℕ). Holds folder input_in name (Ok c.in-Ok.input.items)) c.in-Some.ensures.input c.in-Ok.ensures.second in
    run_ends g.H.Host.told words task.steps c.in-Ok.image c.in-Ok.input.items folder _ _ c.run_and_write.result command first second c.run_and_write.ensures.legal c.run_and_write.ensures.ran

pub returns-in-Ok-clause-unfinished : goal.returns-in-Ok-clause-unfinished
returns-in-Ok-clause-unfinished g c =
    let words = map string_bytes c.args.words.now in
    let task = c.in-Some.task in
    let folder = (g.F.Files.told c.args.files.now).folder in
    let command : smp_steps words ≡ Some task.steps = search rules in
    let first = subst (λ (name : List ℕ). Holds folder image_in name (Ok c.in-Ok.image)) c.in-Some.ensures.image c.in-Ok.ensures.image in
    let second = subst (λ (name : List ℕ). Holds folder input_in name (Ok c.in-Ok.input.items)) c.in-Some.ensures.input c.in-Ok.ensures.second in
    unrun_ends words task.steps c.in-Ok.image c.in-Ok.input.items (g.F.Files.told c.args.files.now) (g.F.Files.told c.read_both.new.files) _ _ c.run_and_write.result command first second
    c.run_and_write.ensures.unfinished

pub returns-in-Err-clause-unfinished : goal.returns-in-Err-clause-unfinished
returns-in-Err-clause-unfinished g c =
    let words = map string_bytes c.args.words.now in
    let task = c.in-Some.task in
    let old = g.F.Files.told c.args.files.now in
    let new = g.F.Files.told c.read_both.new.files in
    let command : smp_steps words ≡ Some task.steps = search rules in
    let refused = subst (λ (name : List ℕ). Explains c.in-Err.unready (λ r. AreRefused run_parts old.folder name task.input.now r) (AreUnread run_parts name task.input.now old new)) c.in-Some.ensures.image c.in-Err.ensures.refused in
    unready_ends words task.steps c.in-Err.unready old new _ _ _ command
    (subst (λ (name : List ℕ). Explains c.in-Err.unready (λ r. AreRefused run_parts old.folder (command_word words 0) name r) (AreUnread run_parts (command_word words 0) name old new)) c.in-Some.ensures.input refused)
    c.report.ensures.reports
