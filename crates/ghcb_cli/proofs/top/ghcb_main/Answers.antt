use Rattle.std.proofs.Common.{◌≡◌, ℕ, Option, Some, map, refl, sym, ◌∙◌, subst}
use Rattle.std.specs.String.{string_bytes}
use Rattle.ghcb_cli.specs.declared.commands.Ending.TheVariants as ending
use Rattle.event_table.specs.declared.turn.Finished.{Finished}
use Rattle.ghcb_cli.specs.declared.command.Command.{Command}
use Rattle.ghcb_cli.specs.declared.command.Command.TheVariants.{Run, Plain, Hostile, Live, Secret, Make}
use Rattle.ghcb_cli.specs.MakeCommand.{RunsMade}
use Rattle.ghcb_cli.specs.Said.{says_refused}
use Rattle.ghcb_cli.proofs.Answering.{no_reading, shown_is, to_end}
use Rattle.ghcb_cli.proofs.Endings.{certain, end_complete, memory_complete}
use Rattle.ghcb_cli.proofs.top.ghcb_main.Goals as goal

pub returns-in-Shown-clause-ended : goal.returns-in-Shown-clause-ended
returns-in-Shown-clause-ended g c = λ zero. shown_is _ (map string_bytes c.args.words.now) c.in-Shown.ensures.ends.text c.in-Shown.ensures.ends.reads

pub returns-in-Shown-clause-complete : goal.returns-in-Shown-clause-complete
returns-in-Shown-clause-complete g c =
    let words = map string_bytes c.args.words.now in
    let to_end = shown_is (g.F.Files.told c.args.files.now).folder words c.in-Shown.ensures.ends.text c.in-Shown.ensures.ends.reads in
    λ read written. end_complete _ words 0 _ to_end c.without_run-in-Shown.ensures.status

pub returns-in-OutOfMemory-clause-complete : goal.returns-in-OutOfMemory-clause-complete
returns-in-OutOfMemory-clause-complete g c =
    λ read written. memory_complete _ (map string_bytes c.args.words.now) _ c.without_run-in-OutOfMemory.ensures.status

pub returns-in-Shown-clause-certain : goal.returns-in-Shown-clause-certain
returns-in-Shown-clause-certain g c = certain _ _ _ ending.Shown _ c.in-Shown.ensures.ends c.without_run-in-Shown.ensures.status

pub returns-in-WriteFault-clause-certain : goal.returns-in-WriteFault-clause-certain
returns-in-WriteFault-clause-certain g c = certain _ _ _ ending.WriteFault _ c.in-WriteFault.ensures.ends c.without_run-in-WriteFault.ensures.status

pub returns-in-OutOfMemory-clause-certain : goal.returns-in-OutOfMemory-clause-certain
returns-in-OutOfMemory-clause-certain g c = certain _ _ _ ending.OutOfMemory _ c.in-OutOfMemory.ensures.ends c.without_run-in-OutOfMemory.ensures.status

pub returns-in-ReadFault-clause-certain : goal.returns-in-ReadFault-clause-certain
returns-in-ReadFault-clause-certain g c = certain _ _ _ ending.ReadFault _ c.in-ReadFault.ensures.ends c.without_run-in-ReadFault.ensures.status

pub returns-in-Made-clause-complete : goal.returns-in-Made-clause-complete
returns-in-Made-clause-complete g c =
    λ read written. end_complete _ (map string_bytes c.args.words.now) 0 _ c.in-Made.ensures.ends.is_end c.with_run-in-Made.ensures.status

pub returns-in-Made-clause-certain : goal.returns-in-Made-clause-certain
returns-in-Made-clause-certain g c = certain _ _ _ (ending.Made c.in-Made.finished) _ c.in-Made.ensures.ends c.with_run-in-Made.ensures.status

pub returns-in-Done-clause-complete : goal.returns-in-Done-clause-complete
returns-in-Done-clause-complete g c =
    λ read written. end_complete _ (map string_bytes c.args.words.now) 0 _ c.in-Done.ensures.ends.is_end c.with_run.ensures.status

pub returns-in-Done-clause-certain : goal.returns-in-Done-clause-certain
returns-in-Done-clause-certain g c = certain _ _ _ (ending.Done c.in-Done.finished) _ c.in-Done.ensures.ends c.with_run.ensures.status

pub returns-in-Answered-clause-complete : goal.returns-in-Answered-clause-complete
returns-in-Answered-clause-complete g c =
    λ read written. end_complete _ (map string_bytes c.args.words.now) 0 _ c.in-Answered.ensures.ends.is_end c.with_run-in-Answered.ensures.status

pub returns-in-Answered-clause-certain : goal.returns-in-Answered-clause-certain
returns-in-Answered-clause-certain g c = certain _ _ _ (ending.Answered c.in-Answered.finished c.in-Answered.heard) _ c.in-Answered.ensures.ends c.with_run-in-Answered.ensures.status

pub returns-in-Judged-clause-complete : goal.returns-in-Judged-clause-complete
returns-in-Judged-clause-complete g c =
    λ read written. end_complete _ (map string_bytes c.args.words.now) 0 _ c.in-Judged.ensures.ends.is_end c.without_run.ensures.status

pub returns-in-Judged-clause-certain : goal.returns-in-Judged-clause-certain
returns-in-Judged-clause-certain g c = certain _ _ _ ending.Judged _ c.in-Judged.ensures.ends c.without_run.ensures.status

pub returns-in-Heard-clause-complete : goal.returns-in-Heard-clause-complete
returns-in-Heard-clause-complete g c =
    λ read written. end_complete _ (map string_bytes c.args.words.now) 0 _ c.in-Heard.ensures.ends.is_end c.with_run-in-Heard.ensures.status

pub returns-in-Heard-clause-certain : goal.returns-in-Heard-clause-certain
returns-in-Heard-clause-certain g c = certain _ _ _ (ending.Heard c.in-Heard.finished c.in-Heard.heard) _ c.in-Heard.ensures.ends c.with_run-in-Heard.ensures.status

pub returns-in-Refused-clause-complete : goal.returns-in-Refused-clause-complete
returns-in-Refused-clause-complete g c =
    let words = map string_bytes c.args.words.now in
    λ read written.
    end_complete _ words 3 _ (to_end _ words (says_refused c.in-Refused.refused) c.in-Refused.ensures.ends.first)
    c.without_run-in-Refused.ensures.status

pub returns-in-Refused-clause-certain : goal.returns-in-Refused-clause-certain
returns-in-Refused-clause-certain g c =
    certain _ _ _ (ending.Refused c.in-Refused.refused) _ c.in-Refused.ensures.ends c.without_run-in-Refused.ensures.status

pub returns-in-Done-clause-made : goal.returns-in-Done-clause-made
returns-in-Done-clause-made g c = λ number command zero telling.
    let ran = c.in-Done.ensures.ends in
    let wrong : Some (Run ran.steps ran.report) ≡ Some (Make number) = sym ran.command ∙ command in cc

pub returns-in-Plain-clause-made : goal.returns-in-Plain-clause-made
returns-in-Plain-clause-made g c = λ number command zero telling.
    let ran = c.in-Plain.ensures.ends in
    let wrong : Some (Plain ran.steps) ≡ Some (Make number) = sym ran.command ∙ command in cc

pub returns-in-Answered-clause-made : goal.returns-in-Answered-clause-made
returns-in-Answered-clause-made g c = λ number command zero telling.
    let ran = c.in-Answered.ensures.ends in
    let wrong : Some (Hostile ran.steps) ≡ Some (Make number) = sym ran.command ∙ command in cc

pub returns-in-Judged-clause-made : goal.returns-in-Judged-clause-made
returns-in-Judged-clause-made g c = λ number command zero telling.
    let ran = c.in-Judged.ensures.ends in
    let wrong : Some (Secret ran.steps) ≡ Some (Make number) = sym ran.command ∙ command in cc

pub returns-in-Heard-clause-made : goal.returns-in-Heard-clause-made
returns-in-Heard-clause-made g c = λ number command zero telling.
    let ran = c.in-Heard.ensures.ends in
    let wrong : Some (Live ran.seed ran.steps) ≡ Some (Make number) = sym ran.command ∙ command in cc

pub returns-in-Made-clause-made : goal.returns-in-Made-clause-made
returns-in-Made-clause-made g c = λ number command zero telling.
    let words = map string_bytes c.args.words.now in
    let after = g.H.Host.told c.ending_of.new.host in
    let old = (g.S.Sink.told c.args.out.now).written in
    let new = (g.S.Sink.told c.ending_of.new.out).written in
    subst (λ (f : Finished). RunsMade words f after old new) (sym c.with_run-in-Made.ensures.finished) (c.in-Made.ensures.ends.ran telling)

pub returns-in-Shown-clause-made : goal.returns-in-Shown-clause-made
returns-in-Shown-clause-made g c = λ number command zero telling.
    let shown = c.in-Shown.ensures.ends in
    no_reading (map string_bytes c.args.words.now) (Make number) shown.text (λ digits. refl) command shown.reads

pub returns-in-Usage-clause-made : goal.returns-in-Usage-clause-made
returns-in-Usage-clause-made g c = λ number command zero telling.
    let wrong : 2 ≡ 0 = sym c.without_run-in-Usage.ensures.status ∙ zero in cc

pub returns-in-Refused-clause-made : goal.returns-in-Refused-clause-made
returns-in-Refused-clause-made g c = λ number command zero telling.
    let wrong : 3 ≡ 0 = sym c.without_run-in-Refused.ensures.status ∙ zero in cc

pub returns-in-ReadFault-clause-made : goal.returns-in-ReadFault-clause-made
returns-in-ReadFault-clause-made g c = λ number command zero telling.
    let wrong : 4 ≡ 0 = sym c.without_run-in-ReadFault.ensures.status ∙ zero in cc

pub returns-in-WriteFault-clause-made : goal.returns-in-WriteFault-clause-made
returns-in-WriteFault-clause-made g c = λ number command zero telling.
    let wrong : 5 ≡ 0 = sym c.without_run-in-WriteFault.ensures.status ∙ zero in cc

pub returns-in-OutOfMemory-clause-made : goal.returns-in-OutOfMemory-clause-made
returns-in-OutOfMemory-clause-made g c = λ number command zero telling.
    let wrong : 6 ≡ 0 = sym c.without_run-in-OutOfMemory.ensures.status ∙ zero in cc
