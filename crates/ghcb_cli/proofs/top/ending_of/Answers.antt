use Rattle.std.proofs.Common.{rules, ◌≡◌, ℕ, List, Option, Some, None, map, refl, sym, ap, ◌∙◌, subst}
use Rattle.std.specs.Prelude.{option_map}
use Rattle.std.specs.String.{string_bytes}
use Rattle.page_words.specs.Told.{Kept}
use Rattle.show_text.specs.Page.{page_text}
use Rattle.ghcb_cli.specs.declared.command.Command.TheVariants.{Hostile, Live, Secret, ShowPage, ShowMsr, ShowInfo, Make}
use Rattle.ghcb_cli.specs.declared.command.Task.{Task}
use Rattle.ghcb_cli.specs.declared.command.Task.TheVariants as task
use Rattle.ghcb_cli.specs.declared.commands.Ending.TheVariants as ending
use Rattle.ghcb_cli.specs.Command.{command_of, command_word}
use Rattle.ghcb_cli.specs.Ending.{PutsAs}
use Rattle.ghcb_cli.specs.Task.{HasWords}
use Rattle.ghcb_cli.proofs.Answering.{reading_is}
use Rattle.ghcb_cli.proofs.Endings.{usage_ends, shown_ends, made_ends}
use Rattle.ghcb_cli.proofs.top.ending_of.Goals as goal

pub returns-in-None-clause-ends : goal.returns-in-None-clause-ends
returns-in-None-clause-ends g c =
    let none : command_of (map string_bytes c.args.words.now) ≡ None = search rules in
    usage_ends _ _ _ _ none refl refl
    (subst (λ (text : List ℕ). PutsAs ending.Usage text (g.S.Sink.told c.args.out.now) (g.S.Sink.told c.put.new.out) c.put.result) c.usage.ensures.text c.put.ensures.ends)

pub returns-in-Some-Hostile-clause-ends : goal.returns-in-Some-Hostile-clause-ends
returns-in-Some-Hostile-clause-ends g c =
    let words = map string_bytes c.args.words.now in
    let command : command_of words ≡ Some (Hostile c.in-Some-Hostile.steps) = search rules in
    let has : HasWords (command_word words 1) (command_word words 2) (task.Hostile c.in-Some-Hostile.image c.in-Some-Hostile.script c.in-Some-Hostile.steps) =
    subst (λ (t : Task). HasWords (command_word words 1) (command_word words 2) t) c.in-Some-Hostile.field-0-is c.in-Some-Hostile.ensures.words in
    c.on_files-in-Some-Hostile.ensures.ends words command has.0 has.1

pub returns-in-Some-Live-clause-ends : goal.returns-in-Some-Live-clause-ends
returns-in-Some-Live-clause-ends g c =
    let words = map string_bytes c.args.words.now in
    let command : command_of words ≡ Some (Live c.in-Some-Live.seed c.in-Some-Live.steps) = search rules in
    let has : HasWords (command_word words 1) (command_word words 2) (task.Live c.in-Some-Live.image c.in-Some-Live.seed c.in-Some-Live.steps) =
    subst (λ (t : Task). HasWords (command_word words 1) (command_word words 2) t) c.in-Some-Live.field-0-is c.in-Some-Live.ensures.words in
    c.on_live_page.ensures.ends words (g.H.Host.told c.args.host.now) command has

pub returns-in-Some-Secret-clause-ends : goal.returns-in-Some-Secret-clause-ends
returns-in-Some-Secret-clause-ends g c =
    let words = map string_bytes c.args.words.now in
    let command : command_of words ≡ Some (Secret c.in-Some-Secret.steps) = search rules in
    let has : HasWords (command_word words 1) (command_word words 2) (task.Secret c.in-Some-Secret.image c.in-Some-Secret.script c.in-Some-Secret.steps) =
    subst (λ (t : Task). HasWords (command_word words 1) (command_word words 2) t) c.in-Some-Secret.field-0-is c.in-Some-Secret.ensures.words in
    c.on_files-in-Some-Secret.ensures.ends words command has.0 has.1

pub returns-in-Some-ShowPage-clause-ends : goal.returns-in-Some-ShowPage-clause-ends
returns-in-Some-ShowPage-clause-ends g c =
    let words = map string_bytes c.args.words.now in
    let command : command_of words ≡ Some ShowPage = search rules in
    let is : c.as_bytes.result.now ≡ page_text c.in-Some-ShowPage.page = c.as_bytes.ensures.value ∙ c.page_text.ensures.text in
    let has : HasWords (command_word words 1) (command_word words 2) (task.ShowPage c.in-Some-ShowPage.page) =
    subst (λ (t : Task). HasWords (command_word words 1) (command_word words 2) t) c.in-Some-ShowPage.field-0-is c.in-Some-ShowPage.ensures.words in
    let reads = reading_is words _ _ command (ap (λ (o : Option Kept). option_map page_text o) has ∙ ap Some (sym is)) in
    shown_ends _ _ _ _ _ reads refl refl c.put-in-Some-ShowPage.ensures.ends

pub returns-in-Some-ShowMsr-clause-ends : goal.returns-in-Some-ShowMsr-clause-ends
returns-in-Some-ShowMsr-clause-ends g c =
    let words = map string_bytes c.args.words.now in
    let command : command_of words ≡ Some (ShowMsr c.in-Some-ShowMsr.word) = search rules in
    let is = c.as_bytes-in-Some-ShowMsr.ensures.value ∙ c.msr_text.ensures.text in
    shown_ends words _ _ _ _ (reading_is words _ _ command (ap Some (sym is))) refl refl c.put-in-Some-ShowMsr.ensures.ends

pub returns-in-Some-ShowInfo-clause-ends : goal.returns-in-Some-ShowInfo-clause-ends
returns-in-Some-ShowInfo-clause-ends g c =
    let words = map string_bytes c.args.words.now in
    let command : command_of words ≡ Some (ShowInfo c.in-Some-ShowInfo.word) = search rules in
    let is = c.as_bytes-in-Some-ShowInfo.ensures.value ∙ c.info_text.ensures.text in
    shown_ends words _ _ _ _ (reading_is words _ _ command (ap Some (sym is))) refl refl c.put-in-Some-ShowInfo.ensures.ends

pub returns-in-Some-Make-clause-ends : goal.returns-in-Some-Make-clause-ends
returns-in-Some-Make-clause-ends g c =
    let words = map string_bytes c.args.words.now in
    let command : command_of words ≡ Some (Make c.in-Some-Make.number) = search rules in
    made_ends words c.in-Some-Make.number _ _ _ command refl c.run_made.ensures.ends
