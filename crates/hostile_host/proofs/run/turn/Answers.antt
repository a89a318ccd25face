use Rattle.std.proofs.Common.{rules, subst}
use Rattle.page_words.specs.Dialogue.{Runs}
use Rattle.page_words.specs.Recording.{Recording, recording}
use Rattle.vcpu_core.specs.State.{State}
use Rattle.vcpu_core.specs.Resuming.{resuming}
use Rattle.hostile_host.proofs.Running.{turned, turned_ended, spoken}
use Rattle.hostile_host.proofs.Told.{on_err}
use Rattle.hostile_host.proofs.run.turn.Goals as goal

pub returns-in_err-reserve-2-clause-begins : goal.returns-in_err-reserve-2-clause-begins
returns-in_err-reserve-2-clause-begins g c =
    let told = λ (r : Recording _). recording g.P.Page.told r in
    on_err c.from_residual-in_err-reserve-2.result _
    (spoken c.args.image.now c.args.steps c.args.vcpu.now (told c.args.page.now) (told c.reserve.new.self) (told c.run_to_exit.new.page) (told c.reserve-then-exited.new.self)
    c.in_ok-reserve.ensures.told c.run_to_exit.ensures.says c.in_err-reserve-2.ensures.told)

pub returns-in_ok-reserve-2-clause-runs : goal.returns-in_ok-reserve-2-clause-runs
returns-in_ok-reserve-2-clause-runs g c =
    let told = λ (r : Recording _). recording g.P.Page.told r in
    turned c.args.image.now c.args.steps c.args.vcpu.now c.resume.new.self (told c.args.page.now) (told c.reserve.new.self) (told c.run_to_exit.new.page) (told c.reserve-then-exited.new.self) (told c.resume.new.page)
    c.in_ok-reserve.ensures.told c.run_to_exit.ensures.says c.in_ok-reserve-2.ensures.told
    (subst (λ (s : State). Runs (resuming c.args.image.now s) c.resume.new.self (told c.reserve-then-exited.new.self) (told c.resume.new.page)) c.run_to_exit.ensures.goes c.resume.ensures.runs)

pub returns-else-exited-clause-runs : goal.returns-else-exited-clause-runs
returns-else-exited-clause-runs g c =
    let told = λ (r : Recording _). recording g.P.Page.told r in
    turned_ended c.args.image.now c.args.steps c.args.vcpu.now c.run_to_exit.new.self c.run_to_exit.result (told c.args.page.now) (told c.reserve.new.self) (told c.run_to_exit.new.page)
    c.in_ok-reserve.ensures.told c.run_to_exit.ensures.says c.run_to_exit.ensures.goes c.run_to_exit.ensures.progress (λ is. search (rules, is))
