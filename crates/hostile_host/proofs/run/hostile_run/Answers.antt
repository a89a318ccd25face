use Rattle.std.proofs.Common.{refl}
use Rattle.std.proofs.lemmas.Result.{IfOk-weaker, on_err_weaker}
use Rattle.page_words.specs.Dialogue.{RunsPart}
use Rattle.page_words.specs.Recording.{recording, roomless}
use Rattle.hostile_host.specs.Answered.{run_of}
use Rattle.hostile_host.proofs.Told.{told_run, told_ahead, first_told, first_ahead, values_ahead}
use Rattle.hostile_host.proofs.run.hostile_run.Goals as goal

pub returns-clause-told : goal.returns-clause-told
returns-clause-told g c =
    IfOk-weaker c.run.result _ _
    (λ vcpu ran. told_run c.args.image.now c.args.steps vcpu (roomless (recording g.P.Page.told c.args.page.now)) (roomless (recording g.P.Page.told c.run.new.page)) _ _ refl refl ran)
    c.run.ensures.runs

pub returns-clause-ahead : goal.returns-clause-ahead
returns-clause-ahead g c =
    IfOk-weaker c.run.result _ _
    (λ vcpu ran. told_ahead c.args.image.now c.args.steps vcpu (roomless (recording g.P.Page.told c.args.page.now)) (roomless (recording g.P.Page.told c.run.new.page)) _ _ _ refl refl refl ran)
    c.run.ensures.runs

pub returns-clause-refused : goal.returns-clause-refused
returns-clause-refused g c =
    on_err_weaker {P = RunsPart (run_of c.args.image.now c.args.steps) (roomless (recording g.P.Page.told c.args.page.now)) (roomless (recording g.P.Page.told c.run.new.page))} c.run.result
    (λ begun. first_told c.args.image.now c.args.steps (roomless (recording g.P.Page.told c.args.page.now)) (roomless (recording g.P.Page.told c.run.new.page)) _ _ refl refl begun)
    c.run.ensures.begins

pub returns-clause-refused_ahead : goal.returns-clause-refused_ahead
returns-clause-refused_ahead g c =
    on_err_weaker {P = RunsPart (run_of c.args.image.now c.args.steps) (roomless (recording g.P.Page.told c.args.page.now)) (roomless (recording g.P.Page.told c.run.new.page))} c.run.result
    (λ begun. first_ahead c.args.image.now c.args.steps (roomless (recording g.P.Page.told c.args.page.now)) (roomless (recording g.P.Page.told c.run.new.page)) _ _ _ refl refl refl begun)
    c.run.ensures.begins

pub returns-clause-values : goal.returns-clause-values
returns-clause-values g c =
    values_ahead c.run.result c.args.image.now c.args.steps (roomless (recording g.P.Page.told c.args.page.now)) (roomless (recording g.P.Page.told c.run.new.page))
    _ _ _ refl refl refl c.run.ensures.runs c.run.ensures.begins
