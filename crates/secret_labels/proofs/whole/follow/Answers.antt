use Rattle.std.proofs.Common.{refl}
use Rattle.guest_interp.specs.Guest.{counted_vcpu}
use Rattle.secret_labels.proofs.Concluding.{from_start, in_worlds, on_words}
use Rattle.secret_labels.proofs.whole.follow.Goals as goal

pub returns-clause-runs : goal.returns-clause-runs
returns-clause-runs g c =
    let told = g.P.Page.told in
    from_start c.args.image.now c.args.steps c.in_ok-marks.marks (counted_vcpu c.start.result) c.run.result (told c.args.page.now) (told c.run.new.page)
    c.in_ok-marks.ensures.start c.start.ensures.start c.run.ensures.verdict

pub returns-clause-ahead : goal.returns-clause-ahead
returns-clause-ahead g c =
    let told = g.P.Page.told in
    on_words c.args.image.now c.args.steps c.run.result (told c.args.page.now) (told c.run.new.page) (told c.args.page.now).ahead refl (returns-clause-runs g c)

pub returns-clause-worlds : goal.returns-clause-worlds
returns-clause-worlds g c =
    let told = g.P.Page.told in
    in_worlds c.args.image.now c.args.steps c.run.result (told c.args.page.now) (told c.run.new.page) (told c.args.page.now).ahead c.check_secret.ensures.secret refl (returns-clause-runs g c)
