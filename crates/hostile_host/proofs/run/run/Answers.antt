use Rattle.std.proofs.Common.{◌≡◌, true, false, rules, sym, subst}
use Rattle.std.specs.Prelude.{is_some}
use Rattle.page_words.specs.Recording.{recording, roomless}
use Rattle.vcpu_core.specs.State.{State, end_in}
use Rattle.hostile_host.proofs.Running.{Leads, leads_first, leads_cut, leads_last, leads_on}
use Rattle.hostile_host.proofs.Told.{on_err}
use Rattle.hostile_host.proofs.run.run.Goals as goal

pub turns-init : goal.turns-init
turns-init g c =
    let old = roomless (recording g.P.Page.told c.args.page.now) in
    subst (λ (s : State). Leads c.args.image.now c.args.steps s old old) (sym c.requires.start) (leads_first c.args.image.now c.args.steps old)

pub returns-in_err-turn-clause-begins : goal.returns-in_err-turn-clause-begins
returns-in_err-turn-clause-begins g c =
    on_err c.from_residual.result _ (leads_cut _ _ c.turns.vcpu _ _ _ c.turns.invariant c.in_err-turn.ensures.begins)

pub returns-then-is_some-clause-runs : goal.returns-then-is_some-clause-runs
returns-then-is_some-clause-runs g c =
    let some : is_some (end_in c.turn.new.vcpu.phase) ≡ true = search rules in
    leads_last _ _ c.turns.vcpu c.turn.new.vcpu _ _ _ c.turns.invariant c.in_ok-turn.ensures.runs some

pub turns-smaller : goal.turns-smaller
turns-smaller g c =
    let none : is_some (end_in c.turn.new.vcpu.phase) ≡ false = search rules in
    (leads_on _ _ c.turns.vcpu c.turn.new.vcpu _ _ _ c.turns.invariant c.in_ok-turn.ensures.runs c.in_ok-turn.ensures.lawful c.in_ok-turn.ensures.rests none).1

pub turns-preserved : goal.turns-preserved
turns-preserved g c =
    let none : is_some (end_in c.turn.new.vcpu.phase) ≡ false = search rules in
    (leads_on _ _ c.turns.vcpu c.turn.new.vcpu _ _ _ c.turns.invariant c.in_ok-turn.ensures.runs c.in_ok-turn.ensures.lawful c.in_ok-turn.ensures.rests none).0
