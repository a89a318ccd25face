use Rattle.std.proofs.Common.{rules, ◌≡◌, true, false, subst}
use Rattle.host_events.specs.Hosting.{Leaves, after_serve}
use Rattle.vcpu_core.specs.State.{is_waiting, pending_in}
use Rattle.round_runner.specs.Standing.{pushed}
use Rattle.round_runner.proofs.Starting.{stays_serving}
use Rattle.round_runner.proofs.Visiting.{others_stay, unvisited, visited}
use Rattle.round_runner.proofs.vcpu_on_page.serve_turn.Goals as goal

pub returns-in_ok-note-clause-ok : goal.returns-in_ok-note-clause-ok
returns-in_ok-note-clause-ok g c =
    let told = g.H.Host.told in
    let v0 = c.args.seat.now.vcpu in
    let page0 = c.args.seat.now.page in
    let waits : is_waiting v0.phase ≡ true = search rules in
    let noted : c.note.new.order.items ≡ pushed v0.number (pending_in v0.phase) c.args.order.now.items = search rules in
    let serves : told c.serve.new.self ≡ after_serve v0.number page0 (told c.args.host.now) =
    subst (λ n. told c.serve.new.self ≡ after_serve n page0 (told c.args.host.now)) c.requires.numbered c.in_ok-serve.ensures.ok in
    let leaves : Leaves v0.number page0 c.serve.new.page (told c.args.host.now) =
    subst (λ n. Leaves n page0 c.serve.new.page (told c.args.host.now)) c.requires.numbered c.in_ok-serve.ensures.page in
    visited c.agree.ensures.law c.args.image.now c.args.budget v0 c.resume.new.self c.run_to_exit.new.self
    page0 c.serve.new.page c.resume.new.page c.run_to_exit.new.page
    (told c.args.host.now) (told c.serve.new.self) c.args.order.now.items c.note.new.order.items
    c.requires.few waits
    (record { serves = serves; leaves = leaves; resumes = c.resume.ensures.runs; says = c.run_to_exit.ensures.says; goes = c.run_to_exit.ensures.goes; lawful = c.run_to_exit.ensures.lawful })
    noted

pub returns-in_ok-note-clause-others : goal.returns-in_ok-note-clause-others
returns-in_ok-note-clause-others g c =
    let told = g.H.Host.told in
    let page0 = c.args.seat.now.page in
    let serves : told c.serve.new.self ≡ after_serve c.args.seat.now.vcpu.number page0 (told c.args.host.now) =
    subst (λ n. told c.serve.new.self ≡ after_serve n page0 (told c.args.host.now)) c.requires.numbered c.in_ok-serve.ensures.ok in
    others_stay c.args.seat.now.vcpu.number page0 (told c.args.host.now) (told c.serve.new.self) serves

pub returns-else-waiting-clause-ok : goal.returns-else-waiting-clause-ok
returns-else-waiting-clause-ok g c =
    let rests : is_waiting c.args.seat.now.vcpu.phase ≡ false = search rules in
    unvisited c.args.image.now c.args.budget c.args.seat.now (g.H.Host.told c.args.host.now) c.args.order.now.items rests

pub returns-in_err-note-clause-started : goal.returns-in_err-note-clause-started
returns-in_err-note-clause-started g c =
    let told = g.H.Host.told in
    stays_serving c.args.number c.args.seat.now.page (told c.args.host.now) (told c.serve.new.self) c.in_ok-serve.ensures.ok

pub returns-in_ok-note-clause-started : goal.returns-in_ok-note-clause-started
returns-in_ok-note-clause-started g c =
    let told = g.H.Host.told in
    stays_serving c.args.number c.args.seat.now.page (told c.args.host.now) (told c.serve.new.self) c.in_ok-serve.ensures.ok
