use Rattle.std.proofs.Common.{◌≡◌, suc, ◌+◌, ◌<◌, ◌∙◌, refl, sym, ap, subst, arith, length, get_or}
use Rattle.std.specs.Prelude.{slice_set}
use Rattle.std.proofs.lemmas.List.{length-set}
use Rattle.std.proofs.lemmas.Option.{slice_get-get_or}
use Rattle.round_runner.specs.declared.vcpu_on_page.VcpuOnPage.{VcpuOnPage}
use Rattle.round_runner.specs.Pages.{exchange}
use Rattle.round_runner.specs.Standing.{Stands, visits_by}
use Rattle.round_runner.proofs.Starting.{stays_same, stays_then}
use Rattle.round_runner.proofs.Seating.{numbered_get, numbered_set, stands_round, stands_visit, visits_none}
use Rattle.round_runner.proofs.rounds.round.Goals as goal

pub serve_turn-requires : goal.serve_turn-requires
serve_turn-requires g c =
    let within : c.from.result < length c.loop-i.seats = omega arith in
    let is = numbered_get 0 c.from.result c.loop-i.seats _ c.loop-i.invariant.numbered (slice_get-get_or c.loop-i.seats c.from.result c.index-seats-from.result within) in
    record { numbered = omega (arith, is, c.from.ensures); known = omega (arith, is); few = omega (arith, is); budget = c.requires.budget }

pub returns-in_err-serve_turn-clause-numbered : goal.returns-in_err-serve_turn-clause-numbered
returns-in_err-serve_turn-clause-numbered g c =
    let within : c.from.result < length c.loop-i.seats = omega arith in
    let is = numbered_get 0 c.from.result c.loop-i.seats _ c.loop-i.invariant.numbered (slice_get-get_or c.loop-i.seats c.from.result c.index-seats-from.result within) in
    numbered_set 0 c.from.result c.loop-i.seats c.serve_turn.new.seat c.loop-i.invariant.numbered (c.in_err-serve_turn.ensures.number ∙ is)

pub loop-i-init : goal.loop-i-init
loop-i-init g c = record {
  many = c.requires.many;
  numbered = c.requires.numbered;
  hosted = c.requires.hosted;
  started = stays_same _ _ refl;
  stands = λ d n m stands. visits_none (exchange n) c.args.image.now c.args.budget m (λ x. Stands c.args.image.now c.args.budget d n 0 c.args.seats.now (g.H.Host.told c.args.host.now) c.args.order.now.items x) stands;
}

pub loop-i-preserved : goal.loop-i-preserved
loop-i-preserved g c =
    let k = c.from.result in
    let seats = c.loop-i.seats in
    let seat : VcpuOnPage = get_or seats k c.index-seats-from.result in
    let next : VcpuOnPage = c.serve_turn.new.seat in
    let within : k < length seats = omega arith in
    let at = slice_get-get_or seats k c.index-seats-from.result within in
    let is : seat.vcpu.number ≡ 0 + k = numbered_get 0 k seats seat c.loop-i.invariant.numbered at in
    let zeroth : 0 + k ≡ k = omega arith in
    let one : suc c.loop-i.i ≡ c.loop-i.i + 1 = omega arith in
    let told = g.H.Host.told in
    let image = c.args.image.now in
    let budget = c.args.budget in
    let here : k ≡ c.loop-i.i = c.from.ensures in
    record {
      many = length-set seats k next ∙ c.loop-i.invariant.many;
      numbered = numbered_set 0 k seats next c.loop-i.invariant.numbered (c.in_ok-serve_turn.ensures.number ∙ is);
      hosted = c.in_ok-serve_turn.ensures.vcpus ∙ c.loop-i.invariant.hosted;
      started = stays_then _ _ _ c.loop-i.invariant.started c.serve_turn.ensures.started;
      stands = λ d n m stands.
          let before = subst (λ j. Stands image budget d n j seats (told c.loop-i.host) c.loop-i.order.items (visits_by (exchange n) image budget j m)) (sym here) (c.loop-i.invariant.stands d n m stands) in
          let after : Stands image budget d n (suc k) (slice_set seats k next) (told c.serve_turn.new.host) c.serve_turn.new.order.items (visits_by (exchange n) image budget (suc k) m) =
          stands_visit image budget n k d m seats seat next (told c.loop-i.host) (told c.serve_turn.new.host) c.loop-i.order.items c.serve_turn.new.order.items
          before at (is ∙ zeroth) (λ n m stop there tells. c.in_ok-serve_turn.ensures.ok d n m stop there tells) c.in_ok-serve_turn.ensures.others in
          subst (λ j. Stands image budget d n j (slice_set seats k next) (told c.serve_turn.new.host) c.serve_turn.new.order.items (visits_by (exchange n) image budget j m)) (ap suc here ∙ one) after;
    }

pub returns-clause-ok : goal.returns-clause-ok
returns-clause-ok g c = λ d n m stands.
    let told = g.H.Host.told in
    let image = c.args.image.now in
    let all : c.loop-i.i ≡ image.header.vcpus = omega arith in
    let reached = subst (λ k. Stands image c.args.budget d n k c.loop-i.seats (told c.loop-i.host) c.loop-i.order.items (visits_by (exchange n) image c.args.budget k m)) all (c.loop-i.invariant.stands d n m stands) in
    stands_round image c.args.budget n image.header.vcpus d c.loop-i.seats (told c.loop-i.host) c.loop-i.order.items _ c.loop-i.invariant.many reached
