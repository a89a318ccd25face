use Rattle.std.proofs.Common.{◌≡◌, ◌+◌, ◌∙◌, suc, List, length, sym, ap, subst, arith, true, rules}
use Rattle.std.specs.Prelude.{is_some}
use Rattle.std.specs.List.{list_all}
use Rattle.std.proofs.lemmas.Result.{IfOk-weaker}
use Rattle.device_bus.specs.Devices.{opening}
use Rattle.host_events.specs.Hosting.{Hosting, HasStarted, started}
use Rattle.host_events.proofs.Serving.{has_started}
use Rattle.plain_machine.specs.Plain.{Machine, machine_at_start, all_ended, rounds}
use Rattle.vcpu_core.specs.State.{end_in}
use Rattle.round_runner.specs.declared.vcpu_on_page.VcpuOnPage.{VcpuOnPage}
use Rattle.round_runner.specs.Pages.{exchanges}
use Rattle.round_runner.specs.Standing.{AreNumbered, Stands}
use Rattle.plain_machine.proofs.PlainRounds.{rounds_end}
use Rattle.round_runner.proofs.Starting.{WasStarted, started_still, was_started}
use Rattle.round_runner.proofs.Seating.{all_back, stands_first, fresh_numbered, ended_over, ran, hands_back}
use Rattle.round_runner.proofs.rounds.run_rounds.Goals as goal

pub loop-met-init : goal.loop-met-init
loop-met-init g c =
    let told = g.H.Host.told in
    let image = c.args.image.now in
    let input = c.args.input.items in
    let seats = c.in_ok-seats.seats.items in
    let starts : told c.start.new.self ≡ started image.header.vcpus input (told c.args.host.now) =
    subst (λ vcpus. told c.start.new.self ≡ started vcpus input (told c.args.host.now)) c.vcpus.ensures.value c.in_ok-start.ensures.ok in
    record {
      many = c.in_ok-seats.ensures.many;
      numbered = fresh_numbered image 0 seats c.in_ok-seats.ensures.fresh;
      hosted = search rules;
      started = record {
        has = subst (λ (h : Hosting). HasStarted image.header.vcpus input (told c.args.host.now) h) (sym starts) (has_started image.header.vcpus input (told c.args.host.now));
      };
      stands = λ telling.
          subst (λ order. Stands image c.args.budget (opening image.header.vcpus input) 0 0 seats (told c.start.new.self) order (machine_at_start image c.args.budget input)) (sym c.new-order.ensures.items)
          (stands_first image c.args.budget input seats (told c.args.host.now) (told c.start.new.self) telling starts c.in_ok-seats.ensures.many c.in_ok-seats.ensures.fresh);
    }

pub loop-met-preserved : goal.loop-met-preserved
loop-met-preserved g c =
    let told = g.H.Host.told in
    let image = c.args.image.now in
    let budget = c.args.budget in
    let input = c.args.input.items in
    let d = opening image.header.vcpus input in
    let start = machine_at_start image budget input in
    let first : c.loop-met.met ≡ 0 = omega arith in
    let one : 1 ≡ c.loop-met.met + 1 = omega arith in
    let as_many : length c.round.new.seats ≡ length c.loop-met.seats.items = search rules in
    let whole : c.loop-met.seats.len ≡ length c.loop-met.seats.items = search rules in
    let back = sym (all_back c.loop-met.seats.len c.round.new.seats c.loop-met.seats.items whole as_many) in
    let started : WasStarted image input (told c.args.host.now) (told c.round.new.host) =
    started_still image input (told c.args.host.now) (told c.loop-met.host) (told c.round.new.host) c.loop-met.invariant.started c.round.ensures.started in
    record {
      many = ap length (sym back) ∙ as_many ∙ c.loop-met.invariant.many;
      numbered = subst (λ ss. AreNumbered 0 ss) back c.in_ok-round.ensures.numbered;
      hosted = c.in_ok-round.ensures.hosted;
      started = started;
      stands = λ telling.
          subst (λ ss. Stands image budget d (c.loop-met.met + 1) 0 ss (told c.round.new.host) c.round.new.order.items start) back
          (subst (λ n. Stands image budget d n 0 c.round.new.seats (told c.round.new.host) c.round.new.order.items start) one
          (c.in_ok-round.ensures.ok d 0 start
          (subst (λ ss. Stands image budget d 0 0 ss (told c.loop-met.host) c.loop-met.order.items start) (sym c.deref_mut.ensures.value)
          (subst (λ n. Stands image budget d n 0 c.loop-met.seats.items (told c.loop-met.host) c.loop-met.order.items start) first (c.loop-met.invariant.stands telling)))));
    }

pub returns-in_err-round-clause-refused : goal.returns-in_err-round-clause-refused
returns-in_err-round-clause-refused g c =
    let told = g.H.Host.told in
    let image = c.args.image.now in
    let input = c.args.input.items in
    was_started c.from_residual-in_err-round.result image input (told c.args.host.now) (told c.round.new.host)
    (started_still image input (told c.args.host.now) (told c.loop-met.host) (told c.round.new.host) c.loop-met.invariant.started c.round.ensures.started)

pub loop-done-init : goal.loop-done-init
loop-done-init g c =
    let told = g.H.Host.told in
    let image = c.args.image.now in
    let d = opening image.header.vcpus c.args.input.items in
    let all : c.loop-met.met ≡ exchanges = omega arith in
    record {
      many = c.loop-met.invariant.many;
      numbered = c.loop-met.invariant.numbered;
      hosted = c.loop-met.invariant.hosted;
      started = c.loop-met.invariant.started;
      stands = λ telling.
          subst (λ n. Stands image c.args.budget d n 0 c.loop-met.seats.items (told c.loop-met.host) c.loop-met.order.items (machine_at_start image c.args.budget c.args.input.items)) all
          (c.loop-met.invariant.stands telling);
    }

pub loop-done-preserved : goal.loop-done-preserved
loop-done-preserved g c =
    let told = g.H.Host.told in
    let image = c.args.image.now in
    let budget = c.args.budget in
    let input = c.args.input.items in
    let d = opening image.header.vcpus input in
    let started : WasStarted image input (told c.args.host.now) (told c.round-in-loop-done.new.host) =
    started_still image input (told c.args.host.now) (told c.loop-done.host) (told c.round-in-loop-done.new.host) c.loop-done.invariant.started c.round-in-loop-done.ensures.started in
    let order = c.round-in-loop-done.new.order.items in
    let start = machine_at_start image budget input in
    let before : Machine = rounds image budget c.loop-done.done start in
    let new = c.round-in-loop-done.new.seats in
    let seats : c.deref_mut-in-loop-done.result.now ≡ c.loop-done.seats.items = c.deref_mut-in-loop-done.ensures.value in
    let same : length new ≡ length c.deref_mut-in-loop-done.result.now = search rules in
    let is : c.loop-done.seats.len ≡ length c.loop-done.seats.items = search rules in
    let back = all_back c.loop-done.seats.len new c.loop-done.seats.items is (same ∙ ap (λ (ss : List VcpuOnPage). length ss) seats) in
    let one : suc c.loop-done.done ≡ c.loop-done.done + 1 = omega arith in
    record {
      many = ap (λ (ss : List VcpuOnPage). length ss) back ∙ same ∙ ap (λ (ss : List VcpuOnPage). length ss) seats ∙ c.loop-done.invariant.many;
      numbered = subst (λ ss. AreNumbered 0 ss) (sym back) c.round-in-loop-done.ensures.numbered;
      hosted = c.round-in-loop-done.ensures.hosted;
      started = started;
      stands = λ telling.
          let stands : Stands image budget d exchanges 0 c.deref_mut-in-loop-done.result.now (told c.loop-done.host) c.loop-done.order.items before =
          subst (λ ss. Stands image budget d exchanges 0 ss (told c.loop-done.host) c.loop-done.order.items before) (sym seats) (c.loop-done.invariant.stands telling) in
          subst (λ ss. Stands image budget d exchanges 0 ss (told c.round-in-loop-done.new.host) order (rounds image budget (c.loop-done.done + 1) start)) (sym back)
          (subst (λ n. Stands image budget d exchanges 0 new (told c.round-in-loop-done.new.host) order (rounds image budget n start)) one (c.in_ok-round-2.ensures.ok d exchanges before stands));
    }

pub returns-in_err-round-2-clause-refused : goal.returns-in_err-round-2-clause-refused
returns-in_err-round-2-clause-refused g c =
    let told = g.H.Host.told in
    let image = c.args.image.now in
    let input = c.args.input.items in
    was_started c.from_residual-in_err-round-2.result image input (told c.args.host.now) (told c.round-in-loop-done.new.host)
    (started_still image input (told c.args.host.now) (told c.loop-done.host) (told c.round-in-loop-done.new.host) c.loop-done.invariant.started c.round-in-loop-done.ensures.started)

pub returns-then-have_ended : goal.returns-then-have_ended
returns-then-have_ended g c =
    let image = c.args.image.now in
    let d = opening image.header.vcpus c.args.input.items in
    let over : list_all (λ (s : VcpuOnPage). is_some (end_in s.vcpu.phase)) c.loop-done.seats.items ≡ true = search rules in
    let seats : c.deref-then-have_ended.result.now ≡ c.loop-done.seats.items = c.deref-then-have_ended.ensures.value in
    record {
      ran = λ telling.
          let stands = c.loop-done.invariant.stands telling in
          IfOk-weaker c.finish.result _ _
          (λ f back. ran image c.args.budget c.loop-done.done c.args.input.items c.loop-done.seats.items _ c.loop-done.order.items f (omega arith) c.loop-done.invariant.many stands
          (ended_over image c.args.budget 0 d c.loop-done.seats.items _ _ _ stands over) back)
          (hands_back c.finish.result c.loop-done.order.items c.loop-done.seats.items _ seats c.finish.ensures.order c.finish.ensures.steps c.finish.ensures.ends);
      refused = was_started c.finish.result image c.args.input.items (g.H.Host.told c.args.host.now) (g.H.Host.told c.loop-done.host) c.loop-done.invariant.started;
    }

pub returns : goal.returns
returns g c =
    let image = c.args.image.now in
    let seats : c.deref-2.result.now ≡ c.loop-done.seats.items = c.deref-2.ensures.value in
    let all : c.loop-done.done ≡ c.args.budget = omega arith in
    record {
      ran = λ telling.
          let stands = c.loop-done.invariant.stands telling in
          let ended : all_ended (rounds image c.args.budget c.loop-done.done (machine_at_start image c.args.budget c.args.input.items)).stops ≡ true =
          ap (λ n. all_ended (rounds image c.args.budget n (machine_at_start image c.args.budget c.args.input.items)).stops) all ∙ rounds_end image c.args.budget c.args.input.items in
          IfOk-weaker c.finish-2.result _ _
          (λ f back. ran image c.args.budget c.loop-done.done c.args.input.items c.loop-done.seats.items _ c.loop-done.order.items f (omega arith) c.loop-done.invariant.many stands ended back)
          (hands_back c.finish-2.result c.loop-done.order.items c.loop-done.seats.items _ seats c.finish-2.ensures.order c.finish-2.ensures.steps c.finish-2.ensures.ends);
      refused = was_started c.finish-2.result image c.args.input.items (g.H.Host.told c.args.host.now) (g.H.Host.told c.loop-done.host) c.loop-done.invariant.started;
    }
