use Rattle.std.proofs.Common.{◌≡◌, suc, ◌+◌, ◌∙◌, sym, ap, subst, arith, true, rules}
use Rattle.std.specs.List.{list_all}
use Rattle.std.proofs.lemmas.Result.{IfOk-weaker}
use Rattle.plain_machine.specs.Plain.{Machine, all_ended, has_ended, machine_at_start, rounds}
use Rattle.plain_machine.specs.Standing.{Stands}
use Rattle.plain_machine.proofs.PlainRounds.{rounds_end}
use Rattle.plain_machine.proofs.Runs.{hands_back, ran}
use Rattle.plain_machine.proofs.Turns.{all_is}
use Rattle.plain_machine.proofs.run.run_plain.Goals as goal

pub loop-done-preserved : goal.loop-done-preserved
loop-done-preserved c =
    let image = c.args.image.now in
    let budget = c.args.budget in
    let start = machine_at_start image budget c.args.input.items in
    let before : Machine = rounds image budget c.loop-done.done start in
    let one : suc c.loop-done.done ≡ c.loop-done.done + 1 = omega arith in
    record {
      fits = c.in_ok-round.ensures.fits;
      stands =
          subst (λ n. Stands c.round.new.self (rounds image budget n start)) one
          (c.in_ok-round.ensures.stands before c.loop-done.invariant.stands);
    }

pub returns-then-has_ended : goal.returns-then-has_ended
returns-then-has_ended c =
    let image = c.args.image.now in
    let budget = c.args.budget in
    let input = c.args.input.items in
    let machine = c.loop-done.machine in
    let stands = c.loop-done.invariant.stands in
    let over : list_all has_ended machine.vcpus.items ≡ true = search rules in
    let ended : all_ended (rounds image budget c.loop-done.done (machine_at_start image budget input)).stops ≡ true =
    ap all_ended (sym stands.stops) ∙ sym (all_is machine.vcpus.items) ∙ over in
    record {
      ran =
          IfOk-weaker c.finish.result _ _ (λ done back. ran image budget c.loop-done.done input machine done (omega arith) stands ended back)
          (hands_back c.finish.result machine c.finish.ensures.console c.finish.ensures.order c.finish.ensures.steps c.finish.ensures.ends);
    }

pub returns : goal.returns
returns c =
    let image = c.args.image.now in
    let budget = c.args.budget in
    let input = c.args.input.items in
    let machine = c.loop-done.machine in
    let all : c.loop-done.done ≡ budget = omega arith in
    let ended : all_ended (rounds image budget c.loop-done.done (machine_at_start image budget input)).stops ≡ true =
    ap (λ n. all_ended (rounds image budget n (machine_at_start image budget input)).stops) all ∙ rounds_end image budget input in
    record {
      ran =
          IfOk-weaker c.finish-2.result _ _ (λ done back. ran image budget c.loop-done.done input machine done (omega arith) c.loop-done.invariant.stands ended back)
          (hands_back c.finish-2.result machine c.finish-2.ensures.console c.finish-2.ensures.order c.finish-2.ensures.steps c.finish-2.ensures.ends);
    }
