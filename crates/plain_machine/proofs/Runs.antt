-- What a run of the code's machine leaves.
use Rattle.std.proofs.Common.{◌≡◌, ℕ, ◌≤◌, List, true, Some, Result, Ok, Err, sym, ap, ◌∙◌, subst}
use Rattle.std.specs.Prelude.{IfOk, map, unwrap_or}
use Rattle.image_file.specs.Image.{Contents}
use Rattle.event_table.specs.declared.end.End.{End}
use Rattle.event_table.specs.declared.end.End.TheVariants.{Spent}
use Rattle.event_table.specs.Turns.{turns_of}
use Rattle.device_bus.specs.Devices.{Devices}
use Rattle.plain_machine.specs.declared.machine.PlainMachine.{PlainMachine}
use Rattle.plain_machine.specs.declared.run.PlainDone.{PlainDone}
use Rattle.plain_machine.specs.Ends.{AreUnterminated}
use Rattle.plain_machine.specs.Plain.{Machine, all_ended, end_of, ends_of, machine_at_start, plain_run, rounds, rounds_machine, rounds_order, vcpu_of}
use Rattle.plain_machine.specs.Ran.{RanPlain}
use Rattle.plain_machine.specs.Standing.{Stands}
use Rattle.plain_machine.proofs.PlainEnds.{runs_unterminated}
use Rattle.plain_machine.proofs.PlainRounds.{rounds_idle, rounds_plain}
use Rattle.plain_machine.proofs.Turns.{ends_map, steps_map}

-- what is handed back of the machine
pub record HandsBack (machine : PlainMachine) (done : PlainDone) : Type 0 where
  pub console : done.console.items ≡ machine.bus.devices.console
  pub order : done.finished.order.items ≡ machine.order.items
  pub steps : done.finished.steps.items ≡ map (λ stop. (vcpu_of stop).steps) machine.vcpus.items
  pub ends : done.finished.ends.items ≡ map (λ stop. unwrap_or (end_of stop) Spent) machine.vcpus.items

pub hands_back : {E : Type 0} (r : Result PlainDone E) (machine : PlainMachine) → IfOk r (λ done. done.console.items ≡ machine.bus.devices.console) → IfOk r (λ done. done.finished.order.items ≡ machine.order.items) →
    IfOk r (λ done. done.finished.steps.items ≡ map (λ stop. (vcpu_of stop).steps) machine.vcpus.items) → IfOk r (λ done. done.finished.ends.items ≡ map (λ stop. unwrap_or (end_of stop) Spent) machine.vcpus.items) →
    IfOk r (λ done. HandsBack machine done)
hands_back (Err e) machine console order steps ends = tt
hands_back (Ok done) machine console order steps ends = record { console = console; order = order; steps = steps; ends = ends }

-- once all have ended
pub ran : (image : Contents) (budget n : ℕ) (input : List ℕ) (machine : PlainMachine) (done : PlainDone) → n ≤ budget →
    Stands machine (rounds image budget n (machine_at_start image budget input)) → all_ended (rounds image budget n (machine_at_start image budget input)).stops ≡ true →
    HandsBack machine done → RanPlain image budget input done.finished done.console.items
ran image budget n input machine done fewer stands ended back =
    let m = rounds image budget n (machine_at_start image budget input) in
    let same : rounds_machine image budget input ≡ m = rounds_idle image budget n budget (machine_at_start image budget input) fewer ended in
    let turns : done.finished.order.items ≡ rounds_order image budget input = back.order ∙ stands.order ∙ ap (λ (x : Machine). turns_of x.events) (sym same) in
    let plain : plain_run image budget input done.finished.order.items ≡ Some m =
    ap (λ o. plain_run image budget input o) turns ∙ (rounds_plain image budget input).0 ∙ ap (λ (x : Machine). Some x) same in
    let ends : done.finished.ends.items ≡ ends_of m.stops = back.ends ∙ ap (λ ss. map (λ stop. unwrap_or (end_of stop) Spent) ss) stands.stops ∙ ends_map m.stops ended in
    record {
      order = turns;
      machine = m;
      plain = plain;
      output = back.console ∙ ap (λ (d : Devices). d.console) stands.devices;
      steps = back.steps ∙ ap (λ ss. map (λ stop. (vcpu_of stop).steps) ss) stands.stops ∙ steps_map m.stops;
      ends = ends;
      unterminated = subst (λ (es : List End). AreUnterminated es) (sym ends) (runs_unterminated image budget input done.finished.order.items m plain);
    }
