use Rattle.std.proofs.Common.{◌≡◌, ◌<◌, ◌∙◌, length, length-set, Some, sym, ap, subst, arith}
use Rattle.std.specs.Prelude.{slice_get, slice_set}
use Rattle.std.proofs.lemmas.Option.{slice_get-get_or}
use Rattle.guest_interp.specs.Stepping.{Standstill}
use Rattle.plain_machine.proofs.Turns.{visited_next}
use Rattle.plain_machine.proofs.machine.PlainMachine.round.Goals as goal

pub loop-number-preserved : goal.loop-number-preserved
loop-number-preserved c =
    let k = c.from.result in
    let number = c.loop-number.number in
    let vcpus = c.loop-number.self.vcpus.items in
    let vcpu : Standstill = c.index_mut-vcpu.result.now in
    let next : Standstill = c.take_turn.new.self in
    let here : k ≡ number = c.from.ensures in
    let within : k < length vcpus = omega arith in
    let at : slice_get vcpus k ≡ Some vcpu = slice_get-get_or vcpus k vcpu within ∙ ap (λ (x : Standstill). Some x) (sym c.index_mut-vcpu.ensures.value) in
    record {
      fits = record {
        many = length-set vcpus k next ∙ c.loop-number.invariant.fits.many;
        known = c.take_turn.ensures.vcpus ∙ c.loop-number.invariant.fits.known;
      };
      stands = λ m stands.
          visited_next c.args.image.now c.args.budget number m vcpu c.loop-number.self _ (c.loop-number.invariant.stands m stands)
          (subst (λ n. slice_get vcpus n ≡ Some vcpu) here at)
          (ap (λ n. slice_set vcpus n next) here ∙ ap (λ (x : Standstill). slice_set vcpus number x) c.in_ok-take_turn.ensures.stop)
          c.in_ok-take_turn.ensures.devices c.in_ok-take_turn.ensures.order;
    }
