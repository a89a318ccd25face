use Rattle.std.proofs.Common.{ap, ◌∙◌}
use Rattle.guest_interp.specs.Stepping.{Counted, next_within}
use Rattle.plain_machine.proofs.plain_vcpu.PlainVcpu.start.Goals as goal

pub returns : goal.returns
returns c = record { stop = c.run_to_event-stop.ensures.stop ∙ ap (λ (x : Counted). next_within c.args.budget x) c.start-wired.ensures.start }
