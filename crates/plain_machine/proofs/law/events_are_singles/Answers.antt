use Rattle.plain_machine.proofs.Singles.{event_singles}
use Rattle.plain_machine.proofs.law.events_are_singles.Goals as goal

pub returns : goal.returns
returns c = record { law = event_singles }
