-- Where a vCPU stands, as its callers see it.
use Rattle.event_table.specs.declared.end.End.{End}
use Rattle.event_table.specs.declared.event.Event.{Event}

pub data Phase : Type 0 where
  -- it has said nothing yet
  New : Phase
  -- it has asked the host for its versions
  Asked : Phase
  -- it goes on by itself
  Going : Phase
  -- it has shown this event, and waits for the reply
  Waits : (event : Event) → Phase
  -- it has ended
  Ended : (end : End) → Phase
