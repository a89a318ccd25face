-- What an exit of a guest comes to.
use Rattle.std.specs.Prelude.{◌≡◌, ℕ, [], ◌∷◌, ◌++◌, option_map, IfSome}
use Rattle.event_table.specs.declared.event.Event.{Event}
use Rattle.event_table.specs.declared.outcome.Outcome.{Outcome}
use Rattle.device_bus.specs.History.{after_event}
use Rattle.host_events.specs.Hosting.{Hosting}
use Rattle.both_ends.specs.BothEnds.{outcome_to}

-- The devices did the event, the history gained its entry, and the guest took what the devices said, as far as the
-- host tells these.
pub record Exchanged (i : ℕ) (event : Event) (old new : Hosting) (taken : Outcome) : Type 0 where
  pub vcpus : new.vcpus ≡ old.vcpus
  pub devices : new.devices ≡ option_map (λ d. after_event d i event) old.devices
  pub history : new.history ≡ option_map (λ entries. entries ++ record { vcpu = i; event = event } ∷ []) old.history
  pub outcome : IfSome old.devices (λ d. taken ≡ outcome_to d i event)
