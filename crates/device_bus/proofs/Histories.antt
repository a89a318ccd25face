-- Histories, one after another.
use Rattle.std.proofs.Common.{◌≡◌, List, [], ◌∷◌, ◌++◌, refl}
use Rattle.event_table.specs.declared.turn.Entry.{Entry}
use Rattle.device_bus.specs.Devices.{Devices}
use Rattle.device_bus.specs.History.{after_event, after_history}

pub after_history-append : (d : Devices) (xs ys : List Entry) →
    after_history d (xs ++ ys) ≡ after_history (after_history d xs) ys
after_history-append d [] ys = refl
after_history-append d (x ∷ xs) ys = after_history-append (after_event d x.vcpu x.event) xs ys
