-- The reply to an access that isn't an MMIO read.
use Rattle.std.proofs.Common.{◌≡◌, ℕ, refl}
use Rattle.event_table.specs.declared.access.Access.{Access}
use Rattle.event_table.specs.declared.access.Access.TheVariants as access
use Rattle.event_table.specs.Rows.{event_row, kind_of}
use Rattle.device_bus.specs.declared.answer.Answer.{Answer}
use Rattle.host_events.specs.Served.{access_reply, reply_by}

pub in_registers : (a : Access) (answer : Answer) → ((at len : ℕ) → a ≡ access.MmioRead at len → ⊥) →
    access_reply a answer ≡ reply_by (event_row (kind_of a)).results answer
in_registers (access.MmioRead at len) answer none = absurd (none at len refl)
in_registers _ answer none = refl
