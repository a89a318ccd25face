-- How many items one event makes.
use Rattle.std.specs.Prelude.{ℕ, ◌+◌, ◌<◌, List, length}
use Rattle.page_words.specs.declared.item.Item.{Item}
use Rattle.page_words.specs.Dialogue.{Follows, listen, over}
use Rattle.event_table.specs.declared.event.Event.{Event}
use Rattle.event_table.specs.Lawful.{IsLawfulEvent}
use Rattle.event_table.specs.declared.outcome.Outcome.{Outcome}
use Rattle.vc_handler.specs.Accept.{accepting}
use Rattle.vc_handler.specs.Wire.{wire}

-- A lawful event's wire form, the loads of its reply and a termination's exit are fewer than 320 items together.
abbrev pub FewItems : Type 0
FewItems = (i : ℕ) (event : Event) (outcome : Outcome) (loads : List Item) → IsLawfulEvent event →
    Follows (listen (accepting event) (λ o. over o)) loads outcome → length (wire i event) + length loads + 1 < 320
