use Rattle.std.proofs.Common.{◌≡◌, ◌∙◌, Some, List, ℕ, ap}
use Rattle.event_table.specs.declared.event.Event.{Event}
use Rattle.event_table.specs.declared.event.Event.TheVariants.{One, Many}
use Rattle.event_table.specs.Events.{asked_by, placed_by}
use Rattle.event_table.specs.Places.{Vcpu}
use Rattle.string_io.specs.Blocks.{bytes_reply}
use Rattle.guest_interp.specs.Guest.{vcpu_in}
use Rattle.guest_interp.proofs.Going.{one_answered}
use Rattle.guest_interp.proofs.Placing.{answered_alone, answered_block}
use Rattle.guest_interp.proofs.guest.Guest.place_results.Goals as goal

pub returns-in-One-clause-value : goal.returns-in-One-clause-value
returns-in-One-clause-value c =
    let i = c.args.insn.now in
    let v : Vcpu = vcpu_in c.args.self.now in
    let asks : asked_by i v ≡ Some (One c.in-One.field-0) = c.requires.asked.asks ∙ ap (λ (e : Event). Some e) c.in-One.is in
    c.place.ensures.placed
    ∙ answered_alone i v c.args.reply.now c.in-One.field-0 asks ∙ one_answered v c.args.reply.now i c.requires.asked.there

pub returns-in-Many-clause-value : goal.returns-in-Many-clause-value
returns-in-Many-clause-value c =
    let i = c.args.insn.now in
    let v : Vcpu = vcpu_in c.args.self.now in
    let asks : asked_by i v ≡ Some (Many c.in-Many.block) = c.requires.asked.asks ∙ ap (λ (e : Event). Some e) c.in-Many.is in
    c.place_block.ensures.placed
    ∙ ap (λ (bytes : List ℕ). placed_by (bytes_reply bytes) i v) c.as_slice.ensures.all
    ∙ answered_block i v c.in-Many.block c.args.reply.now asks ∙ one_answered v c.args.reply.now i c.requires.asked.there
