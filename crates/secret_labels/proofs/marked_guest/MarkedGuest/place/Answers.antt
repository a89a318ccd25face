use Rattle.std.proofs.Common.{arith, ap}
use Rattle.event_table.specs.Lawful.{count_of}
use Rattle.event_table.specs.declared.event.Event.{Event}
use Rattle.guest_interp.specs.declared.guest.Guest.{Guest}
use Rattle.secret_labels.proofs.Answering.{later_than}
use Rattle.secret_labels.proofs.marked_guest.MarkedGuest.place.Goals as goal

pub returns-clause-later : goal.returns-clause-later
returns-clause-later c =
    let count = ap (λ (e : Event). count_of e) c.note_placed.ensures.event in
    let steps = ap (λ (g : Guest). g.steps) c.note_placed.ensures.guest in
    later_than c.args.self.now.guest.steps c.args.budget c.advance.result _ _ _ _ _ c.advance.ensures.met (omega (arith, c.place_results.ensures.counted, c.requires.some, count, steps))
