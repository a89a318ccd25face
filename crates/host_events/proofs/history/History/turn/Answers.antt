use Rattle.std.proofs.Common.{◌≡◌, ◌<◌, ◌∙◌, List, ap, length, subst}
use Rattle.std.specs.Prelude.{get_or, map, slice_get}
use Rattle.event_table.specs.Turns.{turn_of}
use Rattle.host_events.specs.declared.history.KeptEntry.{KeptEntry}
use Rattle.host_events.proofs.Keeping.{turn_kept}
use Rattle.host_events.proofs.history.History.turn.Goals as goal

pub returns : goal.returns
returns c =
    let h = c.self.inside in
    let e = c.in_ok-entry.entry.now in
    let found = c.in_ok-entry.ensures.lookup in
    let within : c.args.index < length h.entries.items =
    subst (λ (es : List KeptEntry). c.args.index < length es) c.deref.ensures.value found.3.0 in
    let is : e ≡ get_or h.entries.items c.args.index e =
    subst (λ (es : List KeptEntry). e ≡ get_or es c.args.index e) c.deref.ensures.value found.1 in
    record {
      turn =
          turn_kept h.bytes.items h.entries.items e c.args.index c.count.result within is (c.count.ensures.count h.bytes.items)
          ∙ ap (λ es. slice_get (map turn_of es) c.args.index) c.self.view_is;
    }
