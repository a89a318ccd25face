-- The labels after the reply to string I/O.
use Rattle.std.specs.Prelude.{false, if◌then◌else◌, List, [], ◌∷◌}
use Rattle.x86_base.specs.declared.insn.Insn.{Insn}
use Rattle.event_table.specs.declared.places.Place.{Place}
use Rattle.event_table.specs.declared.places.Place.TheVariants.{Fixed}
use Rattle.event_table.specs.Elements.{is_input, string_places}
use Rattle.secret_labels.specs.Labels.{Labels, mark_all}

-- after the elements at these places, one after another: the bytes that an input wrote have no label
abbrev pub cleared : Insn → List Place → Labels → Labels
cleared i [] l = l
cleared i (place ∷ places) l =
    cleared i places (mark_all false ((if is_input i.op then place else Fixed 0) ∷ string_places i) l)
