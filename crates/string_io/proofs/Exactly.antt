-- An event is asked exactly where an access is.
use Rattle.std.proofs.Common.{◌≡◌, ℕ, ◌==◌, Bool, true, false, map, refl, [], ◌∷◌, Option, None, Some}
use Rattle.std.specs.Prelude.{if◌then◌else◌, is_some}
use Rattle.x86_base.specs.declared.insn.Insn.{Insn}
use Rattle.event_table.specs.declared.end.End.TheVariants.{Undecoded}
use Rattle.event_table.specs.declared.places.Place.TheVariants.{Bytes}
use Rattle.event_table.specs.declared.row.Kind.{Kind}
use Rattle.event_table.specs.Elements.{block_of, can_move, element_of, element_width, is_input, is_string}
use Rattle.event_table.specs.Events.{asked_apart, asked_by, event_or, kind_at, port_at}
use Rattle.event_table.specs.Moves.{is_move}
use Rattle.event_table.specs.Places.{Vcpu, number, read}
use Rattle.event_table.specs.Plan.{Plan, Ends, apart, event_asked, setting}
use Rattle.string_io.proofs.Along.{at_of, left_of}

-- plans that go by the same tests
by_test : (t : Bool) (v : Vcpu) (p q r s : Plan) → is_some (event_asked v p) ≡ is_some (event_asked v r) → is_some (event_asked v q) ≡ is_some (event_asked v s)
    → is_some (event_asked v (if t then p else q)) ≡ is_some (event_asked v (if t then r else s))
by_test true v p q r s one other = one
by_test false v p q r s one other = other

string_exactly : (i : Insn) (v : Vcpu) → is_some (event_asked v (block_of i (setting v i.len))) ≡ is_some (event_asked v (element_of i (apart v i.len)))
string_exactly i v =
    by_test (left_of i.rep v == 0) v _ _ _ _ refl
    (by_test (can_move (is_input i.op) (setting v i.len) (Bytes (at_of i v) (element_width i))) v _ _ _ _ refl refl)

event_exactly : (k : Option Kind) (v : Vcpu) (len : ℕ) →
    is_some (event_asked v (event_or (Ends Undecoded) k (setting v len))) ≡ is_some (event_asked v (event_or (Ends Undecoded) k (apart v len)))
event_exactly None v len = refl
event_exactly (Some k) v len = refl

pub asked_exactly : (i : Insn) (v : Vcpu) → is_some (asked_by i v) ≡ is_some (asked_apart i v)
asked_exactly i v =
    by_test (is_string i.op) v _ _ _ _ (string_exactly i v)
    (by_test (is_move i.op) v _ _ _ _ refl (event_exactly (kind_at i.op i.width (number (map (read v) (port_at i.op i ∷ [])) 0)) v i.len))
