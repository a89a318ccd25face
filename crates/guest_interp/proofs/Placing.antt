-- The reply to the event that an instruction asks is placed by its kind: that of one access, or of a block.
use Rattle.std.proofs.Common.{◌≡◌, ℕ, ◌==◌, Bool, true, false, [], ◌∷◌, Option, Some, None, map, refl, sym, ◌∙◌}
use Rattle.std.specs.Prelude.{if◌then◌else◌}
use Rattle.x86_base.specs.declared.insn.Insn.{Insn}
use Rattle.x86_base.specs.declared.op.Op.{Op}
use Rattle.x86_base.specs.declared.op.Op.TheVariants as op
use Rattle.x86_base.specs.declared.reg.Width.{Width}
use Rattle.event_table.specs.declared.access.Access.{Access}
use Rattle.event_table.specs.declared.block.Block.{Block}
use Rattle.event_table.specs.declared.end.End.TheVariants.{Undecoded}
use Rattle.event_table.specs.declared.event.Event.TheVariants.{One, Many}
use Rattle.event_table.specs.declared.outcome.Reply.{Reply}
use Rattle.event_table.specs.declared.places.Place.TheVariants.{Bytes}
use Rattle.event_table.specs.declared.row.Kind.{Kind}
use Rattle.event_table.specs.Elements.{block_of, can_move, element_width, is_input, is_string}
use Rattle.event_table.specs.Events.{asked_by, event_or, kind_at, placed_apart, placed_by, port_at}
use Rattle.event_table.specs.Moves.{is_from_page, is_move, is_to_page, move_of}
use Rattle.event_table.specs.Places.{Vcpu, number, read}
use Rattle.event_table.specs.Plan.{Plan, Ends, Setting, apart, event_asked, reply_with, setting, step_answered}
use Rattle.string_io.specs.Blocks.{bytes_reply, next_block}
use Rattle.string_io.proofs.Along.{at_of, left_of}
use Rattle.string_io.proofs.Whole.{block_says, placed_takes}
use Rattle.guest_interp.proofs.Going.{dst_of, src_of}

-- a string instruction asks a block
none_one : (t : Bool) (v : Vcpu) (p q : Plan) (access : Access) → (event_asked v p ≡ Some (One access) → ⊥) → (event_asked v q ≡ Some (One access) → ⊥)
    → event_asked v (if t then p else q) ≡ Some (One access) → ⊥
none_one true v p q access one other is = one is
none_one false v p q access one other is = other is

pub not_one : (i : Insn) (v : Vcpu) (access : Access) → event_asked v (block_of i (setting v i.len)) ≡ Some (One access) → ⊥
not_one i v access one =
    none_one (left_of i.rep v == 0) v _ _ access (λ is. absurd (cc))
    (none_one (can_move (is_input i.op) (setting v i.len) (Bytes (at_of i v) (element_width i))) v _ _ access (λ is. absurd (cc)) (λ is. absurd (cc))) one

-- one access is answered alike, whether elements are taken alone or together
registers_alike : (k : Option Kind) (v : Vcpu) (len : ℕ) (reply : Reply) →
    step_answered (reply_with reply.values) v (event_or (Ends Undecoded) k (apart v len)) ≡ step_answered reply v (event_or (Ends Undecoded) k (setting v len))
registers_alike None v len reply = refl
registers_alike (Some k) v len reply = refl

alike_by : (string : Bool) (v : Vcpu) (reply : Reply) (access : Access) (p q r s : Plan) → (event_asked v p ≡ Some (One access) → ⊥)
    → step_answered (reply_with reply.values) v s ≡ step_answered reply v q → event_asked v (if string then p else q) ≡ Some (One access)
    → step_answered (reply_with reply.values) v (if string then r else s) ≡ step_answered reply v (if string then p else q)
alike_by true v reply access p q r s not same one = absurd (not one)
alike_by false v reply access p q r s not same one = same

alike_if : (t : Bool) (v : Vcpu) (reply : Reply) (p q r s : Plan) → step_answered (reply_with reply.values) v r ≡ step_answered reply v p
    → step_answered (reply_with reply.values) v s ≡ step_answered reply v q
    → step_answered (reply_with reply.values) v (if t then r else s) ≡ step_answered reply v (if t then p else q)
alike_if true v reply p q r s one other = one
alike_if false v reply p q r s one other = other

moved_alike : (i : Insn) (v : Vcpu) (reply : Reply) →
    step_answered (reply_with reply.values) v (move_of i (apart v i.len) (Ends Undecoded)) ≡ step_answered reply v (move_of i (setting v i.len) (Ends Undecoded))
moved_alike i v reply =
    let s = setting v i.len in
    alike_if (is_to_page s (dst_of i s v) (src_of i s v)) v reply _ _ _ _ refl
    (alike_if (is_from_page s (dst_of i s v) (src_of i s v)) v reply _ _ _ _ refl refl)

pub answered_alone : (i : Insn) (v : Vcpu) (reply : Reply) (access : Access) → asked_by i v ≡ Some (One access) → placed_apart reply.values i v ≡ placed_by reply i v
answered_alone i v reply access asks =
    alike_by (is_string i.op) v reply access _ _ _ _ (not_one i v access)
    (alike_if (is_move i.op) v reply _ _ _ _ (moved_alike i v reply) (registers_alike (kind_at i.op i.width (number (map (read v) (port_at i.op i ∷ [])) 0)) v i.len reply)) asks

-- neither plan asks a block
none_many : (t : Bool) (v : Vcpu) (p q : Plan) (b : Block) → (event_asked v p ≡ Some (Many b) → ⊥) → (event_asked v q ≡ Some (Many b) → ⊥)
    → event_asked v (if t then p else q) ≡ Some (Many b) → ⊥
none_many true v p q b one other many = one many
none_many false v p q b one other many = other many

-- an event of one access is no block
registers_alone : (o : Op) (width : Width) (port : ℕ) (s : Setting) (v : Vcpu) (b : Block) → event_asked v (event_or (Ends Undecoded) (kind_at o width port) s) ≡ Some (Many b) → ⊥
registers_alone op.Out width port s v b many = absurd (cc)
registers_alone op.In width port s v b many = absurd (cc)
registers_alone op.Cpuid width port s v b many = absurd (cc)
registers_alone op.Rdmsr width port s v b many = absurd (cc)
registers_alone op.Wrmsr width port s v b many = absurd (cc)
registers_alone op.Rdtsc width port s v b many = absurd (cc)
registers_alone op.Rdtscp width port s v b many = absurd (cc)
registers_alone op.Rdpmc width port s v b many = absurd (cc)
registers_alone op.Wbinvd width port s v b many = absurd (cc)
registers_alone op.Vmmcall width port s v b many = absurd (cc)
registers_alone _ width port s v b many = absurd (cc)

moved_alone : (i : Insn) (v : Vcpu) (b : Block) → event_asked v (move_of i (setting v i.len) (Ends Undecoded)) ≡ Some (Many b) → ⊥
moved_alone i v b many =
    let s = setting v i.len in
    none_many (is_to_page s (dst_of i s v) (src_of i s v)) v _ _ b (λ one. absurd (cc))
    (none_many (is_from_page s (dst_of i s v) (src_of i s v)) v _ _ b (λ one. absurd (cc)) (λ one. absurd (cc))) many

block_by : (string : Bool) (v : Vcpu) (p q : Plan) (b : Block) → (event_asked v q ≡ Some (Many b) → ⊥) → event_asked v (if string then p else q) ≡ Some (Many b)
    → (if string then event_asked v p else None) ≡ Some (Many b)
block_by true v p q b not many = many
block_by false v p q b not many = absurd (not many)

-- a block that is asked is the next of a string instruction
pub asked_block : (i : Insn) (v : Vcpu) (b : Block) → asked_by i v ≡ Some (Many b) → next_block i v ≡ Some (Many b)
asked_block i v b asks =
    block_by (is_string i.op) v _ _ b
    (none_many (is_move i.op) v _ _ b (moved_alone i v b)
    (registers_alone i.op i.width (number (map (read v) (port_at i.op i ∷ [])) 0) (setting v i.len) v b)) asks

-- of its reply the bytes alone are looked at
pub answered_block : (i : Insn) (v : Vcpu) (b : Block) (reply : Reply) → asked_by i v ≡ Some (Many b) → placed_by (bytes_reply reply.bytes) i v ≡ placed_by reply i v
answered_block i v b reply asks =
    let says = block_says i v b (asked_block i v b asks) in
    placed_takes i v b (bytes_reply reply.bytes) says ∙ sym (placed_takes i v b reply says)
