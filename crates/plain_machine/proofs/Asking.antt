-- An instruction that exits asks for an event of the table, with nothing changed before.
use Rattle.std.proofs.Common.{◌≡◌, ℕ, ◌+◌, Bool, true, false, ◌==◌, ◌&&◌, nat_le, if◌then◌else◌, List, [], ◌∷◌, map, Option, None, Some, Result, Ok, Err, refl}
use Rattle.x86_base.specs.declared.insn.Insn.{Insn}
use Rattle.x86_base.specs.declared.op.Op.{Op}
use Rattle.x86_base.specs.declared.op.Op.TheVariants as op
use Rattle.x86_base.specs.declared.reg.Width.TheVariants.{B64}
use Rattle.alu_ops.specs.declared.op.AluOp.{AluOp}
use Rattle.event_table.specs.declared.event.Event.{Event}
use Rattle.event_table.specs.declared.event.Event.TheVariants.{One}
use Rattle.event_table.specs.declared.access.Access.{Access}
use Rattle.event_table.specs.declared.end.End.{End}
use Rattle.event_table.specs.declared.end.End.TheVariants.{Undecoded}
use Rattle.event_table.specs.declared.places.Place.{Place}
use Rattle.event_table.specs.declared.places.Place.TheVariants.{Bytes}
use Rattle.event_table.specs.declared.row.Kind.{Kind}
use Rattle.event_table.specs.Elements.{block_of, can_move, element_width, is_input, is_string}
use Rattle.event_table.specs.Events.{asked_apart, asked_by, event_or, kind_at, port_at}
use Rattle.event_table.specs.Moves.{from_page, is_from_page, is_move, is_to_page, move_of, to_page}
use Rattle.event_table.specs.Places.{Value, Vcpu, number, read, is_readable, is_writable}
use Rattle.event_table.specs.Plan.{Plan, Ends, Next, Then, Looks, Asks, Setting, Exits, apart, apply, event_asked, if_readable, if_writable, place_at, setting, stepped}
use Rattle.guest_interp.specs.Stepping.{insn_at, plan_by, plan_of, step_of}
use Rattle.guest_interp.specs.Table.{alu_op_of, below, moves_to, other_of, private_by, private_of, result_place, move, with_sign}
use Rattle.guest_interp.proofs.Going.{dst_of, src_of}
use Rattle.guest_interp.proofs.Placing.{not_one}
use Rattle.string_io.proofs.Along.{at_of, left_of}

-- nothing is asked
abbrev Asksless : Plan → Type 0
Asksless (Ends end) = Unit {0}
Asksless Next = Unit {0}
Asksless (Then change rest) = Asksless rest
Asksless (Looks kind places next) = (values : List Value) → Asksless (next values)
Asksless (Asks event done) = ⊥

asksless_if : (t : Bool) (p q : Plan) → Asksless p → Asksless q → Asksless (if t then p else q)
asksless_if true p q one other = one
asksless_if false p q one other = other

asksless_readable : (s : Setting) (p : Place) (plan : Plan) → Asksless plan → Asksless (if_readable s p plan)
asksless_readable s p plan h = asksless_if (is_readable s.ram p) plan _ h tt

asksless_writable : (s : Setting) (p : Place) (plan : Plan) → Asksless plan → Asksless (if_writable s p plan)
asksless_writable s p plan h = asksless_if (is_writable s.ram s.code p) plan _ h tt

asksless_moves : (s : Setting) (dst src : Place) (extend : ℕ → ℕ) → Asksless (moves_to s dst src extend)
asksless_moves s dst src extend = asksless_readable s src _ (asksless_writable s dst _ tt)

asksless_move : (i : Insn) (s : Setting) (extend : ℕ → ℕ) → Asksless (move i s extend)
asksless_move i s extend = λ to from. asksless_moves s (place_at s.next i.width i.dst to) (place_at s.next i.source_width i.src from) extend

asksless_other : (o : Op) (i : Insn) (s : Setting) → Asksless (other_of o i s)
asksless_other op.Mov i s = asksless_move i s (λ value. value)
asksless_other op.Movzx i s = asksless_move i s (λ value. value)
asksless_other op.Movsx i s = asksless_move i s (with_sign i)
asksless_other op.Movsxd i s = asksless_move i s (with_sign i)
asksless_other op.Lea i s = λ to. asksless_writable s (place_at s.next i.width i.dst to) _ tt
asksless_other op.Push i s = λ rsp from. asksless_readable s (place_at s.next B64 i.dst from) _ (asksless_writable s (Bytes (below (number rsp 0) 8) B64) _ tt)
asksless_other op.Pop i s = λ rsp. asksless_readable s (Bytes (number rsp 0) B64) _ tt
asksless_other op.Call i s = λ rsp. asksless_writable s (Bytes (below (number rsp 0) 8) B64) _ tt
asksless_other op.Ret i s = λ rsp. asksless_readable s (Bytes (number rsp 0) B64) _ (λ words. tt)
asksless_other op.Jmp i s = tt
asksless_other (op.Jcc condition) i s = λ values. tt
asksless_other (op.Setcc condition) i s = λ to. asksless_writable s (place_at s.next i.width i.dst to) _ tt
asksless_other (op.Cmovcc condition) i s = λ to from.
    asksless_readable s (place_at s.next i.width i.dst to) _ (asksless_readable s (place_at s.next i.width i.src from) _ (asksless_writable s (place_at s.next i.width i.dst to) _ tt))
asksless_other op.Cmc i s = tt
asksless_other op.Clc i s = tt
asksless_other op.Stc i s = tt
asksless_other op.Cld i s = tt
asksless_other op.Std i s = tt
asksless_other op.Nop i s = tt
asksless_other op.Iretq i s = λ rsp. asksless_if (nat_le (number rsp 0 + 40) s.ram) _ _ (λ words. asksless_if ((number words 1 == 8) && (number words 4 == 16)) _ _ tt tt) tt
asksless_other _ i s = tt

asksless_private : (o : Option AluOp) (i : Insn) (s : Setting) → Asksless (private_by o i s)
asksless_private (Some operation) i s = λ to from.
    asksless_readable s (place_at s.next i.width i.dst to) _
    (asksless_readable s (place_at s.next i.width i.src from) _
    (asksless_writable s (result_place operation (place_at s.next i.width i.dst to)) _ tt))
asksless_private None i s = asksless_other i.op i s

never_exits : (v w : Vcpu) (plan : Plan) (event : Event) → Asksless plan → stepped v plan ≡ Exits event w → ⊥
never_exits v w (Ends end) event h is = absurd (cc)
never_exits v w Next event h is = absurd (cc)
never_exits v w (Then change rest) event h is = never_exits (apply change v) w rest event h is
never_exits v w (Looks kind places next) event h is = never_exits v w (next (map (read v) places)) event (h (map (read v) places)) is
never_exits v w (Asks asked done) event h is = absurd h

-- the vCPU is as it was, and the event is the plan's
abbrev IsAsked : Vcpu → Vcpu → Event → Plan → Type 0
IsAsked v w event plan = (w ≡ v) × (event_asked v plan ≡ Some event)

exits_if : (t : Bool) (v w : Vcpu) (event : Event) (p q r : Plan) → (stepped v p ≡ Exits event w → IsAsked v w event p) → (stepped v q ≡ Exits event w → IsAsked v w event r) →
    stepped v (if t then p else q) ≡ Exits event w → IsAsked v w event (if t then p else r)
exits_if true v w event p q r one other is = one is
exits_if false v w event p q r one other is = other is

exits_both : (t : Bool) (v w : Vcpu) (event : Event) (p q r s : Plan) → (stepped v p ≡ Exits event w → IsAsked v w event r) → (stepped v q ≡ Exits event w → IsAsked v w event s) →
    stepped v (if t then p else q) ≡ Exits event w → IsAsked v w event (if t then r else s)
exits_both true v w event p q r s one other is = one is
exits_both false v w event p q r s one other is = other is

-- a plan that asks at once
asks_at_once : (v w : Vcpu) (asked event : Event) → Exits asked v ≡ Exits event w → (w ≡ v) × (Some asked ≡ Some event)
asks_at_once v w asked event is = (cc, cc)

exits_block : (i : Insn) (v w : Vcpu) (event : Event) → stepped v (block_of i (setting v i.len)) ≡ Exits event w → IsAsked v w event (block_of i (setting v i.len))
exits_block i v w event =
    exits_if (left_of i.rep v == 0) v w event _ _ _ (λ is. absurd (cc))
    (exits_if (can_move (is_input i.op) (setting v i.len) (Bytes (at_of i v) (element_width i))) v w event _ _ _ (λ is. asks_at_once v w _ event is) (λ is. absurd (cc)))

exits_registers : (k : Option Kind) (i : Insn) (v w : Vcpu) (event : Event) → stepped v (event_or (private_of i (setting v i.len)) k (setting v i.len)) ≡ Exits event w →
    IsAsked v w event (event_or (Ends Undecoded) k (setting v i.len))
exits_registers None i v w event is = absurd (never_exits v w (private_of i (setting v i.len)) event (asksless_private (alu_op_of i.op) i (setting v i.len)) is)
exits_registers (Some k) i v w event is = asks_at_once v w _ event is

exits_paged : (i : Insn) (v w : Vcpu) (event : Event) → stepped v (move_of i (setting v i.len) (private_of i (setting v i.len))) ≡ Exits event w →
    IsAsked v w event (move_of i (setting v i.len) (Ends Undecoded))
exits_paged i v w event =
    let s = setting v i.len in
    exits_if (is_to_page s (dst_of i s v) (src_of i s v)) v w event (to_page i s (dst_of i s v) (src_of i s v)) _ _ (λ is. asks_at_once v w _ event is)
    (exits_if (is_from_page s (dst_of i s v) (src_of i s v)) v w event (from_page i s (dst_of i s v) (src_of i s v)) (private_of i s) (Ends Undecoded) (λ is. asks_at_once v w _ event is)
    (λ is. absurd (never_exits v w (private_of i s) event (asksless_private (alu_op_of i.op) i s) is)))

-- an instruction that exits
exits_asked : (i : Insn) (v w : Vcpu) (event : Event) → stepped v (plan_of i (setting v i.len)) ≡ Exits event w → (w ≡ v) × (asked_by i v ≡ Some event)
exits_asked i v w event is =
    exits_if (is_string i.op) v w event _ _ _ (exits_block i v w event)
    (exits_both (is_move i.op) v w event _ _ _ _ (exits_paged i v w event)
    (exits_registers (kind_at i.op i.width (number (map (read v) (port_at i.op i ∷ [])) 0)) i v w event)) is

-- the instruction that a vCPU exits by
pub record ExitsBy (v : Vcpu) (event : Event) : Type 0 where
  pub insn : Insn
  pub here : insn_at v.ram v.regs.rip ≡ Ok insn
  pub asks : asked_by insn v ≡ Some event

exits_here : (r : Result Insn End) (v w : Vcpu) (event : Event) → insn_at v.ram v.regs.rip ≡ r → stepped v (plan_by r v) ≡ Exits event w → (w ≡ v) × ExitsBy v event
exits_here (Ok i) v w event here is = let asked = exits_asked i v w event is in (asked.0, record { insn = i; here = here; asks = asked.1 })
exits_here (Err end) v w event here is = absurd (cc)

pub exits_by : (v w : Vcpu) (event : Event) → step_of v ≡ Exits event w → (w ≡ v) × ExitsBy v event
unfolding step_of
exits_by v w event is = exits_here (insn_at v.ram v.regs.rip) v w event refl is

-- one access is asked alike where elements are asked alone
registers_apart : (k : Option Kind) (v : Vcpu) (len : ℕ) → event_asked v (event_or (Ends Undecoded) k (apart v len)) ≡ event_asked v (event_or (Ends Undecoded) k (setting v len))
registers_apart None v len = refl
registers_apart (Some k) v len = refl

apart_if : (string : Bool) (v : Vcpu) (access : Access) (p q r s : Plan) → (event_asked v p ≡ Some (One access) → ⊥) → event_asked v s ≡ event_asked v q →
    event_asked v (if string then p else q) ≡ Some (One access) → event_asked v (if string then r else s) ≡ event_asked v (if string then p else q)
apart_if true v access p q r s not same one = absurd (not one)
apart_if false v access p q r s not same one = same

same_if : (t : Bool) (v : Vcpu) (p q r : Plan) → event_asked v r ≡ event_asked v q → event_asked v (if t then p else r) ≡ event_asked v (if t then p else q)
same_if true v p q r same = refl
same_if false v p q r same = same

pub asked_alone : (i : Insn) (v : Vcpu) (access : Access) → asked_by i v ≡ Some (One access) → asked_apart i v ≡ asked_by i v
asked_alone i v access asks =
    apart_if (is_string i.op) v access _ _ _ _ (not_one i v access)
    (same_if (is_move i.op) v (move_of i (setting v i.len) (Ends Undecoded)) _ _
    (registers_apart (kind_at i.op i.width (number (map (read v) (port_at i.op i ∷ [])) 0)) v i.len)) asks
