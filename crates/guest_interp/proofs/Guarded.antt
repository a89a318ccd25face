-- No instruction writes into the code, and none ends the communication with the host.
use Rattle.std.proofs.Common.{◌≡◌, ℕ, zero, suc, ◌+◌, ◌-◌, ◌*◌, ◌/◌, ◌%◌, ◌^◌, ◌<◌, ◌≤◌, Bool, true, false, not, ◌&&◌, ◌==◌, nat_le, nat_lt, if◌then◌else◌, min, List, [], ◌∷◌, ◌++◌, drop, length, map, Option, None, Some, refl, sym, arith}
use Rattle.std.proofs.lemmas.Bool.{and_parts}
use Rattle.std.proofs.lemmas.Grind.{common_steps}
use Rattle.x86_base.specs.declared.insn.Insn.{Insn}
use Rattle.x86_base.specs.declared.insn.Operand.{Operand}
use Rattle.x86_base.specs.declared.insn.Operand.TheVariants.{Whole}
use Rattle.x86_base.specs.declared.op.Op.{Op}
use Rattle.x86_base.specs.declared.op.Op.TheVariants as op
use Rattle.x86_base.specs.declared.reg.Reg.{Reg}
use Rattle.x86_base.specs.declared.reg.Reg.TheVariants.{Rsp}
use Rattle.x86_base.specs.declared.reg.Width.{Width}
use Rattle.x86_base.specs.declared.reg.Width.TheVariants.{B64}
use Rattle.x86_base.specs.Widths.{size_of}
use Rattle.image_file.specs.declared.header.Header.{Header}
use Rattle.alu_ops.specs.declared.op.AluOp.{AluOp}
use Rattle.alu_ops.specs.declared.op.AluOp.TheVariants.{Shl, Shr, Sar}
use Rattle.event_table.specs.declared.outcome.Reply.{Reply}
use Rattle.event_table.specs.declared.end.End.TheVariants.{Undecoded}
use Rattle.event_table.specs.declared.places.Place.{Place}
use Rattle.event_table.specs.declared.places.Place.TheVariants.{Fixed, Low, Status, Bytes}
use Rattle.event_table.specs.declared.row.Kind.{Kind}
use Rattle.event_table.specs.Ending.{IsOwnEnd}
use Rattle.event_table.specs.Elements.{block_of, can_move, counter, element_of, element_width, is_input, is_string, movable, next_address, numbers_in, taking}
use Rattle.event_table.specs.Events.{event_or, exit_of, event_plan, kind_at, place_if}
use Rattle.event_table.specs.Moves.{is_device, is_from_page, is_move, is_to_page, move_of}
use Rattle.event_table.specs.Places.{Value, Number, number, is_readable, is_writable}
use Rattle.event_table.specs.Plan.{Plan, Ends, Next, Then, Looks, Asks, Setting, place_at, if_readable, if_writable, place_in}
use Rattle.event_table.specs.Raising.{raise_of, frame_size, handler_of, pushed}
use Rattle.event_table.specs.Rows.{event_row}
use Rattle.guest_interp.specs.Table.{arithmetic_to, below, flags_written, is_no_shift, moves_to, moves_where, alu_op_of, other_of, private_by, private_of, pushes, register_of, result_place, sets_where, move, with_sign}
use Rattle.guest_interp.specs.Stepping.{plan_of}
use Rattle.guest_interp.specs.Guarding.{Spares, SparesAll, KeepsCode, CodeStays}

-- both at once, row by row: whatever is looked at and comes back, the changes spare the code, and the ends are the vCPU's own
abbrev pub Guards : ℕ → Plan → Type 0
Guards code (Ends end) = IsOwnEnd end
Guards code Next = Unit {0}
Guards code (Then change rest) = SparesAll code change.targets × SparesAll code change.moved × Guards code rest
Guards code (Looks kind places next) = (values : List Value) → Guards code (next values)
Guards code (Asks event done) = (reply : Reply) → Guards code (done reply)

keeps_code : (code : ℕ) (plan : Plan) → Guards code plan → KeepsCode code plan
keeps_code code (Ends end) guards = tt
keeps_code code Next guards = tt
keeps_code code (Then change rest) guards = (guards.0, guards.1, keeps_code code rest guards.2)
keeps_code code (Looks kind places next) guards = λ values. keeps_code code (next values) (guards values)
keeps_code code (Asks event done) guards = λ reply. keeps_code code (done reply) (guards reply)

above_code : (a b : Bool) → (a && not b) ≡ true → b ≡ false
above_code true true h = sym h
above_code true false h = refl
above_code false b h = absurd (cc)

-- what can be written has no byte of the code
spares_writable : (ram code : ℕ) (p : Place) → is_writable ram code p ≡ true → Spares code p
spares_writable ram code (Bytes at width) h =
    let least = above_code (nat_le (at + size_of width) ram) (nat_lt at code) h in
    grind (arith, common_steps)
spares_writable ram code _ h = tt

guards_if : (code : ℕ) (b : Bool) (p q : Plan) → (b ≡ true → Guards code p) → Guards code q → Guards code (if b then p else q)
guards_if code true p q one other = one refl
guards_if code false p q one other = other

guards_readable : (s : Setting) (p : Place) (plan : Plan) → Guards s.code plan → Guards s.code (if_readable s p plan)
guards_readable s p plan h = guards_if s.code (is_readable s.ram p) plan _ (λ _. h) tt

guards_writable : (s : Setting) (p : Place) (plan : Plan) → (Spares s.code p → Guards s.code plan) → Guards s.code (if_writable s p plan)
guards_writable s p plan h = guards_if s.code (is_writable s.ram s.code p) plan _ (λ w. h (spares_writable s.ram s.code p w)) tt

spares_shift : (code : ℕ) (none : Bool) → Spares code (if none then Fixed 0 else Status)
spares_shift code true = tt
spares_shift code false = tt

spares_flags : (code n : ℕ) (operation : AluOp) (src : Place) → Spares code (flags_written n operation src)
spares_flags code n Shl src = spares_shift code (is_no_shift n src)
spares_flags code n Shr src = spares_shift code (is_no_shift n src)
spares_flags code n Sar src = spares_shift code (is_no_shift n src)
spares_flags code n _ src = tt

guards_arithmetic : (i : Insn) (s : Setting) (operation : AluOp) (dst src : Place) → Guards s.code (arithmetic_to i s operation dst src)
guards_arithmetic i s operation dst src =
    guards_readable s dst _ (guards_readable s src _ (guards_writable s (result_place operation dst) _ (λ w. ((w, (spares_flags s.code _ operation src, tt)), tt, tt))))

guards_moves : (s : Setting) (dst src : Place) (extend : ℕ → ℕ) → Guards s.code (moves_to s dst src extend)
guards_moves s dst src extend = guards_readable s src _ (guards_writable s dst _ (λ w. ((w, tt), tt, tt)))

guards_move : (i : Insn) (s : Setting) (extend : ℕ → ℕ) → Guards s.code (move i s extend)
guards_move i s extend = λ to from. guards_moves s (place_at s.next i.width i.dst to) (place_at s.next i.source_width i.src from) extend

guards_where : (s : Setting) (condition : ℕ) (dst src : Place) → Guards s.code (moves_where s condition dst src)
guards_where s condition dst src = guards_readable s dst _ (guards_readable s src _ (guards_writable s dst _ (λ w. ((w, tt), tt, tt))))

guards_sets : (s : Setting) (condition : ℕ) (dst : Place) → Guards s.code (sets_where s condition dst)
guards_sets s condition dst = guards_writable s dst _ (λ w. ((w, tt), tt, tt))

guards_push : (s : Setting) (top : ℕ) (src : Place) → Guards s.code (pushes s top src)
guards_push s top src = guards_readable s src _ (guards_writable s (Bytes top B64) _ (λ w. ((w, tt), (tt, tt), tt)))

spares_register : (code : ℕ) (o : Operand) → Spares code (register_of o)
spares_register code (Whole reg) = tt
spares_register code _ = tt

guards_other : (o : Op) (i : Insn) (s : Setting) → Guards s.code (other_of o i s)
guards_other op.Mov i s = guards_move i s (λ value. value)
guards_other op.Movzx i s = guards_move i s (λ value. value)
guards_other op.Movsx i s = guards_move i s (with_sign i)
guards_other op.Movsxd i s = guards_move i s (with_sign i)
guards_other op.Lea i s = λ to. guards_writable s (place_at s.next i.width i.dst to) _ (λ w. ((w, tt), tt, tt))
guards_other op.Push i s = λ rsp from. guards_push s (below (number rsp 0) 8) (place_at s.next B64 i.dst from)
guards_other op.Pop i s = λ rsp. guards_readable s (Bytes (number rsp 0) B64) _ ((spares_register s.code i.dst, tt), (tt, tt), tt)
guards_other op.Call i s = λ rsp. guards_writable s (Bytes (below (number rsp 0) 8) B64) _ (λ w. ((w, tt), (tt, tt), tt))
guards_other op.Ret i s = λ rsp. guards_readable s (Bytes (number rsp 0) B64) _ (λ words. (tt, (tt, tt), tt))
guards_other op.Jmp i s = (tt, tt, tt)
guards_other (op.Jcc condition) i s = λ values. (tt, tt, tt)
guards_other (op.Setcc condition) i s = λ to. guards_sets s condition (place_at s.next i.width i.dst to)
guards_other (op.Cmovcc condition) i s = λ to from. guards_where s condition (place_at s.next i.width i.dst to) (place_at s.next i.width i.src from)
guards_other op.Cmc i s = ((tt, tt), tt, tt)
guards_other op.Clc i s = ((tt, tt), tt, tt)
guards_other op.Stc i s = ((tt, tt), tt, tt)
guards_other op.Cld i s = (tt, tt, tt)
guards_other op.Std i s = (tt, tt, tt)
guards_other op.Nop i s = (tt, tt, tt)
guards_other op.Iretq i s = λ rsp. guards_if s.code (nat_le (number rsp 0 + 40) s.ram) _ _ (λ _ words. guards_if s.code ((number words 1 == 8) && (number words 4 == 16)) _ _ (λ _. (tt, (tt, (tt, tt)), tt)) tt) tt
guards_other _ i s = tt

guards_private : (o : Option AluOp) (i : Insn) (s : Setting) → Guards s.code (private_by o i s)
guards_private (Some operation) i s = λ to from. guards_arithmetic i s operation (place_at s.next i.width i.dst to) (place_at s.next i.width i.src from)
guards_private None i s = guards_other i.op i s

spares_if : (code : ℕ) (is : Bool) (reg : Reg) (width : Width) → Spares code (place_if is reg width)
spares_if code true reg width = tt
spares_if code false reg width = tt

-- the results of an event go to registers
guards_event : (s : Setting) (private : Plan) (k : Option Kind) → Guards s.code private → Guards s.code (event_or private k s)
guards_event s private None h = h
guards_event s private (Some k) h = λ seen reply.
    (tt, (spares_if s.code (event_row k).results.a _ _, (spares_if s.code (event_row k).results.c _ _, (spares_if s.code (event_row k).results.d _ _, (spares_if s.code (event_row k).results.b _ _, tt)))), tt)

-- an element of input has no byte of the code
spares_element : (input : Bool) (s : Setting) (p : Place) → can_move input s p ≡ true → Spares s.code (if input then p else Fixed 0)
spares_element true s p can = spares_writable s.ram s.code p can
spares_element false s p can = tt

spares_counter : (code : ℕ) (rep : Bool) → Spares code (counter rep)
spares_counter code true = tt
spares_counter code false = tt

guards_element : (i : Insn) (s : Setting) → Guards s.code (element_of i s)
guards_element i s = λ count.
    guards_if s.code (number count 0 == 0) _ _ (λ _. (tt, tt, tt)) (λ seen.
    guards_if s.code (can_move (is_input i.op) s (Bytes (number seen 0) (element_width i))) _ _
    (λ can shown reply. (tt, (spares_element (is_input i.op) s (Bytes (number seen 0) (element_width i)) can, (tt, (spares_counter s.code i.rep, tt))), tt)) tt)

-- as many elements as can be moved
abbrev taken : Insn → Setting → ℕ → ℕ → List Place → List ℕ → Plan
taken i s at left places bytes = taking i s at left (numbers_in (size_of (element_width i)) (length places) bytes)

guards_more : (can : Bool) (i : Insn) (s : Setting) (at left : ℕ) (rest : List Place) (bytes : List ℕ) → can_move (is_input i.op) s (Bytes at (element_width i)) ≡ can
    → Guards s.code (taken i s (next_address s.df (size_of (element_width i)) at) (left - 1) rest (drop (size_of (element_width i)) bytes))
    → Guards s.code (taken i s at left (if can then Bytes at (element_width i) ∷ rest else []) bytes)
guards_more true i s at left rest bytes can h = (tt, (spares_element (is_input i.op) s (Bytes at (element_width i)) can, (tt, (spares_counter s.code i.rep, tt))), h)
guards_more false i s at left rest bytes can h = tt

guards_taken : (i : Insn) (s : Setting) (most at left : ℕ) (bytes : List ℕ) → Guards s.code (taken i s at left (movable (is_input i.op) (element_width i) s most at) bytes)
guards_taken i s zero at left bytes = tt
guards_taken i s (suc most) at left bytes =
    guards_more (can_move (is_input i.op) s (Bytes at (element_width i))) i s at left _ bytes refl
    (guards_taken i s most (next_address s.df (size_of (element_width i)) at) (left - 1) (drop (size_of (element_width i)) bytes))

guards_block : (i : Insn) (s : Setting) → Guards s.code (block_of i s)
guards_block i s = λ count.
    guards_if s.code (number count 0 == 0) _ _ (λ _. (tt, tt, tt)) (λ seen.
    guards_if s.code (can_move (is_input i.op) s (Bytes (number seen 0) (element_width i))) _ _
    (λ can shown reply. guards_taken i s (min (number count 0) (2032 / size_of (element_width i))) (number seen 0) (number count 0) reply.bytes) tt)

-- a destination of a move from the page can be written
spares_from : (s : Setting) (dst src : Place) → is_from_page s dst src ≡ true → Spares s.code dst
spares_from s dst src from = spares_writable s.ram s.code dst (and_parts (is_device s.ram src) (is_writable s.ram s.code dst) from).1

guards_paged : (i : Insn) (s : Setting) (private : Plan) → Guards s.code private → Guards s.code (move_of i s private)
guards_paged i s private h = λ to from.
    let dst = place_at s.next i.width i.dst to in
    let src = place_at s.next i.source_width i.src from in
    guards_if s.code (is_to_page s dst src) _ _ (λ _ shown reply. (tt, tt, tt))
    (guards_if s.code (is_from_page s dst src) _ _ (λ from reply. (tt, (spares_from s dst src from, tt), tt)) h)

guards_plan : (i : Insn) (s : Setting) (private : Plan) → Guards s.code private → Guards s.code (event_plan i s private)
guards_plan i s private h =
    guards_if s.code (is_string i.op) _ _ (λ _. guards_if s.code s.alone _ _ (λ _. guards_element i s) (guards_block i s))
    (guards_if s.code (is_move i.op) _ _ (λ _. guards_paged i s private h)
    (λ seen. guards_event s private (kind_at i.op i.width (number seen 0)) h))

-- the frame of an exception
frame_room : (t frame ram code : ℕ) → frame < 2 ^ 64 → ram < 2 ^ 64 → (nat_le ((t + 2 ^ 64 - frame) % 2 ^ 64 + frame) ram && not (nat_lt ((t + 2 ^ 64 - frame) % 2 ^ 64) code)) ≡ true → code + frame ≤ t
frame_room t frame ram code f r h =
    let parts = and_parts (nat_le ((t + 2 ^ 64 - frame) % 2 ^ 64 + frame) ram) (not (nat_lt ((t + 2 ^ 64 - frame) % 2 ^ 64) code)) h in
    let ends : (t + 2 ^ 64 - frame) % 2 ^ 64 + frame ≤ ram = grind (arith, common_steps) in
    let starts : code ≤ (t + 2 ^ 64 - frame) % 2 ^ 64 = grind (arith, common_steps) in
    omega arith

guards_frame : (code t error top : ℕ) (gp : Bool) → code + (if gp then 48 else 40) ≤ t →
    SparesAll code (Bytes (t - 8) B64 ∷ Bytes (t - 16) B64 ∷ Bytes (t - 32) B64 ∷ Bytes (t - 40) B64 ∷ map place_in ((if gp then (Bytes (t - 48) B64, Number error) ∷ [] else []) ++ (Low Rsp B64, Number top) ∷ []))
guards_frame code t error top true h = (omega arith, (omega arith, (omega arith, (omega arith, (omega arith, (tt, tt))))))
guards_frame code t error top false h = (omega arith, (omega arith, (omega arith, (omega arith, (tt, tt)))))

frame_least : (gp : Bool) → 24 ≤ (if gp then 48 else 40)
frame_least true = omega arith
frame_least false = omega arith

frame_most : (gp : Bool) → (if gp then 48 else 40) < 2 ^ 64
frame_most true = omega arith
frame_most false = omega arith

guards_pushed : (s : Setting) (handler vector code rsp t : ℕ) → s.code + frame_size vector ≤ t → Guards s.code (Then (pushed s handler vector code rsp t) Next)
guards_pushed s handler vector code rsp t h = let least = frame_least (vector == 13) in ((omega arith, tt), guards_frame s.code t code (t - frame_size vector) (vector == 13) h, tt)

pub guards_raise : (h : Header) (s : Setting) (vector code : ℕ) → s.ram < 2 ^ 64 → Guards s.code (raise_of h s vector code)
guards_raise h s vector code r =
    guards_if s.code (handler_of h vector == 0) _ _ (λ _. tt) (λ values.
    let t = number values 0 / 16 * 16 in
    let top = (t + 2 ^ 64 - frame_size vector) % 2 ^ 64 in
    guards_if s.code (nat_le (top + frame_size vector) s.ram && not (nat_lt top s.code)) _ _
    (λ fits. guards_pushed s (handler_of h vector) vector code (number values 0) t (frame_room t (frame_size vector) s.ram s.code (frame_most (vector == 13)) r fits)) tt)

pub guards_plan_of : (i : Insn) (s : Setting) → Guards s.code (plan_of i s)
guards_plan_of i s = guards_plan i s (private_of i s) (guards_private (alu_op_of i.op) i s)

pub code_stays : CodeStays
code_stays = record {
  instruction = λ i s. keeps_code s.code (plan_of i s) (guards_plan_of i s);
  answer = λ i s. keeps_code s.code (exit_of i s) (guards_plan i s (Ends Undecoded) tt);
  exception = λ h s vector code r. keeps_code s.code (raise_of h s vector code) (guards_raise h s vector code r);
}
