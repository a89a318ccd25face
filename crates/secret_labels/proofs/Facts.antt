-- What the instruction table gives for the labels, rule by rule.
use Rattle.std.proofs.Common.{refl, ◌∙◌, if◌then◌else◌, ◌≡◌, ℕ, ◌+◌, ◌-◌, ◌*◌, ◌/◌, ◌%◌, ◌^◌, ◌==◌, Bool, true, false, not, ◌&&◌, nat_le, nat_lt, [], ◌∷◌, map}
use Rattle.x86_base.specs.declared.insn.Insn.{Insn}
use Rattle.x86_base.specs.declared.insn.Operand.TheVariants.{Absent, Whole, Memory, Imm}
use Rattle.x86_base.specs.declared.memory.MemRef.{MemRef}
use Rattle.x86_base.specs.declared.op.Op.{Op}
use Rattle.x86_base.specs.declared.op.Op.TheVariants as op
use Rattle.x86_base.specs.declared.reg.Reg.{Reg}
use Rattle.x86_base.specs.declared.reg.Reg.TheVariants.{Rax, Rcx, Rdx, Rsp}
use Rattle.x86_base.specs.declared.reg.Width.{Width}
use Rattle.x86_base.specs.declared.reg.Width.TheVariants.{B8, B16, B32, B64}
use Rattle.x86_base.specs.Registers.{whole}
use Rattle.x86_base.specs.Widths.{bits_of, low}
use Rattle.alu_ops.specs.Outcome.{shift_count_of}
use Rattle.image_file.specs.declared.header.Header.{Header}
use Rattle.event_table.specs.declared.outcome.Reply.{Reply}
use Rattle.event_table.specs.declared.places.Place.{Place}
use Rattle.event_table.specs.declared.places.Place.TheVariants.{Low, Status, StatusButCarry, Carry, Bytes}
use Rattle.event_table.specs.declared.row.Kind.{Kind}
use Rattle.event_table.specs.declared.row.Kind.TheVariants as kind
use Rattle.event_table.specs.Elements.{can_move, counter, element_width, elements, is_input, is_string, pointer, port_width, shown_of, string_places, taking}
use Rattle.event_table.specs.Events.{exit_of, port_of, results_to, shown_places}
use Rattle.event_table.specs.Moves.{from_page, is_in_page, to_page}
use Rattle.event_table.specs.Places.{Vcpu, number, read, is_readable, is_writable}
use Rattle.event_table.specs.Plan.{Plan, Address, Branch, Named, Setting, Use, address_places, place_in}
use Rattle.event_table.specs.Raising.{frame_size, handler_of, raise_of}
use Rattle.event_table.specs.Rows.{event_row}
use Rattle.guest_interp.specs.Table.{below, five_words, private_of}
use Rattle.secret_labels.specs.Labels.{Labels, Noted, Uses, Quiet, any, is_labelled, label_of, mark, mark_all, noted, noted_after}
use Rattle.secret_labels.specs.Rules.{with_op, address_of, element_at, left_of, pushed_places, Leaves, IsUsed, IsQuiet, IsSum, IsComparison, IsCarrySum, IsCount, IsShift, IsMove, IsIdle, HasOperands, IsStacked, IsEvent, ValueRules, FlagRules, MemoryRules, StackRules, EventRules, StringRules, ExceptionRules, LabelRules}

-- VALUES

values_move : (o : Op) → IsMove o → (i : Insn) (w : Width) (a b : Reg) →
    Leaves (with_op i o w (Whole a) (Whole b)) (λ l. mark (label_of l b) (Low a w) l)
values_move op.Mov h i w a b l v s = refl
values_move op.Movzx h i w a b l v s = refl
values_move op.Movsx h i w a b l v s = refl
values_move op.Movsxd h i w a b l v s = refl
values_move _ h i w a b l v s = absurd h

values_constant : (o : Op) → IsMove o → (i : Insn) (w : Width) (a : Reg) (n : ℕ) →
    Leaves (with_op i o w (Whole a) (Imm n)) (λ l. mark false (Low a w) l)
values_constant op.Mov h i w a n l v s = refl
values_constant op.Movzx h i w a n l v s = refl
values_constant op.Movsx h i w a n l v s = refl
values_constant op.Movsxd h i w a n l v s = refl
values_constant _ h i w a n l v s = absurd h

values_address : (i : Insn) (w : Width) (a : Reg) (mem : MemRef) →
    Leaves (with_op i op.Lea w (Whole a) (Memory mem)) (λ l. mark (any l (address_places (Memory mem))) (Low a w) l)
values_address i w a mem l v s = refl

values_sum : (o : Op) → IsSum o → (i : Insn) (w : Width) (a b : Reg) →
    Leaves (with_op i o w (Whole a) (Whole b))
    (λ l. let is = any l (Low a w ∷ Low b w ∷ []) in mark is Status (mark is (Low a w) l))
values_sum op.Add h i w a b l v s = refl
values_sum op.Or h i w a b l v s = refl
values_sum op.And h i w a b l v s = refl
values_sum op.Sub h i w a b l v s = refl
values_sum op.Xor h i w a b l v s = refl
values_sum op.Imul h i w a b l v s = refl
values_sum _ h i w a b l v s = absurd h

values_comparison : (o : Op) → IsComparison o → (i : Insn) (w : Width) (a b : Reg) →
    Leaves (with_op i o w (Whole a) (Whole b)) (λ l. mark (any l (Low a w ∷ Low b w ∷ [])) Status l)
values_comparison op.Cmp h i w a b l v s = refl
values_comparison op.Test h i w a b l v s = refl
values_comparison _ h i w a b l v s = absurd h

values_carry_sum : (o : Op) → IsCarrySum o → (i : Insn) (w : Width) (a b : Reg) →
    Leaves (with_op i o w (Whole a) (Whole b))
    (λ l. let is = any l (Low a w ∷ Low b w ∷ Status ∷ []) in mark is Status (mark is (Low a w) l))
values_carry_sum op.Adc h i w a b l v s = refl
values_carry_sum op.Sbb h i w a b l v s = refl
values_carry_sum _ h i w a b l v s = absurd h

values_count : (o : Op) → IsCount o → (i : Insn) (w : Width) (a : Reg) →
    Leaves (with_op i o w (Whole a) Absent)
    (λ l. mark (label_of l a) StatusButCarry (mark (label_of l a) (Low a w) l))
values_count op.Inc h i w a l v s = refl
values_count op.Dec h i w a l v s = refl
values_count _ h i w a l v s = absurd h

values_negation : (i : Insn) (w : Width) (a : Reg) →
    Leaves (with_op i op.Neg w (Whole a) Absent)
    (λ l. mark (label_of l a) Status (mark (label_of l a) (Low a w) l))
values_negation i w a l v s = refl

values_complement : (i : Insn) (w : Width) (a : Reg) →
    Leaves (with_op i op.Not w (Whole a) Absent) (λ l. mark (label_of l a) (Low a w) l)
values_complement i w a l v s = refl

values_shift_by_none : (o : Op) → IsShift o → (i : Insn) (w : Width) (a : Reg) (n : ℕ) →
    (shift_count_of (bits_of w) (low w n) == 0) ≡ true →
    Leaves (with_op i o w (Whole a) (Imm n)) (λ l. mark (label_of l a) (Low a w) l)
values_shift_by_none op.Shl h i w a n e l v s = rw e refl
values_shift_by_none op.Shr h i w a n e l v s = rw e refl
values_shift_by_none op.Sar h i w a n e l v s = rw e refl
values_shift_by_none _ h i w a n e l v s = absurd h

values_shift_by_some : (o : Op) → IsShift o → (i : Insn) (w : Width) (a : Reg) (n : ℕ) →
    (shift_count_of (bits_of w) (low w n) == 0) ≡ false →
    Leaves (with_op i o w (Whole a) (Imm n)) (λ l. mark (label_of l a) Status (mark (label_of l a) (Low a w) l))
values_shift_by_some op.Shl h i w a n e l v s = rw e refl
values_shift_by_some op.Shr h i w a n e l v s = rw e refl
values_shift_by_some op.Sar h i w a n e l v s = rw e refl
values_shift_by_some _ h i w a n e l v s = absurd h

values_shift_by_register : (o : Op) → IsShift o → (i : Insn) (w : Width) (a : Reg) →
    Leaves (with_op i o w (Whole a) (Whole Rcx))
    (λ l. let is = any l (Low a w ∷ Low Rcx w ∷ Status ∷ []) in mark is Status (mark is (Low a w) l))
values_shift_by_register op.Shl h i w a l v s = refl
values_shift_by_register op.Shr h i w a l v s = refl
values_shift_by_register op.Sar h i w a l v s = refl
values_shift_by_register _ h i w a l v s = absurd h

values : ValueRules
values = record { move = values_move; constant = values_constant; address = values_address; sum = values_sum; comparison = values_comparison; carry_sum = values_carry_sum; count = values_count; negation = values_negation; complement = values_complement; shift_by_none = values_shift_by_none; shift_by_some = values_shift_by_some; shift_by_register = values_shift_by_register }

-- THE FLAGS

flags_set_where : (condition : ℕ) (i : Insn) (w : Width) (a : Reg) →
    Leaves (with_op i (op.Setcc condition) w (Whole a) Absent) (λ l. mark l.status (Low a w) l)
flags_set_where condition i w a l v s = refl

flags_move_where : (condition : ℕ) (i : Insn) (w : Width) (a b : Reg) →
    Leaves (with_op i (op.Cmovcc condition) w (Whole a) (Whole b))
    (λ l. mark (any l (Status ∷ Low a w ∷ Low b w ∷ [])) (Low a w) l)
flags_move_where condition i w a b l v s = refl

flags_complement_carry : (i : Insn) → Leaves (record i { op = op.Cmc }) (λ l. mark l.status Carry l)
flags_complement_carry i l v s = refl

flags_clear_carry : (i : Insn) → Leaves (record i { op = op.Clc }) (λ l. mark false Carry l)
flags_clear_carry i l v s = refl

flags_set_carry : (i : Insn) → Leaves (record i { op = op.Stc }) (λ l. mark false Carry l)
flags_set_carry i l v s = refl

flags_idle : (o : Op) → IsIdle o → (i : Insn) → Leaves (record i { op = o }) (λ l. l)
flags_idle op.Cld h i l v s = refl
flags_idle op.Std h i l v s = refl
flags_idle op.Nop h i l v s = refl
flags_idle op.Hlt h i l v s = refl
flags_idle op.Jmp h i l v s = refl
flags_idle _ h i l v s = absurd h

flags_branch : (condition : ℕ) (i : Insn) (l : Labels) (v : Vcpu) (s : Setting) → l.status ≡ true →
    IsUsed Branch (record i { op = op.Jcc condition }) l v s
flags_branch condition i l v s e = rw e refl

flags_no_branch : (condition : ℕ) (i : Insn) (l : Labels) (v : Vcpu) (s : Setting) → l.status ≡ false →
    IsQuiet (record i { op = op.Jcc condition }) l v s l
flags_no_branch condition i l v s e = rw e refl

flags : FlagRules
flags = record { set_where = flags_set_where; move_where = flags_move_where; complement_carry = flags_complement_carry; clear_carry = flags_clear_carry; set_carry = flags_set_carry; idle = flags_idle; branch = flags_branch; no_branch = flags_no_branch }

-- MEMORY

-- where nothing labelled is looked at
quiet_look : (b : Bool) (kind : Use) (n : Noted) → b ≡ false → (if b then Uses kind else n) ≡ n
quiet_look b kind n e = rw e refl

-- a move of bytes in RAM
stays_private : (l : Labels) (v : Vcpu) (readable page last : Bool) (device private : Plan) → readable ≡ true →
    noted l v (if (not readable && page) && last then device else private) ≡ noted l v private
stays_private l v readable page last device private e = rw e refl

memory_destination : (o : Op) → HasOperands o → (i : Insn) (l : Labels) (v : Vcpu) (s : Setting) →
    any l (address_places i.dst) ≡ true → IsUsed Address (record i { op = o }) l v s
memory_destination op.Mov h i l v s e = rw e refl
memory_destination op.Movzx h i l v s e = rw e refl
memory_destination op.Movsx h i l v s e = rw e refl
memory_destination op.Movsxd h i l v s e = rw e refl
memory_destination op.Add h i l v s e = rw e refl
memory_destination op.Or h i l v s e = rw e refl
memory_destination op.Adc h i l v s e = rw e refl
memory_destination op.Sbb h i l v s e = rw e refl
memory_destination op.And h i l v s e = rw e refl
memory_destination op.Sub h i l v s e = rw e refl
memory_destination op.Xor h i l v s e = rw e refl
memory_destination op.Cmp h i l v s e = rw e refl
memory_destination op.Test h i l v s e = rw e refl
memory_destination op.Not h i l v s e = rw e refl
memory_destination op.Neg h i l v s e = rw e refl
memory_destination op.Inc h i l v s e = rw e refl
memory_destination op.Dec h i l v s e = rw e refl
memory_destination op.Shl h i l v s e = rw e refl
memory_destination op.Shr h i l v s e = rw e refl
memory_destination op.Sar h i l v s e = rw e refl
memory_destination op.Imul h i l v s e = rw e refl
memory_destination (op.Cmovcc condition) h i l v s e = rw e refl
memory_destination _ h i l v s e = absurd h

memory_source : (o : Op) → HasOperands o → (i : Insn) (l : Labels) (v : Vcpu) (s : Setting) →
    any l (address_places i.dst) ≡ false → any l (address_places i.src) ≡ true →
    IsUsed Address (record i { op = o }) l v s
memory_source op.Mov h i l v s d e = rw (d, e) refl
memory_source op.Movzx h i l v s d e = rw (d, e) refl
memory_source op.Movsx h i l v s d e = rw (d, e) refl
memory_source op.Movsxd h i l v s d e = rw (d, e) refl
memory_source op.Add h i l v s d e = rw (d, e) refl
memory_source op.Or h i l v s d e = rw (d, e) refl
memory_source op.Adc h i l v s d e = rw (d, e) refl
memory_source op.Sbb h i l v s d e = rw (d, e) refl
memory_source op.And h i l v s d e = rw (d, e) refl
memory_source op.Sub h i l v s d e = rw (d, e) refl
memory_source op.Xor h i l v s d e = rw (d, e) refl
memory_source op.Cmp h i l v s d e = rw (d, e) refl
memory_source op.Test h i l v s d e = rw (d, e) refl
memory_source op.Not h i l v s d e = rw (d, e) refl
memory_source op.Neg h i l v s d e = rw (d, e) refl
memory_source op.Inc h i l v s d e = rw (d, e) refl
memory_source op.Dec h i l v s d e = rw (d, e) refl
memory_source op.Shl h i l v s d e = rw (d, e) refl
memory_source op.Shr h i l v s d e = rw (d, e) refl
memory_source op.Sar h i l v s d e = rw (d, e) refl
memory_source op.Imul h i l v s d e = rw (d, e) refl
memory_source (op.Cmovcc condition) h i l v s d e = rw (d, e) refl
memory_source _ h i l v s d e = absurd h

memory_load : (i : Insn) (w : Width) (a : Reg) (mem : MemRef) (l : Labels) (v : Vcpu) (s : Setting) →
    let at = Bytes (address_of mem v s) i.source_width in
    any l (address_places (Memory mem)) ≡ false → is_readable s.ram at ≡ true →
    IsQuiet (with_op i op.Mov w (Whole a) (Memory mem)) l v s (mark (is_labelled l at) (Low a w) l)
memory_load i w a mem l v s e r =
    let at = Bytes (address_of mem v s) i.source_width in
    let insn = with_op i op.Mov w (Whole a) (Memory mem) in
    quiet_look _ Address _ e ∙ stays_private l v (is_readable s.ram at) (is_in_page at) true (from_page insn s (Low a w) at) (private_of insn s) r
    ∙ quiet_look _ Address _ e ∙ rw r refl

memory_store : (i : Insn) (w : Width) (a : Reg) (mem : MemRef) (l : Labels) (v : Vcpu) (s : Setting) →
    let at = Bytes (address_of mem v s) w in
    any l (address_places (Memory mem)) ≡ false → is_readable s.ram at ≡ true → is_writable s.ram s.code at ≡ true →
    IsQuiet (with_op i op.Mov w (Memory mem) (Whole a)) l v s (mark (label_of l a) at l)
memory_store i w a mem l v s e r f =
    let at = Bytes (address_of mem v s) w in
    let insn = with_op i op.Mov w (Memory mem) (Whole a) in
    quiet_look _ Address _ e ∙ stays_private l v (is_readable s.ram at) (is_in_page at) true (to_page insn s at (Low a i.source_width)) (private_of insn s) r
    ∙ quiet_look _ Address _ e ∙ rw f refl

memory_device_write : (i : Insn) (dst src : Place) (l : Labels) (v : Vcpu) (s : Setting) → is_labelled l src ≡ true →
    noted l v (to_page i s dst src) ≡ Uses Named
memory_device_write i dst src l v s e = rw e refl

memory_device_read : (i : Insn) (dst src : Place) (l : Labels) (v : Vcpu) (s : Setting) (reply : Reply) →
    noted_after reply l v (from_page i s dst src) ≡ Quiet (mark false dst l)
memory_device_read i dst src l v s reply = refl

memory : MemoryRules
memory = record { destination = memory_destination; source = memory_source; load = memory_load; store = memory_store; device_write = memory_device_write; device_read = memory_device_read }

-- THE STACK

stack_pointer : (o : Op) → IsStacked o → (i : Insn) (l : Labels) (v : Vcpu) (s : Setting) → label_of l Rsp ≡ true →
    IsUsed Address (record i { op = o }) l v s
stack_pointer op.Push h i l v s e = rw e refl
stack_pointer op.Pop h i l v s e = rw e refl
stack_pointer op.Call h i l v s e = rw e refl
stack_pointer op.Ret h i l v s e = rw e refl
stack_pointer op.Iretq h i l v s e = rw e refl
stack_pointer _ h i l v s e = absurd h

stack_push : (i : Insn) (w : Width) (a : Reg) (l : Labels) (v : Vcpu) (s : Setting) →
    let top = Bytes (below (whole Rsp v.regs) 8) B64 in
    label_of l Rsp ≡ false → is_writable s.ram s.code top ≡ true →
    IsQuiet (with_op i op.Push w (Whole a) Absent) l v s (mark (label_of l a) top (mark false (Low Rsp B64) l))
stack_push i w a l v s e f = rw (e, f) refl

stack_pop : (i : Insn) (w : Width) (a : Reg) (l : Labels) (v : Vcpu) (s : Setting) →
    let top = Bytes (whole Rsp v.regs) B64 in label_of l Rsp ≡ false → is_readable s.ram top ≡ true →
    IsQuiet (with_op i op.Pop w (Whole a) Absent) l v s
    (mark (is_labelled l top) (Low a B64) (mark false (Low Rsp B64) l))
stack_pop i w a l v s e r = rw (e, r) refl

stack_call : (i : Insn) (l : Labels) (v : Vcpu) (s : Setting) → let top = Bytes (below (whole Rsp v.regs) 8) B64 in
    label_of l Rsp ≡ false → is_writable s.ram s.code top ≡ true →
    IsQuiet (record i { op = op.Call }) l v s (mark false top (mark false (Low Rsp B64) l))
stack_call i l v s e f = rw (e, f) refl

stack_return_use : (i : Insn) (l : Labels) (v : Vcpu) (s : Setting) → let top = Bytes (whole Rsp v.regs) B64 in
    label_of l Rsp ≡ false → is_readable s.ram top ≡ true → is_labelled l top ≡ true →
    IsUsed Branch (record i { op = op.Ret }) l v s
stack_return_use i l v s e r u = rw (e, r, u) refl

stack_return : (i : Insn) (l : Labels) (v : Vcpu) (s : Setting) → let top = Bytes (whole Rsp v.regs) B64 in
    label_of l Rsp ≡ false → is_readable s.ram top ≡ true → is_labelled l top ≡ false →
    IsQuiet (record i { op = op.Ret }) l v s (mark false (Low Rsp B64) l)
stack_return i l v s e r u = rw (e, r, u) refl

stack_interrupt_use : (i : Insn) (l : Labels) (v : Vcpu) (s : Setting) → let rsp = whole Rsp v.regs in
    label_of l Rsp ≡ false → nat_le (rsp + 40) s.ram ≡ true → any l (five_words rsp) ≡ true →
    IsUsed Branch (record i { op = op.Iretq }) l v s
stack_interrupt_use i l v s e r u = rw (e, r, u) refl

stack_interrupt : (i : Insn) (l : Labels) (v : Vcpu) (s : Setting) → let rsp = whole Rsp v.regs in
    let words = map (read v) (five_words rsp) in
    label_of l Rsp ≡ false → nat_le (rsp + 40) s.ram ≡ true → any l (five_words rsp) ≡ false →
    ((number words 1 == 8) && (number words 4 == 16)) ≡ true →
    IsQuiet (record i { op = op.Iretq }) l v s (mark false Status (mark false (Low Rsp B64) l))
stack_interrupt i l v s e r u k = rw (e, r, u, k) refl

stack : StackRules
stack = record { pointer = stack_pointer; push = stack_push; pop = stack_pop; call = stack_call; return_use = stack_return_use; return = stack_return; interrupt_use = stack_interrupt_use; interrupt = stack_interrupt }

-- EVENTS

events_out_port : (i : Insn) (l : Labels) (v : Vcpu) (s : Setting) → is_labelled l (port_of i.dst) ≡ true →
    IsUsed Named (record i { op = op.Out }) l v s
events_out_port i l v s e = rw e refl

events_out_data : (i : Insn) (l : Labels) (v : Vcpu) (s : Setting) → is_labelled l (port_of i.dst) ≡ false →
    label_of l Rax ≡ true → IsUsed Named (record i { op = op.Out }) l v s
events_out_data i l v s e u = rw (e, u) refl

events_in_port : (i : Insn) (l : Labels) (v : Vcpu) (s : Setting) → is_labelled l (port_of i.src) ≡ true →
    IsUsed Named (record i { op = op.In }) l v s
events_in_port i l v s e = rw e refl

events_shown : (o : Op) (k : Kind) → IsEvent o k → (i : Insn) (l : Labels) (v : Vcpu) (s : Setting) →
    any l (shown_places (event_row k)) ≡ true → IsUsed Named (record i { op = o }) l v s
events_shown op.Cpuid kind.Cpuid h i l v s e = rw e refl
events_shown op.Rdmsr kind.Rdmsr h i l v s e = rw e refl
events_shown op.Wrmsr kind.Wrmsr h i l v s e = rw e refl
events_shown op.Rdtsc kind.Rdtsc h i l v s e = absurd (cc)
events_shown op.Rdtscp kind.Rdtscp h i l v s e = absurd (cc)
events_shown op.Rdpmc kind.Rdpmc h i l v s e = rw e refl
events_shown op.Wbinvd kind.Wbinvd h i l v s e = absurd (cc)
events_shown op.Vmmcall kind.Vmmcall h i l v s e = rw e refl
events_shown _ _ h i l v s e = absurd h

events_input : (i : Insn) (w : Width) (l : Labels) (v : Vcpu) (s : Setting) (reply : Reply) →
    is_labelled l (port_of i.src) ≡ false →
    noted_after reply l v (exit_of (record i { op = op.In; width = w }) s) ≡
    Quiet (mark false (Low Rax (port_width w)) l)
events_input i B8 l v s reply e = rw e refl
events_input i B16 l v s reply e = rw e refl
events_input i B32 l v s reply e = rw e refl
events_input i B64 l v s reply e = rw e refl

events_results : (o : Op) (k : Kind) → IsEvent o k → (i : Insn) (l : Labels) (v : Vcpu) (s : Setting) (reply : Reply) →
    any l (shown_places (event_row k)) ≡ false →
    noted_after reply l v (exit_of (record i { op = o }) s) ≡
    Quiet (mark_all false (map place_in (results_to (event_row k) reply.values)) l)
events_results op.Cpuid kind.Cpuid h i l v s reply e = rw e refl
events_results op.Rdmsr kind.Rdmsr h i l v s reply e = rw e refl
events_results op.Wrmsr kind.Wrmsr h i l v s reply e = rw e refl
events_results op.Rdtsc kind.Rdtsc h i l v s reply e = refl
events_results op.Rdtscp kind.Rdtscp h i l v s reply e = refl
events_results op.Rdpmc kind.Rdpmc h i l v s reply e = rw e refl
events_results op.Wbinvd kind.Wbinvd h i l v s reply e = refl
events_results op.Vmmcall kind.Vmmcall h i l v s reply e = rw e refl
events_results _ _ h i l v s reply e = absurd h

events : EventRules
events = record { out_port = events_out_port; out_data = events_out_data; in_port = events_in_port; shown = events_shown; input = events_input; results = events_results }

-- STRING I/O

strings_count : (o : Op) → is_string o ≡ true → (i : Insn) (l : Labels) (v : Vcpu) (s : Setting) →
    s.alone ≡ false → is_labelled l (counter i.rep) ≡ true → IsUsed Address (record i { op = o }) l v s
strings_count op.Ins is i l v s alone e = rw (alone, e) refl
strings_count op.Outs is i l v s alone e = rw (alone, e) refl
strings_count _ is i l v s alone e = absurd (cc)

strings_none : (o : Op) → is_string o ≡ true → (i : Insn) (l : Labels) (v : Vcpu) (s : Setting) →
    s.alone ≡ false → is_labelled l (counter i.rep) ≡ false → (left_of i v == 0) ≡ true →
    IsQuiet (record i { op = o }) l v s l
strings_none op.Ins is i l v s alone e z = rw (alone, e, z) refl
strings_none op.Outs is i l v s alone e z = rw (alone, e, z) refl
strings_none _ is i l v s alone e z = absurd (cc)

strings_address : (o : Op) → is_string o ≡ true → (i : Insn) (l : Labels) (v : Vcpu) (s : Setting) →
    s.alone ≡ false → is_labelled l (counter i.rep) ≡ false → (left_of i v == 0) ≡ false →
    label_of l (pointer (is_input o)) ≡ true → IsUsed Address (record i { op = o }) l v s
strings_address op.Ins is i l v s alone e z p = rw (alone, e, z, p) refl
strings_address op.Outs is i l v s alone e z p = rw (alone, e, z, p) refl
strings_address _ is i l v s alone e z p = absurd (cc)

strings_shown : (o : Op) → is_string o ≡ true → (i : Insn) (l : Labels) (v : Vcpu) (s : Setting) →
    let insn = record i { op = o } in let at = element_at insn v in
    s.alone ≡ false → is_labelled l (counter i.rep) ≡ false → (left_of i v == 0) ≡ false →
    label_of l (pointer (is_input o)) ≡ false → can_move (is_input o) s (Bytes at (element_width insn)) ≡ true →
    any l (Low Rdx B16 ∷ shown_of insn (elements insn s at (left_of i v))) ≡ true → IsUsed Named insn l v s
strings_shown op.Ins is i l v s alone e z p c u = rw (alone, e, z, p, c, u) refl
strings_shown op.Outs is i l v s alone e z p c u = rw (alone, e, z, p, c, u) refl
strings_shown _ is i l v s alone e z p c u = absurd (cc)

strings_input : (i : Insn) (l : Labels) (v : Vcpu) (s : Setting) (at left value : ℕ) →
    let insn = record i { op = op.Ins } in
    noted l v (taking insn s at left (value ∷ [])) ≡
    Quiet (mark_all false (Bytes at (element_width insn) ∷ string_places insn) l)
strings_input i l v s at left value = refl

strings : StringRules
strings = record { count = strings_count; none = strings_none; address = strings_address; shown = strings_shown; input = strings_input }

-- EXCEPTIONS

exceptions_no_handler : (header : Header) (vector code : ℕ) (l : Labels) (v : Vcpu) (s : Setting) →
    (handler_of header vector == 0) ≡ true → noted l v (raise_of header s vector code) ≡ Quiet l
exceptions_no_handler header vector code l v s e = rw e refl

exceptions_pointer : (header : Header) (vector code : ℕ) (l : Labels) (v : Vcpu) (s : Setting) →
    (handler_of header vector == 0) ≡ false → label_of l Rsp ≡ true →
    noted l v (raise_of header s vector code) ≡ Uses Address
exceptions_pointer header vector code l v s e u = rw (e, u) refl

exceptions_frame : (header : Header) (vector code : ℕ) (l : Labels) (v : Vcpu) (s : Setting) →
    let t = whole Rsp v.regs / 16 * 16 in let size = frame_size vector in let top = (t + 2 ^ 64 - size) % 2 ^ 64 in
    (handler_of header vector == 0) ≡ false → label_of l Rsp ≡ false →
    (nat_le (top + size) s.ram && not (nat_lt top s.code)) ≡ true →
    noted l v (raise_of header s vector code) ≡
    Quiet (mark l.status (Bytes (t - 24) B64) (mark_all false (pushed_places vector code t) l))
exceptions_frame header vector code l v s e u f = rw (e, u, f) refl

exceptions : ExceptionRules
exceptions = record { no_handler = exceptions_no_handler; pointer = exceptions_pointer; frame = exceptions_frame }

pub label_rules : LabelRules
label_rules = record { values = values; flags = flags; memory = memory; stack = stack; events = events; strings = strings; exceptions = exceptions }
