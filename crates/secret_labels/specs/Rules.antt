-- The label rules, sentence by sentence, each beside what the instruction table gives for it. What an instruction reads
-- as a value hands its label on; what goes into an address, a branch or to the host is used.
use Rattle.std.specs.Prelude.{◌≡◌, ℕ, ◌+◌, ◌-◌, ◌*◌, ◌/◌, ◌%◌, ◌^◌, ◌==◌, true, false, not, ◌&&◌, nat_le, nat_lt, List, [], ◌∷◌, ◌++◌, map}
use Rattle.x86_base.specs.declared.insn.Insn.{Insn}
use Rattle.x86_base.specs.declared.insn.Operand.{Operand}
use Rattle.x86_base.specs.declared.insn.Operand.TheVariants.{Absent, Whole, Memory, Imm}
use Rattle.x86_base.specs.declared.memory.MemRef.{MemRef}
use Rattle.x86_base.specs.declared.op.Op.{Op}
use Rattle.x86_base.specs.declared.op.Op.TheVariants as op
use Rattle.x86_base.specs.declared.reg.Reg.{Reg}
use Rattle.x86_base.specs.declared.reg.Reg.TheVariants.{Rax, Rcx, Rdx, Rsp}
use Rattle.x86_base.specs.declared.reg.Width.{Width}
use Rattle.x86_base.specs.declared.reg.Width.TheVariants.{B16, B64}
use Rattle.x86_base.specs.Registers.{whole}
use Rattle.x86_base.specs.Widths.{bits_of, low}
use Rattle.alu_ops.specs.Outcome.{shift_count_of}
use Rattle.image_file.specs.declared.header.Header.{Header}
use Rattle.event_table.specs.declared.outcome.Reply.{Reply}
use Rattle.event_table.specs.declared.places.Place.{Place}
use Rattle.event_table.specs.declared.places.Place.TheVariants.{Low, Status, StatusButCarry, Carry, Bytes}
use Rattle.event_table.specs.declared.row.Kind.{Kind}
use Rattle.event_table.specs.declared.row.Kind.TheVariants as kind
use Rattle.event_table.specs.Elements.{can_move, counter, element_width, elements, is_input, is_string, pointer, port_width, shown_of, string_places, taking}
use Rattle.event_table.specs.Events.{exit_of, port_of, results_to, shown_places}
use Rattle.event_table.specs.Moves.{from_page, to_page}
use Rattle.event_table.specs.Places.{Vcpu, Number, as_number, number, read, is_readable, is_writable}
use Rattle.event_table.specs.Plan.{Address, Branch, Named, Setting, Use, address_places, place_in, sum_of}
use Rattle.event_table.specs.Raising.{code_moves, frame_size, handler_of, raise_of}
use Rattle.event_table.specs.Rows.{event_row}
use Rattle.guest_interp.specs.Stepping.{plan_of}
use Rattle.guest_interp.specs.Table.{below, five_words}
use Rattle.secret_labels.specs.Labels.{Labels, Uses, Quiet, any, is_labelled, label_of, mark, mark_all, noted, noted_after}

-- an instruction of this operation, width and operands, whatever else it has
abbrev pub with_op : Insn → Op → Width → Operand → Operand → Insn
with_op i o width dst src = record i { op = o; width = width; dst = dst; src = src }

-- nothing is used, and these are the labels then
abbrev pub Leaves : Insn → (Labels → Labels) → Type 0
Leaves i after = (l : Labels) (v : Vcpu) (s : Setting) → noted l v (plan_of i s) ≡ Quiet (after l)

-- a labelled value is used
abbrev pub IsUsed : Use → Insn → Labels → Vcpu → Setting → Type 0
IsUsed kind i l v s = noted l v (plan_of i s) ≡ Uses kind

-- nothing is used, and these are the labels then, at this vCPU
abbrev pub IsQuiet : Insn → Labels → Vcpu → Setting → Labels → Type 0
IsQuiet i l v s after = noted l v (plan_of i s) ≡ Quiet after

-- the operations that set all five flags by two operands, and write the first
abbrev pub IsSum : Op → Type 0
IsSum op.Add = Unit {0}
IsSum op.Or = Unit {0}
IsSum op.And = Unit {0}
IsSum op.Sub = Unit {0}
IsSum op.Xor = Unit {0}
IsSum op.Imul = Unit {0}
IsSum _ = ⊥

-- those that set them and write no operand
abbrev pub IsComparison : Op → Type 0
IsComparison op.Cmp = Unit {0}
IsComparison op.Test = Unit {0}
IsComparison _ = ⊥

-- those that read CF too
abbrev pub IsCarrySum : Op → Type 0
IsCarrySum op.Adc = Unit {0}
IsCarrySum op.Sbb = Unit {0}
IsCarrySum _ = ⊥

-- those that keep CF
abbrev pub IsCount : Op → Type 0
IsCount op.Inc = Unit {0}
IsCount op.Dec = Unit {0}
IsCount _ = ⊥

abbrev pub IsShift : Op → Type 0
IsShift op.Shl = Unit {0}
IsShift op.Shr = Unit {0}
IsShift op.Sar = Unit {0}
IsShift _ = ⊥

abbrev pub IsMove : Op → Type 0
IsMove op.Mov = Unit {0}
IsMove op.Movzx = Unit {0}
IsMove op.Movsx = Unit {0}
IsMove op.Movsxd = Unit {0}
IsMove _ = ⊥

-- those that leave every register, flag and byte that can have a label
abbrev pub IsIdle : Op → Type 0
IsIdle op.Cld = Unit {0}
IsIdle op.Std = Unit {0}
IsIdle op.Nop = Unit {0}
IsIdle op.Hlt = Unit {0}
IsIdle op.Jmp = Unit {0}
IsIdle _ = ⊥

-- Values: what is written takes a label where one of the places has one that are read as values.
pub record ValueRules : Type 0 where
  -- A move takes its source's label. A register that is written at 8 or 16 bits keeps one that it had, and at 32 or 64
  -- bits it loses it: `mark` says so.
  pub move : (o : Op) → IsMove o → (i : Insn) (w : Width) (a b : Reg) →
      Leaves (with_op i o w (Whole a) (Whole b)) (λ l. mark (label_of l b) (Low a w) l)
  -- A number of the instruction has none.
  pub constant : (o : Op) → IsMove o → (i : Insn) (w : Width) (a : Reg) (n : ℕ) →
      Leaves (with_op i o w (Whole a) (Imm n)) (λ l. mark false (Low a w) l)
  -- The address of LEA is a value, and no use.
  pub address : (i : Insn) (w : Width) (a : Reg) (mem : MemRef) →
      Leaves (with_op i op.Lea w (Whole a) (Memory mem)) (λ l. mark (any l (address_places (Memory mem))) (Low a w) l)
  -- Arithmetic of two operands reads both; the result and the flags take the label. Equal operands make no exception.
  pub sum : (o : Op) → IsSum o → (i : Insn) (w : Width) (a b : Reg) →
      Leaves (with_op i o w (Whole a) (Whole b))
      (λ l. let is = any l (Low a w ∷ Low b w ∷ []) in mark is Status (mark is (Low a w) l))
  -- A comparison writes the flags alone.
  pub comparison : (o : Op) → IsComparison o → (i : Insn) (w : Width) (a b : Reg) →
      Leaves (with_op i o w (Whole a) (Whole b)) (λ l. mark (any l (Low a w ∷ Low b w ∷ [])) Status l)
  -- ADC and SBB read the flags too.
  pub carry_sum : (o : Op) → IsCarrySum o → (i : Insn) (w : Width) (a b : Reg) →
      Leaves (with_op i o w (Whole a) (Whole b))
      (λ l. let is = any l (Low a w ∷ Low b w ∷ Status ∷ []) in mark is Status (mark is (Low a w) l))
  -- INC and DEC keep CF, so that the flags keep a label that they had.
  pub count : (o : Op) → IsCount o → (i : Insn) (w : Width) (a : Reg) →
      Leaves (with_op i o w (Whole a) Absent)
      (λ l. mark (label_of l a) StatusButCarry (mark (label_of l a) (Low a w) l))
  pub negation : (i : Insn) (w : Width) (a : Reg) →
      Leaves (with_op i op.Neg w (Whole a) Absent)
      (λ l. mark (label_of l a) Status (mark (label_of l a) (Low a w) l))
  -- NOT writes no flag.
  pub complement : (i : Insn) (w : Width) (a : Reg) →
      Leaves (with_op i op.Not w (Whole a) Absent) (λ l. mark (label_of l a) (Low a w) l)
  -- A shift by a constant count of 0 writes no flags, and leaves their label.
  pub shift_by_none : (o : Op) → IsShift o → (i : Insn) (w : Width) (a : Reg) (n : ℕ) →
      (shift_count_of (bits_of w) (low w n) == 0) ≡ true →
      Leaves (with_op i o w (Whole a) (Imm n)) (λ l. mark (label_of l a) (Low a w) l)
  pub shift_by_some : (o : Op) → IsShift o → (i : Insn) (w : Width) (a : Reg) (n : ℕ) →
      (shift_count_of (bits_of w) (low w n) == 0) ≡ false →
      Leaves (with_op i o w (Whole a) (Imm n)) (λ l. mark (label_of l a) Status (mark (label_of l a) (Low a w) l))
  -- A shift by CL reads RCX and the flags, and is taken to write the flags in any case.
  pub shift_by_register : (o : Op) → IsShift o → (i : Insn) (w : Width) (a : Reg) →
      Leaves (with_op i o w (Whole a) (Whole Rcx))
      (λ l. let is = any l (Low a w ∷ Low Rcx w ∷ Status ∷ []) in mark is Status (mark is (Low a w) l))

-- The flags: one label stands on all five of them.
pub record FlagRules : Type 0 where
  -- SETcc reads the flags, and CMOVcc these, its destination and its source.
  pub set_where : (condition : ℕ) (i : Insn) (w : Width) (a : Reg) →
      Leaves (with_op i (op.Setcc condition) w (Whole a) Absent) (λ l. mark l.status (Low a w) l)
  pub move_where : (condition : ℕ) (i : Insn) (w : Width) (a b : Reg) →
      Leaves (with_op i (op.Cmovcc condition) w (Whole a) (Whole b))
      (λ l. mark (any l (Status ∷ Low a w ∷ Low b w ∷ [])) (Low a w) l)
  -- CMC reads the flags. It, CLC and STC keep some of them, so that they keep a label that they had.
  pub complement_carry : (i : Insn) → Leaves (record i { op = op.Cmc }) (λ l. mark l.status Carry l)
  pub clear_carry : (i : Insn) → Leaves (record i { op = op.Clc }) (λ l. mark false Carry l)
  pub set_carry : (i : Insn) → Leaves (record i { op = op.Stc }) (λ l. mark false Carry l)
  -- CLD and STD leave every label: DF has none. So do NOP, HLT and JMP.
  pub idle : (o : Op) → IsIdle o → (i : Insn) → Leaves (record i { op = o }) (λ l. l)
  -- Labelled flags at Jcc go into the branch.
  pub branch : (condition : ℕ) (i : Insn) (l : Labels) (v : Vcpu) (s : Setting) → l.status ≡ true →
      IsUsed Branch (record i { op = op.Jcc condition }) l v s
  pub no_branch : (condition : ℕ) (i : Insn) (l : Labels) (v : Vcpu) (s : Setting) → l.status ≡ false →
      IsQuiet (record i { op = op.Jcc condition }) l v s l

-- the operations of which both operands may be in memory, and are read or written there
abbrev pub HasOperands : Op → Type 0
HasOperands op.Mov = Unit {0}
HasOperands op.Movzx = Unit {0}
HasOperands op.Movsx = Unit {0}
HasOperands op.Movsxd = Unit {0}
HasOperands op.Add = Unit {0}
HasOperands op.Or = Unit {0}
HasOperands op.Adc = Unit {0}
HasOperands op.Sbb = Unit {0}
HasOperands op.And = Unit {0}
HasOperands op.Sub = Unit {0}
HasOperands op.Xor = Unit {0}
HasOperands op.Cmp = Unit {0}
HasOperands op.Test = Unit {0}
HasOperands op.Not = Unit {0}
HasOperands op.Neg = Unit {0}
HasOperands op.Inc = Unit {0}
HasOperands op.Dec = Unit {0}
HasOperands op.Shl = Unit {0}
HasOperands op.Shr = Unit {0}
HasOperands op.Sar = Unit {0}
HasOperands op.Imul = Unit {0}
HasOperands (op.Cmovcc condition) = Unit {0}
HasOperands _ = ⊥

-- the address of an operand in memory, by the registers that it has
abbrev pub address_of : MemRef → Vcpu → Setting → ℕ
address_of mem v s = sum_of mem s.next (map (read v) (address_places (Memory mem)))

-- Memory: each byte has a label of its own.
pub record MemoryRules : Type 0 where
  -- A labelled register in the address of an operand that is read or written is a use as an address, before anything
  -- else, also where the operand lies in the page of devices.
  pub destination : (o : Op) → HasOperands o → (i : Insn) (l : Labels) (v : Vcpu) (s : Setting) →
      any l (address_places i.dst) ≡ true → IsUsed Address (record i { op = o }) l v s
  pub source : (o : Op) → HasOperands o → (i : Insn) (l : Labels) (v : Vcpu) (s : Setting) →
      any l (address_places i.dst) ≡ false → any l (address_places i.src) ≡ true →
      IsUsed Address (record i { op = o }) l v s
  -- A load takes the label of any of its bytes.
  pub load : (i : Insn) (w : Width) (a : Reg) (mem : MemRef) (l : Labels) (v : Vcpu) (s : Setting) →
      let at = Bytes (address_of mem v s) i.source_width in
      any l (address_places (Memory mem)) ≡ false → is_readable s.ram at ≡ true →
      IsQuiet (with_op i op.Mov w (Whole a) (Memory mem)) l v s (mark (is_labelled l at) (Low a w) l)
  -- A store labels each of its bytes, or takes their labels away.
  pub store : (i : Insn) (w : Width) (a : Reg) (mem : MemRef) (l : Labels) (v : Vcpu) (s : Setting) →
      let at = Bytes (address_of mem v s) w in
      any l (address_places (Memory mem)) ≡ false → is_readable s.ram at ≡ true → is_writable s.ram s.code at ≡ true →
      IsQuiet (with_op i op.Mov w (Memory mem) (Whole a)) l v s (mark (label_of l a) at l)
  -- A write of labelled data to the page of devices shows it to the host. What is read there has no label.
  pub device_write : (i : Insn) (dst src : Place) (l : Labels) (v : Vcpu) (s : Setting) → is_labelled l src ≡ true →
      noted l v (to_page i s dst src) ≡ Uses Named
  pub device_read : (i : Insn) (dst src : Place) (l : Labels) (v : Vcpu) (s : Setting) (reply : Reply) →
      noted_after reply l v (from_page i s dst src) ≡ Quiet (mark false dst l)

-- the operations that move RSP
abbrev pub IsStacked : Op → Type 0
IsStacked op.Push = Unit {0}
IsStacked op.Pop = Unit {0}
IsStacked op.Call = Unit {0}
IsStacked op.Ret = Unit {0}
IsStacked op.Iretq = Unit {0}
IsStacked _ = ⊥

-- The stack: RSP takes no label from what is pushed or popped.
pub record StackRules : Type 0 where
  -- A labelled RSP is a use as an address.
  pub pointer : (o : Op) → IsStacked o → (i : Insn) (l : Labels) (v : Vcpu) (s : Setting) → label_of l Rsp ≡ true →
      IsUsed Address (record i { op = o }) l v s
  -- The pushed bytes take the label of what is pushed.
  pub push : (i : Insn) (w : Width) (a : Reg) (l : Labels) (v : Vcpu) (s : Setting) →
      let top = Bytes (below (whole Rsp v.regs) 8) B64 in
      label_of l Rsp ≡ false → is_writable s.ram s.code top ≡ true →
      IsQuiet (with_op i op.Push w (Whole a) Absent) l v s (mark (label_of l a) top (mark false (Low Rsp B64) l))
  -- A popped register takes that of the popped bytes, also where it is RSP.
  pub pop : (i : Insn) (w : Width) (a : Reg) (l : Labels) (v : Vcpu) (s : Setting) →
      let top = Bytes (whole Rsp v.regs) B64 in label_of l Rsp ≡ false → is_readable s.ram top ≡ true →
      IsQuiet (with_op i op.Pop w (Whole a) Absent) l v s
      (mark (is_labelled l top) (Low a B64) (mark false (Low Rsp B64) l))
  -- The bytes of a return address lose theirs.
  pub call : (i : Insn) (l : Labels) (v : Vcpu) (s : Setting) → let top = Bytes (below (whole Rsp v.regs) 8) B64 in
      label_of l Rsp ≡ false → is_writable s.ram s.code top ≡ true →
      IsQuiet (record i { op = op.Call }) l v s (mark false top (mark false (Low Rsp B64) l))
  -- A labelled byte that RET pops goes into the branch.
  pub return_use : (i : Insn) (l : Labels) (v : Vcpu) (s : Setting) → let top = Bytes (whole Rsp v.regs) B64 in
      label_of l Rsp ≡ false → is_readable s.ram top ≡ true → is_labelled l top ≡ true →
      IsUsed Branch (record i { op = op.Ret }) l v s
  pub return : (i : Insn) (l : Labels) (v : Vcpu) (s : Setting) → let top = Bytes (whole Rsp v.regs) B64 in
      label_of l Rsp ≡ false → is_readable s.ram top ≡ true → is_labelled l top ≡ false →
      IsQuiet (record i { op = op.Ret }) l v s (mark false (Low Rsp B64) l)
  -- So does one in any of the five words that IRETQ pops, before their values are looked at.
  pub interrupt_use : (i : Insn) (l : Labels) (v : Vcpu) (s : Setting) → let rsp = whole Rsp v.regs in
      label_of l Rsp ≡ false → nat_le (rsp + 40) s.ram ≡ true → any l (five_words rsp) ≡ true →
      IsUsed Branch (record i { op = op.Iretq }) l v s
  -- An IRETQ that goes takes the flags' label away.
  pub interrupt : (i : Insn) (l : Labels) (v : Vcpu) (s : Setting) → let rsp = whole Rsp v.regs in
      let words = map (read v) (five_words rsp) in
      label_of l Rsp ≡ false → nat_le (rsp + 40) s.ram ≡ true → any l (five_words rsp) ≡ false →
      ((number words 1 == 8) && (number words 4 == 16)) ≡ true →
      IsQuiet (record i { op = op.Iretq }) l v s (mark false Status (mark false (Low Rsp B64) l))

-- the operations that exit with all their data in registers, and no port
abbrev pub IsEvent : Op → Kind → Type 0
IsEvent op.Cpuid kind.Cpuid = Unit {0}
IsEvent op.Rdmsr kind.Rdmsr = Unit {0}
IsEvent op.Wrmsr kind.Wrmsr = Unit {0}
IsEvent op.Rdtsc kind.Rdtsc = Unit {0}
IsEvent op.Rdtscp kind.Rdtscp = Unit {0}
IsEvent op.Rdpmc kind.Rdpmc = Unit {0}
IsEvent op.Wbinvd kind.Wbinvd = Unit {0}
IsEvent op.Vmmcall kind.Vmmcall = Unit {0}
IsEvent _ _ = ⊥

-- Events: what the host is shown is a use, and what comes of it takes no label.
pub record EventRules : Type 0 where
  -- A labelled port of OUT or IN is shown to the host, and so is labelled data of OUT.
  pub out_port : (i : Insn) (l : Labels) (v : Vcpu) (s : Setting) → is_labelled l (port_of i.dst) ≡ true →
      IsUsed Named (record i { op = op.Out }) l v s
  pub out_data : (i : Insn) (l : Labels) (v : Vcpu) (s : Setting) → is_labelled l (port_of i.dst) ≡ false →
      label_of l Rax ≡ true → IsUsed Named (record i { op = op.Out }) l v s
  pub in_port : (i : Insn) (l : Labels) (v : Vcpu) (s : Setting) → is_labelled l (port_of i.src) ≡ true →
      IsUsed Named (record i { op = op.In }) l v s
  -- So is a labelled register that the row of an event shows.
  pub shown : (o : Op) (k : Kind) → IsEvent o k → (i : Insn) (l : Labels) (v : Vcpu) (s : Setting) →
      any l (shown_places (event_row k)) ≡ true → IsUsed Named (record i { op = o }) l v s
  -- Results have no label: their places lose one that they had at 32 and 64 bits, and keep it at 8 and 16.
  pub input : (i : Insn) (w : Width) (l : Labels) (v : Vcpu) (s : Setting) (reply : Reply) →
      is_labelled l (port_of i.src) ≡ false →
      noted_after reply l v (exit_of (record i { op = op.In; width = w }) s) ≡
      Quiet (mark false (Low Rax (port_width w)) l)
  pub results : (o : Op) (k : Kind) → IsEvent o k → (i : Insn) (l : Labels) (v : Vcpu) (s : Setting) (reply : Reply) →
      any l (shown_places (event_row k)) ≡ false →
      noted_after reply l v (exit_of (record i { op = o }) s) ≡
      Quiet (mark_all false (map place_in (results_to (event_row k) reply.values)) l)

-- how many elements are left, and where the next one lies
abbrev pub left_of : Insn → Vcpu → ℕ
left_of i v = as_number (read v (counter i.rep))

abbrev pub element_at : Insn → Vcpu → ℕ
element_at i v = as_number (read v (Low (pointer (is_input i.op)) B64))

-- String I/O, whose elements are asked together as a block.
pub record StringRules : Type 0 where
  -- With REP a labelled RCX is a use as an address.
  pub count : (o : Op) → is_string o ≡ true → (i : Insn) (l : Labels) (v : Vcpu) (s : Setting) →
      s.alone ≡ false → is_labelled l (counter i.rep) ≡ true → IsUsed Address (record i { op = o }) l v s
  -- Where it is 0 nothing more is looked at, and nothing is shown.
  pub none : (o : Op) → is_string o ≡ true → (i : Insn) (l : Labels) (v : Vcpu) (s : Setting) →
      s.alone ≡ false → is_labelled l (counter i.rep) ≡ false → (left_of i v == 0) ≡ true →
      IsQuiet (record i { op = o }) l v s l
  -- Else a labelled pointer is a use as an address, also where no element can be moved.
  pub address : (o : Op) → is_string o ≡ true → (i : Insn) (l : Labels) (v : Vcpu) (s : Setting) →
      s.alone ≡ false → is_labelled l (counter i.rep) ≡ false → (left_of i v == 0) ≡ false →
      label_of l (pointer (is_input o)) ≡ true → IsUsed Address (record i { op = o }) l v s
  -- A labelled port is shown to the host, and so is a labelled byte of an output block.
  pub shown : (o : Op) → is_string o ≡ true → (i : Insn) (l : Labels) (v : Vcpu) (s : Setting) →
      let insn = record i { op = o } in let at = element_at insn v in
      s.alone ≡ false → is_labelled l (counter i.rep) ≡ false → (left_of i v == 0) ≡ false →
      label_of l (pointer (is_input o)) ≡ false → can_move (is_input o) s (Bytes at (element_width insn)) ≡ true →
      any l (Low Rdx B16 ∷ shown_of insn (elements insn s at (left_of i v))) ≡ true → IsUsed Named insn l v s
  -- The bytes of an input element lose their labels.
  pub input : (i : Insn) (l : Labels) (v : Vcpu) (s : Setting) (at left value : ℕ) →
      let insn = record i { op = op.Ins } in
      noted l v (taking insn s at left (value ∷ [])) ≡
      Quiet (mark_all false (Bytes at (element_width insn) ∷ string_places insn) l)

-- the places that an exception pushes, but the flags word, and RSP
abbrev pub pushed_places : ℕ → ℕ → ℕ → List Place
pushed_places vector code t =
    Bytes (t - 8) B64 ∷ Bytes (t - 16) B64 ∷ Bytes (t - 32) B64 ∷ Bytes (t - 40) B64
    ∷ map place_in (code_moves vector code t ++ (Low Rsp B64, Number (t - frame_size vector)) ∷ [])

-- The delivery of an exception, once its reply is taken.
pub record ExceptionRules : Type 0 where
  -- Where the image has no handler, nothing is used.
  pub no_handler : (header : Header) (vector code : ℕ) (l : Labels) (v : Vcpu) (s : Setting) →
      (handler_of header vector == 0) ≡ true → noted l v (raise_of header s vector code) ≡ Quiet l
  -- Else a labelled RSP is a use as an address.
  pub pointer : (header : Header) (vector code : ℕ) (l : Labels) (v : Vcpu) (s : Setting) →
      (handler_of header vector == 0) ≡ false → label_of l Rsp ≡ true →
      noted l v (raise_of header s vector code) ≡ Uses Address
  -- The bytes of the pushed flags word take the flags' label, and the other pushed bytes lose theirs.
  pub frame : (header : Header) (vector code : ℕ) (l : Labels) (v : Vcpu) (s : Setting) →
      let t = whole Rsp v.regs / 16 * 16 in let size = frame_size vector in let top = (t + 2 ^ 64 - size) % 2 ^ 64 in
      (handler_of header vector == 0) ≡ false → label_of l Rsp ≡ false →
      (nat_le (top + size) s.ram && not (nat_lt top s.code)) ≡ true →
      noted l v (raise_of header s vector code) ≡
      Quiet (mark l.status (Bytes (t - 24) B64) (mark_all false (pushed_places vector code t) l))

-- The label rules.
pub record LabelRules : Type 0 where
  pub values : ValueRules
  pub flags : FlagRules
  pub memory : MemoryRules
  pub stack : StackRules
  pub events : EventRules
  pub strings : StringRules
  pub exceptions : ExceptionRules
