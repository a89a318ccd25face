-- A vCPU along the elements of a block.
use Rattle.std.proofs.lemmas.Grind.{common_steps}
use Rattle.std.proofs.lemmas.Bool.Decides.{nat_tests}
use Rattle.std.proofs.Common.{◌≡◌, ℕ, zero, suc, ◌+◌, ◌-◌, ◌/◌, ◌%◌, ◌^◌, ◌≤◌, ◌<◌, ◌≢◌, ◌==◌, List, [], ◌∷◌, length, refl, ap, sym, ◌∙◌, subst, arith, Bool, true, false, slice_index, slice_set, length-set, Option, None, Some}
use Rattle.std.specs.Prelude.{map, if◌then◌else◌, IsSome}
use Rattle.x86_base.specs.declared.flags.Flags.{Flags}
use Rattle.x86_base.specs.declared.insn.Insn.{Insn}
use Rattle.x86_base.specs.declared.reg.Reg.TheVariants.{Rdx}
use Rattle.x86_base.specs.declared.reg.Width.{Width}
use Rattle.x86_base.specs.declared.reg.Width.TheVariants.{B16, B64}
use Rattle.x86_base.specs.Registers.{number_of, whole}
use Rattle.x86_base.specs.Widths.{low, size_of}
use Rattle.image_file.specs.Number.{number_at, put_number}
use Rattle.event_table.specs.declared.access.Access.{Access}
use Rattle.event_table.specs.declared.event.Event.{Event}
use Rattle.event_table.specs.declared.event.Event.TheVariants.{One}
use Rattle.event_table.specs.declared.places.Place.TheVariants.{Fixed, Low, Bytes}
use Rattle.event_table.specs.declared.outcome.Reply.{Reply}
use Rattle.event_table.specs.Elements.{access_with, next_address, can_move, counter, element, is_input, is_string, pointer, taking, element_width}
use Rattle.event_table.specs.Events.{asked_apart, placed_apart}
use Rattle.event_table.specs.Places.{Vcpu, Number, as_number, number, read}
use Rattle.event_table.specs.Plan.{Plan, Stepped, Moved, Change, Setting, apart, apply, event_asked, jumps, step_answered, reply_with, setting, stepped}
use Rattle.string_io.specs.Blocks.{one_by_one, one_result, then_on}

-- the next element's address, and how many are left
abbrev pub at_of : Insn → Vcpu → ℕ
at_of i v = whole (pointer (is_input i.op)) v.regs

abbrev pub left_of : Bool → Vcpu → ℕ
left_of rep v = as_number (read v (counter rep))

-- what an element changes
abbrev pub change : Bool → Bool → Width → ℕ → ℕ → ℕ → ℕ → ℕ → Change
change input rep w at x next y rip = record (jumps rip) {
  moved = (if input then Bytes at w else Fixed 0) ∷ Low (pointer input) B64 ∷ counter rep ∷ [];
  moves = Number x ∷ Number next ∷ Number y ∷ [];
}

length-put_number : (n at value : ℕ) (bytes : List ℕ) → length (put_number n at value bytes) ≡ length bytes
length-put_number zero at value bytes = refl
length-put_number (suc n) at value bytes = length-put_number n (at + 1) (value / 2 ^ 8) (slice_set bytes at (value % 2 ^ 8)) ∙ length-set bytes at (value % 2 ^ 8)

-- the vCPU then
pub record After (input rep : Bool) (next y rip : ℕ) (v u : Vcpu) : Type 0 where
  pub goes : u.regs.rip ≡ rip
  pub same_flags : u.regs.flags ≡ v.regs.flags
  pub same_code : u.ram.code ≡ v.ram.code
  pub same_size : length u.ram.bytes ≡ length v.ram.bytes
  pub same_bytes : input ≡ false → u.ram.bytes ≡ v.ram.bytes
  pub full : length u.regs.gpr ≡ 16
  pub same_port : whole Rdx u.regs ≡ whole Rdx v.regs
  pub pointer_is : whole (pointer input) u.regs ≡ next
  pub left_is : left_of rep u ≡ (if rep then y else 1)

-- the registers and the bytes of RAM then
abbrev registers_then : Bool → ℕ → ℕ → ℕ → List ℕ → List ℕ
registers_then rep pointer next y registers = if rep then slice_set (slice_set registers pointer next) 1 y else slice_set registers pointer next

abbrev bytes_then : Bool → Width → ℕ → ℕ → List ℕ → List ℕ
bytes_then input w at x bytes = if input then put_number (size_of w) at x bytes else bytes

abbrev vcpu_then : Bool → Bool → Width → ℕ → ℕ → ℕ → ℕ → ℕ → Vcpu → Vcpu
vcpu_then input rep w at x next y rip v = record {
  regs = record v.regs { gpr = registers_then rep (number_of (pointer input)) next y v.regs.gpr; rip = rip };
  ram = record v.ram { bytes = bytes_then input w at x v.ram.bytes };
}

is_then : (input rep : Bool) (w : Width) (at x next y rip : ℕ) (v : Vcpu) → vcpu_then input rep w at x next y rip v ≡ apply (change input rep w at x next y rip) v
is_then true true w at x next y rip v = refl
is_then true false w at x next y rip v = refl
is_then false true w at x next y rip v = refl
is_then false false w at x next y rip v = refl

size_then : (input : Bool) (w : Width) (at x : ℕ) (bytes : List ℕ) → length (bytes_then input w at x bytes) ≡ length bytes
size_then true w at x bytes = length-put_number (size_of w) at x bytes
size_then false w at x bytes = refl

full_then : (rep : Bool) (k next y : ℕ) (registers : List ℕ) → length registers ≡ 16 → length (registers_then rep k next y registers) ≡ 16
full_then true k next y registers full = grind (arith, common_steps)
full_then false k next y registers full = grind (arith, common_steps)

other_then : (rep : Bool) (k next y : ℕ) (registers : List ℕ) → 2 ≢ k → slice_index (registers_then rep k next y registers) 2 ≡ slice_index registers 2
other_then true k next y registers other = grind (arith, common_steps)
other_then false k next y registers other = grind (arith, common_steps)

pointer_then : (rep : Bool) (k next y : ℕ) (registers : List ℕ) → k < length registers → k ≢ 1 → slice_index (registers_then rep k next y registers) k ≡ next
pointer_then true k next y registers within other = grind (arith, common_steps)
pointer_then false k next y registers within other = grind (arith, common_steps)

left_then_is : (input rep : Bool) (w : Width) (at x next y rip : ℕ) (v : Vcpu) → length v.regs.gpr ≡ 16 → left_of rep (vcpu_then input rep w at x next y rip v) ≡ (if rep then y else 1)
left_then_is input true w at x next y rip v full = grind (arith, common_steps)
left_then_is input false w at x next y rip v full = refl

-- the pointer is neither RCX nor RDX
pointer_alone : (input : Bool) → (number_of (pointer input) < 16) × (number_of (pointer input) ≢ 1) × (2 ≢ number_of (pointer input))
pointer_alone true = (omega arith, omega arith, omega arith)
pointer_alone false = (omega arith, omega arith, omega arith)

after_change : (input rep : Bool) (w : Width) (at x next y rip : ℕ) (v : Vcpu) → length v.regs.gpr ≡ 16 → After input rep next y rip v (apply (change input rep w at x next y rip) v)
after_change input rep w at x next y rip v full =
    let k = number_of (pointer input) in
    let alone = pointer_alone input in
    subst (λ (u : Vcpu). After input rep next y rip v u) (is_then input rep w at x next y rip v) (record {
      goes = refl;
      same_flags = refl;
      same_code = refl;
      same_size = size_then input w at x v.ram.bytes;
      same_bytes = λ output. ap (λ (input : Bool). bytes_then input w at x v.ram.bytes) output;
      full = full_then rep k next y v.regs.gpr full;
      same_port = other_then rep k next y v.regs.gpr alone.2;
      pointer_is = pointer_then rep k next y v.regs.gpr (omega (arith, alone.0)) alone.1;
      left_is = left_then_is input rep w at x next y rip v full;
    })

-- the vCPU after the next element
abbrev pub along : Insn → Setting → ℕ → Vcpu → Vcpu
along i s x v = apply (element i s (at_of i v) (left_of i.rep v) x) v

abbrev next_of : Insn → Setting → Vcpu → ℕ
next_of i s v = next_address s.df (size_of (element_width i)) (at_of i v)

pub after_along : (i : Insn) (s : Setting) (x : ℕ) (v : Vcpu) → length v.regs.gpr ≡ 16 →
    After (is_input i.op) i.rep (next_of i s v) (left_of i.rep v - 1) (if left_of i.rep v == 1 then s.next else s.rip) v (along i s x v)
after_along i s x v full = after_change (is_input i.op) i.rep (element_width i) (at_of i v) x (next_of i s v) (left_of i.rep v - 1) (if left_of i.rep v == 1 then s.next else s.rip) v full

-- each of so many elements can be moved
abbrev pub Movable : Bool → Width → Setting → ℕ → ℕ → Type 0
Movable input w s zero at = Unit {0}
Movable input w s (suc n) at = (can_move input s (Bytes at w) ≡ true) × Movable input w s n (next_address s.df (size_of w) at)

-- while elements are left, it stands at their instruction
abbrev pub Stands : Insn → Setting → ℕ → Vcpu → Type 0
Stands i s zero v = Unit {0}
Stands i s (suc n) v = setting v i.len ≡ s

-- so many elements can be placed
pub record CanPlace (i : Insn) (s : Setting) (n : ℕ) (v : Vcpu) : Type 0 where
  pub string : is_string i.op ≡ true
  pub full : length v.regs.gpr ≡ 16
  pub stands : Stands i s n v
  pub enough : n ≤ left_of i.rep v
  pub moves : Movable (is_input i.op) (element_width i) s n (at_of i v)

still_stands : (i : Insn) (s : Setting) (n left : ℕ) (v u : Vcpu) → setting v i.len ≡ s → u.regs.rip ≡ (if left == 1 then s.next else s.rip) → u.regs.flags ≡ v.regs.flags → u.ram.code ≡ v.ram.code
    → length u.ram.bytes ≡ length v.ram.bytes → suc n ≤ left → Stands i s n u
still_stands i s zero left v u stands goes flags code size enough = tt
still_stands i s (suc n) left v u stands goes flags code size enough =
    let other : (left == 1) ≡ false = grind (arith, nat_tests) in
    let rip : u.regs.rip ≡ v.regs.rip = goes ∙ ap (λ b. if b then s.next else s.rip) other ∙ sym (ap (λ (s : Setting). s.rip) stands) in
    let df : u.regs.flags.df ≡ v.regs.flags.df = ap (λ (f : Flags). f.df) flags in
    let same : setting u i.len ≡ setting v i.len = rw (rip, df, code, size) refl in
    same ∙ stands

enough_left : (rep : Bool) (n : ℕ) (v : Vcpu) → suc n ≤ left_of rep v → n ≤ (if rep then left_of rep v - 1 else 1)
enough_left true n v h = omega arith
enough_left false n v h = omega arith

pub can_rest : (i : Insn) (s : Setting) (n x : ℕ) (v : Vcpu) → CanPlace i s (suc n) v → CanPlace i s n (along i s x v)
can_rest i s n x v h =
    let a = after_along i s x v h.full in
    let u : Vcpu = along i s x v in
    record {
      string = h.string;
      full = a.full;
      stands = still_stands i s n (left_of i.rep v) v u h.stands a.goes a.same_flags a.same_code a.same_size h.enough;
      enough = subst (λ k. n ≤ k) (sym a.left_is) (enough_left i.rep n v h.enough);
      moves = subst (λ at. Movable (is_input i.op) (element_width i) s n at) (sym a.pointer_is) h.moves.1;
    }

-- the readings of a plan that goes by a test
pub placed_then : (reply : Reply) (v : Vcpu) (t : Bool) (p q : Plan) → t ≡ true → step_answered reply v (if t then p else q) ≡ step_answered reply v p
placed_then reply v true p q is = refl
placed_then reply v false p q is = absurd (cc)

pub placed_else : (reply : Reply) (v : Vcpu) (t : Bool) (p q : Plan) → t ≡ false → step_answered reply v (if t then p else q) ≡ step_answered reply v q
placed_else reply v true p q is = absurd (cc)
placed_else reply v false p q is = refl

pub asked_then : (v : Vcpu) (t : Bool) (p q : Plan) → t ≡ true → event_asked v (if t then p else q) ≡ event_asked v p
asked_then v true p q is = refl
asked_then v false p q is = absurd (cc)

pub asked_else : (v : Vcpu) (t : Bool) (p q : Plan) → t ≡ false → event_asked v (if t then p else q) ≡ event_asked v q
asked_else v true p q is = absurd (cc)
asked_else v false p q is = refl

-- an element is left, and can be moved
pub not_none : (n k : ℕ) → suc n ≤ k → (k == 0) ≡ false
not_none n k h = grind (arith, nat_tests)

can_here : (i : Insn) (s : Setting) (n : ℕ) (v : Vcpu) → CanPlace i s (suc n) v → can_move (is_input i.op) (apart v i.len) (Bytes (at_of i v) (element_width i)) ≡ true
can_here i s n v h = subst (λ (s : Setting). can_move (is_input i.op) s (Bytes (at_of i v) (element_width i)) ≡ true) (sym h.stands) h.moves.0

-- one element alone is placed
pub element_placed : (i : Insn) (s : Setting) (n x : ℕ) (v : Vcpu) → CanPlace i s (suc n) v → placed_apart (one_result x) i v ≡ Moved (along i s x v)
element_placed i s n x v h =
    placed_then (reply_with (one_result x)) v (is_string i.op) _ _ h.string
    ∙ placed_else (reply_with (one_result x)) v (left_of i.rep v == 0) _ _ (not_none n (left_of i.rep v) h.enough)
    ∙ placed_then (reply_with (one_result x)) v (can_move (is_input i.op) (apart v i.len) (Bytes (at_of i v) (element_width i))) _ _ (can_here i s n v h)
    ∙ ap (λ (s : Setting). Moved (along i s x v)) h.stands

-- the elements that are left go on from where the vCPU stands then
left_then : (rep : Bool) (n : ℕ) (v u : Vcpu) → suc (suc n) ≤ left_of rep v → left_of rep u ≡ (if rep then left_of rep v - 1 else 1) → left_of rep v - 1 ≡ left_of rep u
left_then true n v u enough is = sym is
left_then false n v u enough is = absurd (omega arith)

abbrev pub taken_from : Insn → Setting → List ℕ → Vcpu → Stepped
taken_from i s values v = stepped v (taking i s (at_of i v) (left_of i.rep v) values)

taken_rest : (i : Insn) (s : Setting) (x : ℕ) (xs : List ℕ) (v : Vcpu) → CanPlace i s (suc (length xs)) v →
    stepped (along i s x v) (taking i s (next_of i s v) (left_of i.rep v - 1) xs) ≡ taken_from i s xs (along i s x v)
taken_rest i s x [] v h = refl
taken_rest i s x (y ∷ ys) v h =
    let u : Vcpu = along i s x v in
    let a = after_along i s x v h.full in
    ap (λ at. stepped u (taking i s at (left_of i.rep v - 1) (y ∷ ys))) (sym a.pointer_is)
    ∙ ap (λ left. stepped u (taking i s (at_of i u) left (y ∷ ys))) (left_then i.rep (length ys) v u h.enough a.left_is)

pub taken_first : (i : Insn) (s : Setting) (x : ℕ) (xs : List ℕ) (v : Vcpu) → CanPlace i s (suc (length xs)) v → taken_from i s (x ∷ xs) v ≡ taken_from i s xs (along i s x v)
taken_first i s x xs v h = taken_rest i s x xs v h

-- elements that are placed together are placed one by one
pub taking_alone : (i : Insn) (s : Setting) (values : List ℕ) (v : Vcpu) → CanPlace i s (length values) v → taken_from i s values v ≡ one_by_one i values v
taking_alone i s [] v h = refl
taking_alone i s (x ∷ xs) v h =
    taken_first i s x xs v h
    ∙ taking_alone i s xs (along i s x v) (can_rest i s (length xs) x v h)
    ∙ sym (ap (λ (st : Stepped). then_on st (λ w. one_by_one i xs w)) (element_placed i s (length xs) x v h))

-- the access of the next element
abbrev pub access_here : Insn → Vcpu → Access
access_here i v = access_with (is_input i.op) (whole Rdx v.regs % 2 ^ 16) (size_of (element_width i)) (low (element_width i) (number_at (size_of (element_width i)) (at_of i v) v.ram.bytes))

same_access : (input : Bool) (port at : ℕ) (w : Width) (v : Vcpu) →
    access_with input port (size_of w) (low w (number (map (read v) (Low Rdx B16 ∷ (if input then [] else Bytes at w ∷ []))) 1)) ≡ access_with input port (size_of w) (low w (number_at (size_of w) at v.ram.bytes))
same_access true port at w v = refl
same_access false port at w v = refl

-- the element alone is asked for
pub element_asked : (i : Insn) (s : Setting) (n : ℕ) (v : Vcpu) → CanPlace i s (suc n) v → asked_apart i v ≡ Some (One (access_here i v))
element_asked i s n v h =
    asked_then v (is_string i.op) _ _ h.string
    ∙ asked_else v (left_of i.rep v == 0) _ _ (not_none n (left_of i.rep v) h.enough)
    ∙ asked_then v (can_move (is_input i.op) (apart v i.len) (Bytes (at_of i v) (element_width i))) _ _ (can_here i s n v h)
    ∙ ap (λ (access : Access). Some (One access)) (same_access (is_input i.op) (whole Rdx v.regs % 2 ^ 16) (at_of i v) (element_width i) v)

some_is : (x : Option Event) (e : Event) → x ≡ Some e → IsSome x
some_is None e h = absurd (cc)
some_is (Some x) e h = refl

pub element_some : (i : Insn) (s : Setting) (n : ℕ) (v : Vcpu) → CanPlace i s (suc n) v → IsSome (asked_apart i v)
element_some i s n v h = some_is _ (One (access_here i v)) (element_asked i s n v h)

pub same_moved : (u w : Vcpu) → Moved u ≡ Moved w → u ≡ w
same_moved u w h = cc
