-- Elements that are placed one after another leave the pointer, the count and RIP past all of them, and an input in RAM.
use Rattle.std.proofs.lemmas.Bool.Decides.{nat_tests}
use Rattle.std.proofs.lemmas.List.{set-set, set_comm}
use Rattle.std.proofs.Common.{◌≡◌, ◌≢◌, ℕ, zero, suc, ◌+◌, ◌-◌, ◌*◌, ◌/◌, min, ◌^◌, ◌≤◌, ◌==◌, List, [], ◌∷◌, length, refl, ap, sym, ◌∙◌, subst, arith, Bool, true, false, slice_set}
use Rattle.std.specs.Prelude.{if◌then◌else◌}
use Rattle.x86_base.specs.declared.insn.Insn.{Insn}
use Rattle.x86_base.specs.declared.reg.Width.{Width}
use Rattle.x86_base.specs.declared.reg.Width.TheVariants.{B8, B16, B32, B64}
use Rattle.x86_base.specs.declared.regs.Regs.{Regs}
use Rattle.image_file.specs.Ram.{Memory}
use Rattle.x86_base.specs.Registers.{whole}
use Rattle.x86_base.specs.Widths.{size_of}
use Rattle.event_table.specs.declared.block.Block.{Block}
use Rattle.event_table.specs.declared.places.Place.TheVariants.{Bytes, Low}
use Rattle.event_table.specs.Elements.{can_move, counter, element_width, is_input, movable, next_address, pointer, port_width}
use Rattle.event_table.specs.Places.{Vcpu, Number, vcpu}
use Rattle.event_table.specs.Plan.{Change, Moved, Setting, apply, jumps, setting}
use Rattle.string_io.specs.Blocks.{ram_with}
use Rattle.string_io.proofs.Along.{CanPlace, after_along, along, at_of, can_rest, change, left_of, taken_first, taken_from}
use Rattle.string_io.proofs.Whole.{BlockSays}

-- what all of them change
abbrev pass_change : Bool → Bool → ℕ → ℕ → ℕ → Change
pass_change input rep next left rip = record (jumps rip) { moved = Low (pointer input) B64 ∷ counter rep ∷ []; moves = Number next ∷ Number left ∷ [] }

abbrev pub past_by : Insn → Setting → ℕ → Vcpu → Vcpu
past_by i s n v =
    apply (pass_change (is_input i.op) i.rep (next_address s.df (n * size_of (element_width i)) (at_of i v)) (left_of i.rep v - n) (if left_of i.rep v == n then s.next else s.rip)) v

-- elements, and more, by their bytes
next_twice : (df : Bool) (a b c at : ℕ) → c ≡ a + b → c ≤ 2 ^ 32 → next_address df b (next_address df a at) ≡ next_address df c at
next_twice true a b c at is small = omega arith
next_twice false a b c at is small = omega arith

one_size : (size : ℕ) → 1 * size ≡ size
one_size size = grind arith

more_size : (n size : ℕ) → suc n * size ≡ size + n * size
more_size n size = grind arith

same_test : (left n : ℕ) → 1 ≤ left → (left - 1 == n) ≡ (left == suc n)
same_test left n some = grind (arith, nat_tests)

less_left : (left n : ℕ) → left - 1 - n ≡ left - suc n
less_left left n = omega arith

-- how many are left stands in no RAM
pub any_ram : (rep : Bool) (regs : Regs) (one two : Memory) → left_of rep (vcpu regs one) ≡ left_of rep (vcpu regs two)
any_ram true regs one two = refl
any_ram false regs one two = refl

-- the last write of each register stands
last_stands : (g : List ℕ) (k a b c d : ℕ) → 1 ≢ k → slice_set (slice_set (slice_set (slice_set g k a) 1 b) k c) 1 d ≡ slice_set (slice_set g k c) 1 d
last_stands g k a b c d other =
    ap (λ (xs : List ℕ). slice_set xs 1 d) (set_comm (slice_set g k a) 1 k b c other ∙ ap (λ (xs : List ℕ). slice_set xs 1 b) (set-set g k a c))
    ∙ set-set (slice_set g k c) 1 b d

last_change : (input : Bool) (a b rip c d to : ℕ) (v : Vcpu) → apply (pass_change input true c d to) (apply (pass_change input true a b rip) v) ≡ apply (pass_change input true c d to) v
last_change true a b rip c d to v = ap (λ (gpr : List ℕ). vcpu (record v.regs { gpr = gpr; rip = to }) v.ram) (last_stands v.regs.gpr 7 a b c d (omega arith))
last_change false a b rip c d to v = ap (λ (gpr : List ℕ). vcpu (record v.regs { gpr = gpr; rip = to }) v.ram) (last_stands v.regs.gpr 6 a b c d (omega arith))

-- one element: what it writes to RAM, and to registers
one_pass : (input rep : Bool) (w : Width) (s : Setting) (x at left rip : ℕ) (v : Vcpu) →
    apply (change input rep w at x (next_address s.df (size_of w) at) left rip) v
    ≡ apply (pass_change input rep (next_address s.df (1 * size_of w) at) left rip) (record v { ram = ram_with input (size_of w) s.df (x ∷ []) at v.ram })
one_pass true rep w s x at left rip v = rw (one_size (size_of w)) refl
one_pass false rep w s x at left rip v = rw (one_size (size_of w)) refl

same_registers : (input rep : Bool) (w : Width) (at x next left rip : ℕ) (v : Vcpu) (m : Memory) →
    vcpu (apply (change input rep w at x next left rip) v).regs m ≡ apply (pass_change input rep next left rip) (vcpu v.regs m)
same_registers true true w at x next left rip v m = refl
same_registers true false w at x next left rip v m = refl
same_registers false true w at x next left rip v m = refl
same_registers false false w at x next left rip v m = refl

ram_more : (input rep : Bool) (w : Width) (s : Setting) (xs : List ℕ) (at x left rip : ℕ) (v : Vcpu) → let next = next_address s.df (size_of w) at in
    ram_with input (size_of w) s.df xs next (apply (change input rep w at x next left rip) v).ram ≡ ram_with input (size_of w) s.df (x ∷ xs) at v.ram
ram_more true true w s xs at x left rip v = refl
ram_more true false w s xs at x left rip v = refl
ram_more false true w s xs at x left rip v = refl
ram_more false false w s xs at x left rip v = refl

-- one element more
more_pass : (input rep : Bool) (w : Width) (s : Setting) (n next left rip : ℕ) (v u : Vcpu) → suc n ≤ left_of rep v → 1 ≤ n → suc n * size_of w ≤ 2032
    → u ≡ apply (pass_change input rep next left rip) v → next ≡ next_address s.df (size_of w) (whole (pointer input) v.regs) → left ≡ left_of rep v - 1
    → whole (pointer input) u.regs ≡ next → left_of rep u ≡ (if rep then left else 1)
    → apply (pass_change input rep (next_address s.df (n * size_of w) (whole (pointer input) u.regs)) (left_of rep u - n) (if left_of rep u == n then s.next else s.rip)) u
    ≡ apply (pass_change input rep (next_address s.df (suc n * size_of w) (whole (pointer input) v.regs)) (left_of rep v - suc n) (if left_of rep v == suc n then s.next else s.rip)) v
more_pass input false w s n next left rip v u enough some room is next_is left_is at_u left_u = absurd (omega arith)
more_pass input true w s n next left rip v u enough some room is next_is left_is at_u left_u =
    let at = whole (pointer input) v.regs in
    let most = left_of true v in
    let address : next_address s.df (n * size_of w) (whole (pointer input) u.regs) ≡ next_address s.df (suc n * size_of w) at =
    ap (λ k. next_address s.df (n * size_of w) k) (at_u ∙ next_is)
    ∙ next_twice s.df (size_of w) (n * size_of w) (suc n * size_of w) at (more_size n (size_of w)) (omega arith) in
    let count : left_of true u ≡ most - 1 = left_u ∙ left_is in
    let rest : left_of true u - n ≡ most - suc n = ap (λ k. k - n) count ∙ less_left most n in
    let test : (left_of true u == n) ≡ (most == suc n) = ap (λ k. k == n) count ∙ same_test most n (omega arith) in
    ap (λ k. apply (pass_change input true k (left_of true u - n) (if left_of true u == n then s.next else s.rip)) u) address
    ∙ ap (λ k. apply (pass_change input true (next_address s.df (suc n * size_of w) at) k (if left_of true u == n then s.next else s.rip)) u) rest
    ∙ ap (λ b. apply (pass_change input true (next_address s.df (suc n * size_of w) at) (most - suc n) (if b then s.next else s.rip)) u) test
    ∙ ap (λ (u : Vcpu). apply (pass_change input true (next_address s.df (suc n * size_of w) at) (most - suc n) (if most == suc n then s.next else s.rip)) u) is
    ∙ last_change input next left rip (next_address s.df (suc n * size_of w) at) (most - suc n) (if most == suc n then s.next else s.rip) v

-- RAM once values are placed
abbrev pub ram_then : Insn → Setting → List ℕ → Vcpu → Memory
ram_then i s values v = ram_with (is_input i.op) (size_of (element_width i)) s.df values (at_of i v) v.ram

-- all elements
pass_all : (i : Insn) (s : Setting) (x : ℕ) (xs : List ℕ) (v : Vcpu) → CanPlace i s (suc (length xs)) v → suc (length xs) * size_of (element_width i) ≤ 2032
    → taken_from i s (x ∷ xs) v ≡ Moved (past_by i s (suc (length xs)) (vcpu v.regs (ram_then i s (x ∷ xs) v)))
pass_all i s x [] v h room =
    let m : Memory = ram_then i s (x ∷ []) v in
    let size = size_of (element_width i) in
    ap (λ (w : Vcpu). Moved w)
    (one_pass (is_input i.op) i.rep (element_width i) s x (at_of i v) (left_of i.rep v - 1) (if left_of i.rep v == 1 then s.next else s.rip) v
    ∙ ap (λ left. apply (pass_change (is_input i.op) i.rep (next_address s.df (1 * size) (at_of i v)) (left - 1) (if left == 1 then s.next else s.rip)) (vcpu v.regs m)) (any_ram i.rep v.regs v.ram m))
pass_all i s x (y ∷ ys) v h room =
    let n = suc (length ys) in
    let input = is_input i.op in
    let w = element_width i in
    let at = at_of i v in
    let next = next_address s.df (size_of w) at in
    let left = left_of i.rep v - 1 in
    let rip = (if left_of i.rep v == 1 then s.next else s.rip) in
    let u : Vcpu = along i s x v in
    let a = after_along i s x v h.full in
    let m : Memory = ram_then i s (x ∷ y ∷ ys) v in
    let same : ram_then i s (y ∷ ys) u ≡ m = ap (λ k. ram_with input (size_of w) s.df (y ∷ ys) k u.ram) a.pointer_is ∙ ram_more input i.rep w s (y ∷ ys) at x left rip v in
    let before : left_of i.rep v ≡ left_of i.rep (vcpu v.regs m) = any_ram i.rep v.regs v.ram m in
    taken_first i s x (y ∷ ys) v h
    ∙ pass_all i s y ys u (can_rest i s n x v h) (omega (arith, more_size n (size_of (element_width i))))
    ∙ ap (λ (m : Memory). Moved (past_by i s n (vcpu u.regs m))) same
    ∙ ap (λ (w : Vcpu). Moved w)
    (more_pass input i.rep w s n next left rip (vcpu v.regs m) (vcpu u.regs m) (subst (λ k. suc n ≤ k) before h.enough) (omega arith) room (same_registers input i.rep w at x next left rip v m) refl
    (ap (λ k. k - 1) before) a.pointer_is (any_ram i.rep u.regs m u.ram ∙ a.left_is))

-- a block has an element
movable_some : (k at : ℕ) (input : Bool) (w : Width) (s : Setting) → 1 ≤ k → can_move input s (Bytes at w) ≡ true → 1 ≤ length (movable input w s k at)
movable_some zero at input w s some can = absurd (omega arith)
movable_some (suc k) at input w s some can = rw can (omega arith)

most_some : (w : Width) (left : ℕ) → (left == 0) ≡ false → 1 ≤ min left (2032 / size_of (port_width w))
most_some B8 left some = let more : 1 ≤ left = grind (arith, nat_tests) in omega arith
most_some B16 left some = let more : 1 ≤ left = grind (arith, nat_tests) in omega arith
most_some B32 left some = let more : 1 ≤ left = grind (arith, nat_tests) in omega arith
most_some B64 left some = let more : 1 ≤ left = grind (arith, nat_tests) in omega arith

pub block_some : (i : Insn) (v : Vcpu) (b : Block) → BlockSays i v b → 1 ≤ b.count
block_some i v b says =
    subst (λ (b : Block). 1 ≤ b.count) says.block
    (movable_some (min (left_of i.rep v) (2032 / size_of (element_width i))) (at_of i v) (is_input i.op) (element_width i) (setting v i.len) (most_some i.width (left_of i.rep v) says.left) says.can)

-- the elements of a block
pub pass_values : (i : Insn) (s : Setting) (n : ℕ) (values : List ℕ) (v : Vcpu) → length values ≡ n → 1 ≤ n → CanPlace i s n v → n * size_of (element_width i) ≤ 2032
    → taken_from i s values v ≡ Moved (past_by i s n (vcpu v.regs (ram_then i s values v)))
pass_values i s n [] v is some h room = absurd (omega arith)
pass_values i s n (x ∷ xs) v is some h room =
    subst (λ n. taken_from i s (x ∷ xs) v ≡ Moved (past_by i s n (vcpu v.regs (ram_then i s (x ∷ xs) v)))) is
    (pass_all i s x xs v (subst (λ n. CanPlace i s n v) (sym is) h) (subst (λ n. n * size_of (element_width i) ≤ 2032) (sym is) room))
