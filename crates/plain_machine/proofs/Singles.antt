-- An event that is done at once is its accesses, one after another.
use Rattle.std.proofs.Common.{◌≡◌, ℕ, zero, suc, ◌+◌, ◌*◌, ◌-◌, ◌/◌, ◌%◌, ◌^◌, ◌==◌, min, List, [], ◌∷◌, length, refl, ap, sym, ◌∙◌, subst, arith, Bool, true, false, Option, Some, slice_set, Result, Ok}
use Rattle.std.proofs.Math.Seq.{drop-nil}
use Rattle.std.proofs.lemmas.Nat.{mod-pow-add}
use Rattle.std.specs.Prelude.{map, if◌then◌else◌, option_and_then}
use Rattle.x86_base.specs.declared.insn.Insn.{Insn}
use Rattle.x86_base.specs.declared.reg.Reg.TheVariants.{Rdx}
use Rattle.x86_base.specs.declared.reg.Width.{Width}
use Rattle.x86_base.specs.declared.reg.Width.TheVariants.{B8, B16, B32, B64}
use Rattle.x86_base.specs.Registers.{whole}
use Rattle.x86_base.specs.Widths.{low, size_of}
use Rattle.image_file.specs.Image.{Contents}
use Rattle.image_file.specs.Number.{number_at, put_number}
use Rattle.event_table.specs.declared.access.Access.{Access}
use Rattle.event_table.specs.declared.block.Block.{Block}
use Rattle.event_table.specs.declared.end.End.{End}
use Rattle.event_table.specs.declared.event.Event.{Event}
use Rattle.event_table.specs.declared.event.Event.TheVariants.{One, Many}
use Rattle.event_table.specs.Elements.{access_with, accesses_of, bytes_in, element_width, elements, is_input, next_address, numbers_in, port_width, taking}
use Rattle.event_table.specs.Events.{asked_by, exit_of}
use Rattle.event_table.specs.Places.{Vcpu, Number}
use Rattle.event_table.specs.Plan.{Plan, Setting, Stepped, Moved, apart, apply, event_asked, reply_with, setting, stepped}
use Rattle.device_bus.specs.declared.answer.Answer.{Answer}
use Rattle.device_bus.specs.declared.answer.Answer.TheVariants.{Done, Raise}
use Rattle.device_bus.specs.Devices.{Devices, answer, after_access, is_data, is_mailbox, is_status}
use Rattle.device_bus.specs.History.{after_accesses, bytes_to, value_in, values_to}
use Rattle.guest_interp.specs.Stepping.{insn_at, results_of}
use Rattle.guest_interp.proofs.Going.{one_answered}
use Rattle.guest_interp.proofs.Placing.{answered_alone, asked_block}
use Rattle.string_io.specs.Blocks.{bytes_reply, one_result}
use Rattle.string_io.proofs.Along.{access_here, after_along, along, at_of, can_rest, CanPlace, change, element_asked, element_placed, left_of, taken_first, taken_from}
use Rattle.string_io.proofs.Asks.{accesses_back, drop_back, number_back, numbers, same_numbers, with_numbers}
use Rattle.string_io.proofs.Whole.{block_says, can_elements, placed_takes}
use Rattle.plain_machine.specs.Single.{Accessed, accessed, alone_at, alone_by, answer_applied, at_once, EventsAreSingles, single, single_answered, single_by, singles}
use Rattle.plain_machine.proofs.Asking.{asked_alone, exits_by}
use Rattle.plain_machine.proofs.Staying.{at_rest, IsAt}

-- the plan of the instruction that is there
alone_there : (v : Vcpu) (i : Insn) → insn_at v.ram v.regs.rip ≡ Ok i → alone_at v ≡ exit_of i (apart v i.len)
unfolding alone_at
alone_there v i here = ap (λ (r : Result Insn End). alone_by r v) here

single_there : (image : Contents) (c : ℕ) (v : Vcpu) (d : Devices) (i : Insn) → insn_at v.ram v.regs.rip ≡ Ok i →
    single image c v d ≡ single_by image c (event_asked v (exit_of i (apart v i.len))) v (exit_of i (apart v i.len)) d
single_there image c v d i here = ap (λ (p : Plan). single_by image c (event_asked v p) v p d) (alone_there v i here)

-- port I/O is answered with one result
abbrev IsOneResult : Answer × Devices → Type 0
IsOneResult r = r.0 ≡ Done (one_result (value_in r.0))

one_if : (t : Bool) (p q : Answer × Devices) → IsOneResult p → IsOneResult q → IsOneResult (if t then p else q)
one_if true p q one other = one
one_if false p q one other = other

answer_io : (d : Devices) (c port size value : ℕ) (input : Bool) → answer d c (access_with input port size value) ≡ Done (one_result (value_in (answer d c (access_with input port size value))))
answer_io d c port size value true = one_if (is_data port size) _ _ refl (one_if (is_status port size) _ _ refl (one_if (is_mailbox port size) _ _ refl refl))
answer_io d c port size value false = refl

-- the accesses of elements
abbrev accesses : Insn → Setting → ℕ → Vcpu → List Access
accesses i s n v = with_numbers (is_input i.op) (whole Rdx v.regs % 2 ^ 16) (element_width i) (numbers (element_width i) s v.ram.bytes n (at_of i v))

-- one element, asked, answered and placed
one_single : (image : Contents) (c : ℕ) (i : Insn) (s : Setting) (n : ℕ) (v : Vcpu) (d : Devices) → CanPlace i s (suc n) v → insn_at v.ram v.regs.rip ≡ Ok i →
    single image c v d ≡ Some (accessed (Moved (along i s (value_in (answer d c (access_here i v))) v)) (after_access d c (access_here i v)))
one_single image c i s n v d h here =
    let access = access_here i v in
    let x = value_in (answer d c access) in
    let plan : Plan = exit_of i (apart v i.len) in
    let says = answer_io d c (whole Rdx v.regs % 2 ^ 16) (size_of (element_width i)) (low (element_width i) (number_at (size_of (element_width i)) (at_of i v) v.ram.bytes)) (is_input i.op) in
    single_there image c v d i here
    ∙ ap (λ (e : Option Event). single_by image c e v plan d) (element_asked i s n v h)
    ∙ ap (λ (a : Answer). Some (accessed (single_answered image a v plan) (after_access d c access))) says
    ∙ ap (λ (st : Stepped). Some (accessed st (after_access d c access))) (element_placed i s n x v h)

pub length-values_to : (d : Devices) (c : ℕ) (them : List Access) → length (values_to d c them) ≡ length them
length-values_to d c [] = refl
length-values_to d c (a ∷ them) = ap suc (length-values_to (after_access d c a) c them)

length-with_numbers : (input : Bool) (port : ℕ) (w : Width) (xs : List ℕ) → length (with_numbers input port w xs) ≡ length xs
length-with_numbers input port w [] = refl
length-with_numbers input port w (x ∷ xs) = ap suc (length-with_numbers input port w xs)

length-numbers : (w : Width) (s : Setting) (bytes : List ℕ) (n at : ℕ) → length (numbers w s bytes n at) ≡ n
length-numbers w s bytes zero at = refl
length-numbers w s bytes (suc n) at = ap suc (length-numbers w s bytes n (next_address s.df (size_of w) at))

length-accesses : (i : Insn) (s : Setting) (n : ℕ) (v : Vcpu) → length (accesses i s n v) ≡ n
length-accesses i s n v =
    length-with_numbers (is_input i.op) (whole Rdx v.regs % 2 ^ 16) (element_width i) (numbers (element_width i) s v.ram.bytes n (at_of i v))
    ∙ length-numbers (element_width i) s v.ram.bytes n (at_of i v)

-- elements one by one are elements together, with what the devices say to each
singles_along : (image : Contents) (c n : ℕ) (i : Insn) (s : Setting) (v : Vcpu) (d : Devices) → CanPlace i s n v → IsAt i n v →
    singles image c n (Moved v) d ≡ Some (accessed (taken_from i s (values_to d c (accesses i s n v)) v) (after_accesses d c (accesses i s n v)))
singles_along image c zero i s v d h here = refl
singles_along image c (suc n) i s v d h here =
    let access = access_here i v in
    let x = value_in (answer d c access) in
    let u : Vcpu = along i s x v in
    let e = after_access d c access in
    let a = after_along i s x v h.full in
    let rest : List Access = with_numbers (is_input i.op) (whole Rdx v.regs % 2 ^ 16) (element_width i) (numbers (element_width i) s v.ram.bytes n (next_address s.df (size_of (element_width i)) (at_of i v))) in
    let same : accesses i s n u ≡ rest =
    same_numbers (is_input i.op) (whole Rdx u.regs % 2 ^ 16) (whole Rdx v.regs % 2 ^ 16) (element_width i) s n (at_of i u) (next_address s.df (size_of (element_width i)) (at_of i v)) u.ram.bytes v.ram.bytes
    (ap (λ p. p % 2 ^ 16) a.same_port) a.pointer_is a.same_bytes in
    let many : length (values_to e c rest) ≡ n = length-values_to e c rest ∙ ap (λ (them : List Access). length them) (sym same) ∙ length-accesses i s n u in
    ap (λ (o : Option Accessed). option_and_then (λ a. singles image c n a.stands a.devices) o) (one_single image c i s n v d h here)
    ∙ singles_along image c n i s u e (can_rest i s n x v h) (at_rest i s n x v h here)
    ∙ ap (λ (them : List Access). Some (accessed (taken_from i s (values_to e c them) u) (after_accesses e c them))) same
    ∙ ap (λ (st : Stepped). Some (accessed st (after_accesses e c rest))) (sym (taken_first i s x (values_to e c rest) v (subst (λ k. CanPlace i s (suc k) v) (sym many) h)))

-- a number is cut where it is put
cut_put : (n at x : ℕ) (bytes : List ℕ) → put_number n at (x % 2 ^ (8 * n)) bytes ≡ put_number n at x bytes
cut_put zero at x bytes = refl
cut_put (suc n) at x bytes =
    let wide : 8 * suc n ≡ 8 * n + 8 = omega arith in
    let parts : x % 2 ^ (8 * suc n) ≡ (x / 2 ^ 8 % 2 ^ (8 * n)) * 2 ^ 8 + x % 2 ^ 8 = ap (λ k. x % 2 ^ k) wide ∙ mod-pow-add x (8 * n) 8 in
    let byte : x % 2 ^ (8 * suc n) % 2 ^ 8 ≡ x % 2 ^ 8 = ap (λ y. y % 2 ^ 8) parts ∙ omega arith in
    let above : x % 2 ^ (8 * suc n) / 2 ^ 8 ≡ x / 2 ^ 8 % 2 ^ (8 * n) = ap (λ y. y / 2 ^ 8) parts ∙ omega arith in
    rw (byte, above) (cut_put n (at + 1) (x / 2 ^ 8) (slice_set bytes at (x % 2 ^ 8)))

-- a value is cut where it is placed
put_cut : (w : Width) (at x : ℕ) (bytes : List ℕ) → put_number (size_of (port_width w)) at (low (port_width w) x) bytes ≡ put_number (size_of (port_width w)) at x bytes
put_cut B8 at x bytes = cut_put 1 at x bytes
put_cut B16 at x bytes = cut_put 2 at x bytes
put_cut B32 at x bytes = cut_put 4 at x bytes
put_cut B64 at x bytes = cut_put 4 at x bytes

cut_change : (input rep : Bool) (w : Width) (at x next y rip : ℕ) (v : Vcpu) → apply (change input rep (port_width w) at (low (port_width w) x) next y rip) v ≡ apply (change input rep (port_width w) at x next y rip) v
cut_change true rep w at x next y rip v = rw (put_cut w at x v.ram.bytes) refl
cut_change false rep w at x next y rip v = refl

taking_cut : (i : Insn) (s : Setting) (at left : ℕ) (xs : List ℕ) (v : Vcpu) → stepped v (taking i s at left (map (λ x. low (element_width i) x) xs)) ≡ stepped v (taking i s at left xs)
taking_cut i s at left [] v = refl
taking_cut i s at left (x ∷ xs) v =
    let next = next_address s.df (size_of (element_width i)) at in
    let rip = if left == 1 then s.next else s.rip in
    taking_cut i s next (left - 1) xs (apply (change (is_input i.op) i.rep (element_width i) at (low (element_width i) x) next (left - 1) rip) v)
    ∙ ap (λ (u : Vcpu). stepped u (taking i s next (left - 1) xs)) (cut_change (is_input i.op) i.rep i.width at x next (left - 1) rip v)

-- what the devices said, through the bytes of a reply
numbers_said : (w : Width) (xs : List ℕ) → numbers_in (size_of (port_width w)) (length xs) (bytes_in (size_of (port_width w)) (map (λ x. Number x) xs)) ≡ map (λ x. low (port_width w) x) xs
numbers_said w [] = refl
numbers_said w (x ∷ xs) =
    let rest = bytes_in (size_of (port_width w)) (map (λ x. Number x) xs) in
    rw (number_back w x rest, drop_back w x rest, numbers_said w xs) refl

none_there : (n at : ℕ) → number_at n at [] ≡ 0
none_there zero at = refl
none_there (suc n) at = let rest : number_at n (at + 1) [] ≡ 0 = none_there n (at + 1) in rw rest refl

outputs_said : (d : Devices) (c port : ℕ) (w : Width) (xs : List ℕ) → numbers_in (size_of w) (length xs) [] ≡ values_to d c (with_numbers false port w xs)
outputs_said d c port w [] = refl
outputs_said d c port w (x ∷ xs) = rw (none_there (size_of w) 0, drop-nil {A = ℕ} (size_of w), outputs_said (after_access d c (access_with false port (size_of w) (low w x))) c port w xs) refl

said_same : (input : Bool) (d : Devices) (c port : ℕ) (i : Insn) (s : Setting) (xs : List ℕ) (v : Vcpu) →
    taken_from i s (numbers_in (size_of (element_width i)) (length xs) (if input then bytes_in (size_of (element_width i)) (map (λ x. Number x) (values_to d c (with_numbers input port (element_width i) xs))) else [])) v
    ≡ taken_from i s (values_to d c (with_numbers input port (element_width i) xs)) v
said_same true d c port i s xs v =
    let said = values_to d c (with_numbers true port (element_width i) xs) in
    let long : length said ≡ length xs = length-values_to d c (with_numbers true port (element_width i) xs) ∙ length-with_numbers true port (element_width i) xs in
    ap (λ n. taken_from i s (numbers_in (size_of (element_width i)) n (bytes_in (size_of (element_width i)) (map (λ x. Number x) said))) v) (sym long)
    ∙ ap (λ (ys : List ℕ). taken_from i s ys v) (numbers_said i.width said)
    ∙ taking_cut i s (at_of i v) (left_of i.rep v) said v
said_same false d c port i s xs v = ap (λ (ys : List ℕ). taken_from i s ys v) (outputs_said d c port (element_width i) xs)

at_all : (i : Insn) (n : ℕ) (v : Vcpu) → insn_at v.ram v.regs.rip ≡ Ok i → IsAt i n v
at_all i zero v here = tt
at_all i (suc n) v here = here

-- a block
block_singles : (image : Contents) (c : ℕ) (i : Insn) (b : Block) (v : Vcpu) (d : Devices) → length v.regs.gpr ≡ 16 → insn_at v.ram v.regs.rip ≡ Ok i → asked_by i v ≡ Some (Many b) →
    singles image c b.count (Moved v) d ≡ Some (at_once image c (Many b) v d)
block_singles image c i b v d full here asks =
    let s : Setting = setting v i.len in
    let says = block_says i v b (asked_block i v b asks) in
    let n = length (elements i s (at_of i v) (left_of i.rep v)) in
    let port = whole Rdx v.regs % 2 ^ 16 in
    let size = size_of (element_width i) in
    let input = is_input i.op in
    let xs = numbers (element_width i) s v.ram.bytes n (at_of i v) in
    let long : length xs ≡ n = length-numbers (element_width i) s v.ram.bytes n (at_of i v) in
    let same = accesses_back input port i.width s v (min (left_of i.rep v) (2032 / size)) (at_of i v) in
    let reply : List Access → ℕ → List ℕ = λ them k. numbers_in size k (if input then bytes_in size (map (λ x. Number x) (values_to d c them)) else []) in
    let said = ap (λ k. taken_from i s (reply (with_numbers input port (element_width i) xs) k) v) (sym long) ∙ said_same input d c port i s xs v in
    let whole =
    singles_along image c n i s v d (can_elements i v says.string full) (at_all i n v here)
    ∙ ap (λ (st : Stepped). Some (accessed st (after_accesses d c (with_numbers input port (element_width i) xs)))) (sym said)
    ∙ ap (λ (them : List Access). Some (accessed (taken_from i s (reply them n) v) (after_accesses d c them))) (sym same) in
    let placed : taken_from i s (numbers_in b.size b.count (bytes_to d c b)) v ≡ results_of (bytes_reply (bytes_to d c b)) v =
    sym (placed_takes i v b (bytes_reply (bytes_to d c b)) says) ∙ one_answered v (bytes_reply (bytes_to d c b)) i (sym here) in
    subst (λ (b : Block). singles image c b.count (Moved v) d ≡ Some (accessed (taken_from i s (numbers_in b.size b.count (bytes_to d c b)) v) (after_accesses d c (accesses_of (Many b))))) says.block whole
    ∙ ap (λ (st : Stepped). Some (accessed st (after_accesses d c (accesses_of (Many b))))) placed

-- one access
answer_alone : (image : Contents) (i : Insn) (access : Access) (v : Vcpu) (a : Answer) → insn_at v.ram v.regs.rip ≡ Ok i → asked_by i v ≡ Some (One access) →
    single_answered image a v (exit_of i (apart v i.len)) ≡ answer_applied image a v
answer_alone image i access v (Done values) here asks = answered_alone i v (reply_with values) access asks ∙ one_answered v (reply_with values) i (sym here)
answer_alone image i access v (Raise vector code) here asks = refl

access_singles : (image : Contents) (c : ℕ) (i : Insn) (access : Access) (v : Vcpu) (d : Devices) → insn_at v.ram v.regs.rip ≡ Ok i → asked_by i v ≡ Some (One access) →
    singles image c 1 (Moved v) d ≡ Some (at_once image c (One access) v d)
access_singles image c i access v d here asks =
    let plan : Plan = exit_of i (apart v i.len) in
    let one : single image c v d ≡ Some (at_once image c (One access) v d) =
    single_there image c v d i here
    ∙ ap (λ (e : Option Event). single_by image c e v plan d) (asked_alone i v access asks ∙ asks)
    ∙ ap (λ (st : Stepped). Some (accessed st (after_access d c access))) (answer_alone image i access v (answer d c access) here asks) in
    ap (λ (o : Option Accessed). option_and_then (λ a. singles image c 0 a.stands a.devices) o) one

pub event_singles : EventsAreSingles
event_singles image c (One access) v d full exits = let by = (exits_by v v (One access) exits).1 in access_singles image c by.insn access v d by.here by.asks
event_singles image c (Many b) v d full exits = let by = (exits_by v v (Many b) exits).1 in block_singles image c by.insn b v d full by.here by.asks
