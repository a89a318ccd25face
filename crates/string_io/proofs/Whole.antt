-- A block is its elements.
use Rattle.std.proofs.lemmas.Grind.{common_steps}
use Rattle.std.proofs.Common.{◌≡◌, ℕ, zero, suc, ◌+◌, ◌*◌, ◌/◌, ◌%◌, ◌^◌, ◌<◌, ◌≤◌, ◌==◌, min, List, [], ◌∷◌, length, drop, slice_index, add-zero, refl, ap, sym, ◌∙◌, subst, arith, Bool, true, false, Some, None, Option, inl, inr}
use Rattle.std.proofs.lemmas.List.Elements.{All-append, All-cons}
use Rattle.std.specs.Prelude.{All, map, if◌then◌else◌}
use Rattle.x86_base.specs.declared.insn.Insn.{Insn}
use Rattle.x86_base.specs.declared.reg.Reg.TheVariants.{Rdx}
use Rattle.x86_base.specs.declared.reg.Width.{Width}
use Rattle.x86_base.specs.declared.reg.Width.TheVariants.{B8, B16, B32, B64}
use Rattle.x86_base.specs.Registers.{whole}
use Rattle.x86_base.specs.Widths.{size_of}
use Rattle.image_file.specs.Number.{number_at}
use Rattle.event_table.specs.declared.block.Block.{Block}
use Rattle.event_table.specs.declared.event.Event.{Event}
use Rattle.event_table.specs.declared.event.Event.TheVariants.{Many}
use Rattle.event_table.specs.declared.places.Place.{Place}
use Rattle.event_table.specs.declared.places.Place.TheVariants.{Bytes}
use Rattle.event_table.specs.declared.outcome.Reply.{Reply}
use Rattle.event_table.specs.Events.{placed_by}
use Rattle.event_table.specs.Elements.{next_address, block_of, block_with, bytes_in, bytes_of, can_move, counter, elements, is_input, is_string, movable, numbers_in, shown_of, port_width, element_width}
use Rattle.event_table.specs.Places.{Number, Value, Vcpu, as_number, read}
use Rattle.event_table.specs.Lawful.{IsSize}
use Rattle.event_table.specs.Plan.{Plan, Setting, event_asked, setting}
use Rattle.string_io.specs.Blocks.{bytes_reply, next_block, one_by_one}
use Rattle.string_io.proofs.Along.{at_of, left_of, CanPlace, Movable, Stands, placed_then, placed_else, taken_from, taking_alone}

-- the elements before the first that can't be moved can be
movable_cond : (t : Bool) (at : ℕ) (input : Bool) (w : Width) (s : Setting) (rest : List Place) → can_move input s (Bytes at w) ≡ t → Movable input w s (length rest) (next_address s.df (size_of w) at)
    → Movable input w s (length (if t then Bytes at w ∷ rest else [])) at
movable_cond true at input w s rest can more = (can, more)
movable_cond false at input w s rest can more = tt

pub movable_can : (k at : ℕ) (input : Bool) (w : Width) (s : Setting) → Movable input w s (length (movable input w s k at)) at
movable_can zero at input w s = tt
movable_can (suc k) at input w s = movable_cond (can_move input s (Bytes at w)) at input w s (movable input w s k (next_address s.df (size_of w) at)) refl (movable_can k (next_address s.df (size_of w) at) input w s)

few_cond : (t : Bool) (p : Place) (rest : List Place) (k : ℕ) → length rest ≤ k → length (if t then p ∷ rest else []) ≤ suc k
few_cond true p rest k h = omega arith
few_cond false p rest k h = omega arith

movable_few : (k at : ℕ) (input : Bool) (w : Width) (s : Setting) → length (movable input w s k at) ≤ k
movable_few zero at input w s = omega arith
movable_few (suc k) at input w s = few_cond (can_move input s (Bytes at w)) (Bytes at w) (movable input w s k (next_address s.df (size_of w) at)) k (movable_few k (next_address s.df (size_of w) at) input w s)

-- what a block says of its instruction
pub record BlockSays (i : Insn) (v : Vcpu) (b : Block) : Type 0 where
  pub string : is_string i.op ≡ true
  pub left : (left_of i.rep v == 0) ≡ false
  pub can : can_move (is_input i.op) (setting v i.len) (Bytes (at_of i v) (element_width i)) ≡ true
  pub block : block_with i (length (elements i (setting v i.len) (at_of i v) (left_of i.rep v))) (whole Rdx v.regs % 2 ^ 16)
      (map (read v) (shown_of i (elements i (setting v i.len) (at_of i v) (left_of i.rep v)))) ≡ b

asked_cases : (v : Vcpu) (t : Bool) (p q : Plan) (e : Event) → event_asked v p ≡ None → event_asked v (if t then p else q) ≡ Some e → (t ≡ false) × (event_asked v q ≡ Some e)
asked_cases v true p q e none h = absurd (cc)
asked_cases v false p q e none h = (refl, h)

asked_case : (v : Vcpu) (t : Bool) (p q : Plan) (e : Event) → event_asked v q ≡ None → event_asked v (if t then p else q) ≡ Some e → (t ≡ true) × (event_asked v p ≡ Some e)
asked_case v true p q e none h = (refl, h)
asked_case v false p q e none h = absurd (cc)

pub some_cond : (t : Bool) (x : Option Event) (e : Event) → (if t then x else None) ≡ Some e → (t ≡ true) × (x ≡ Some e)
some_cond true x e h = (refl, h)
some_cond false x e h = absurd (cc)

same_block : (a b : Block) → Some (Many a) ≡ Some (Many b) → a ≡ b
same_block a b h = cc

pub block_says : (i : Insn) (v : Vcpu) (b : Block) → next_block i v ≡ Some (Many b) → BlockSays i v b
block_says i v b h =
    let s = some_cond (is_string i.op) (event_asked v (block_of i (setting v i.len))) (Many b) h in
    let l = asked_cases v (left_of i.rep v == 0) _ _ (Many b) refl s.1 in
    let m = asked_case v (can_move (is_input i.op) (setting v i.len) (Bytes (at_of i v) (element_width i))) _ _ (Many b) refl l.1 in
    record { string = s.0; left = l.0; can = m.0; block = same_block _ b m.1 }

stands_all : (i : Insn) (n : ℕ) (v : Vcpu) → Stands i (setting v i.len) n v
stands_all i zero v = tt
stands_all i (suc n) v = refl

below_min : (n a b : ℕ) → n ≤ min a b → n ≤ a
below_min n a b h = omega arith

-- a block's elements can be placed
pub can_elements : (i : Insn) (v : Vcpu) → is_string i.op ≡ true → length v.regs.gpr ≡ 16 → CanPlace i (setting v i.len) (length (elements i (setting v i.len) (at_of i v) (left_of i.rep v))) v
can_elements i v string full =
    let s : Setting = setting v i.len in
    let most = min (left_of i.rep v) (2032 / size_of (element_width i)) in
    record {
      string = string;
      full = full;
      stands = stands_all i (length (elements i s (at_of i v) (left_of i.rep v))) v;
      enough = below_min (length (elements i s (at_of i v) (left_of i.rep v))) (left_of i.rep v) (2032 / size_of (element_width i)) (movable_few most (at_of i v) (is_input i.op) (element_width i) s);
      moves = movable_can most (at_of i v) (is_input i.op) (element_width i) s;
    }

pub length-numbers_in : (size n : ℕ) (bytes : List ℕ) → length (numbers_in size n bytes) ≡ n
length-numbers_in size zero bytes = refl
length-numbers_in size (suc n) bytes = ap suc (length-numbers_in size n (drop size bytes))

-- placing a block's reply takes its elements
pub placed_takes : (i : Insn) (v : Vcpu) (b : Block) (reply : Reply) → BlockSays i v b →
    placed_by reply i v ≡ taken_from i (setting v i.len) (numbers_in b.size b.count reply.bytes) v
placed_takes i v b reply says =
    placed_then reply v (is_string i.op) _ _ says.string
    ∙ placed_else reply v (left_of i.rep v == 0) _ _ says.left
    ∙ placed_then reply v (can_move (is_input i.op) (setting v i.len) (Bytes (at_of i v) (element_width i))) _ _ says.can
    ∙ ap (λ (b : Block). taken_from i (setting v i.len) (numbers_in b.size b.count reply.bytes) v) says.block

pub can_block : (i : Insn) (v : Vcpu) (b : Block) → length v.regs.gpr ≡ 16 → BlockSays i v b → CanPlace i (setting v i.len) b.count v
can_block i v b full says = subst (λ (b : Block). CanPlace i (setting v i.len) b.count v) says.block (can_elements i v says.string full)

-- placing a block's reply places its elements one by one
pub block_places : (i : Insn) (v : Vcpu) (b : Block) (bytes : List ℕ) → length v.regs.gpr ≡ 16 → next_block i v ≡ Some (Many b) →
    placed_by (bytes_reply bytes) i v ≡ one_by_one i (numbers_in b.size b.count bytes) v
block_places i v b bytes full h =
    let says = block_says i v b h in
    placed_takes i v b (bytes_reply bytes) says
    ∙ taking_alone i (setting v i.len) (numbers_in b.size b.count bytes) v
    (subst (λ n. CanPlace i (setting v i.len) n v) (sym (length-numbers_in b.size b.count bytes)) (can_block i v b full says))

-- and can be moved
pub block_moves : (i : Insn) (v : Vcpu) (b : Block) → BlockSays i v b → Movable (is_input i.op) (element_width i) (setting v i.len) b.count (at_of i v)
block_moves i v b says =
    subst (λ (b : Block). Movable (is_input i.op) (element_width i) (setting v i.len) b.count (at_of i v)) says.block
    (movable_can (min (left_of i.rep v) (2032 / size_of (element_width i))) (at_of i v) (is_input i.op) (element_width i) (setting v i.len))

pub inputs_move : (i : Insn) (v : Vcpu) (b : Block) (n at : ℕ) → BlockSays i v b → b.input ≡ true → n ≡ b.count → at ≡ at_of i v → Movable true (element_width i) (setting v i.len) n at
inputs_move i v b n at says input count here =
    rw (count, here) (subst (λ (input : Bool). Movable input (element_width i) (setting v i.len) b.count (at_of i v)) (ap (λ (b : Block). b.input) says.block ∙ input) (block_moves i v b says))

-- its elements fit the shared buffer
fits_width : (w : Width) (n c : ℕ) → n ≤ min c (2032 / size_of (port_width w)) → n * size_of (port_width w) ≤ 2032
fits_width B8 n c h = omega arith
fits_width B16 n c h = omega arith
fits_width B32 n c h = omega arith
fits_width B64 n c h = omega arith

pub block_fits : (i : Insn) (v : Vcpu) (b : Block) → BlockSays i v b → b.count * b.size ≤ 2032
block_fits i v b says =
    let s : Setting = setting v i.len in
    let most = min (left_of i.rep v) (2032 / size_of (element_width i)) in
    subst (λ (b : Block). b.count * b.size ≤ 2032) says.block
    (fits_width i.width (length (elements i s (at_of i v) (left_of i.rep v))) (left_of i.rep v) (movable_few most (at_of i v) (is_input i.op) (element_width i) s))

unit_lawful : (w : Width) → IsSize (size_of (port_width w))
unit_lawful B8 = inl refl
unit_lawful B16 = inr (inl refl)
unit_lawful B32 = inr (inr refl)
unit_lawful B64 = inr (inr refl)

pub block_size : (i : Insn) (v : Vcpu) (b : Block) → BlockSays i v b → IsSize b.size
block_size i v b says = subst (λ (b : Block). IsSize b.size) says.block (unit_lawful i.width)

pub size_is : (i : Insn) (v : Vcpu) (b : Block) → BlockSays i v b → b.size ≡ size_of (element_width i)
size_is i v b says = sym (ap (λ (b : Block). b.size) says.block)

-- numbers among bytes
index_drop : (from at : ℕ) (bytes : List ℕ) → slice_index (drop from bytes) at ≡ slice_index bytes (from + at)
index_drop from at bytes = grind (arith, common_steps)

pub number_drop : (n at from : ℕ) (bytes : List ℕ) → number_at n at (drop from bytes) ≡ number_at n (from + at) bytes
number_drop zero at from bytes = refl
number_drop (suc n) at from bytes =
    let e : from + (at + 1) ≡ from + at + 1 = omega arith in
    rw (index_drop from at bytes, number_drop n (at + 1) from bytes, e) refl

-- the value of the next element
pub value_at : (size from : ℕ) (bytes : List ℕ) → number_at size 0 (drop from bytes) ≡ number_at size from bytes
value_at size from bytes = number_drop size 0 from bytes ∙ ap (λ k. number_at size k bytes) (add-zero from)

drop_twice : (a b : ℕ) (bytes : List ℕ) → drop b (drop a bytes) ≡ drop (a + b) bytes
drop_twice a b bytes = grind (arith, common_steps)

-- one number more
pub numbers_more : (k m size from next x : ℕ) (bytes : List ℕ) → k ≡ suc m → number_at size 0 (drop from bytes) ≡ x → next ≡ from + size →
    numbers_in size k (drop from bytes) ≡ x ∷ numbers_in size m (drop next bytes)
numbers_more k m size from next x bytes e value along = rw (e, along, ← drop_twice from size bytes, value) refl

-- k elements, and one more, among all
pub inside : (k count size : ℕ) → k < count → k * size + size ≤ count * size
inside k count size h = grind arith

-- each byte is one
abbrev pub IsByte : ℕ → Type 0
IsByte byte = byte < 2 ^ 8

pub bytes_fit : (n value : ℕ) → All IsByte (bytes_of n value)
bytes_fit zero value = λ k d h. absurd (omega arith)
bytes_fit (suc n) value = All-cons IsByte (value % 2 ^ 8) (bytes_of n (value / 2 ^ 8)) (omega arith) (bytes_fit n (value / 2 ^ 8))

pub all_bytes : (size : ℕ) (values : List Value) → All (λ byte. byte < 2 ^ 8) (bytes_in size values)
all_bytes size [] = λ k d h. absurd (omega arith)
all_bytes size (value ∷ values) = All-append IsByte (bytes_of size (as_number value)) (bytes_in size values) (bytes_fit size (as_number value)) (all_bytes size values)

-- without REP one element is left
pub lone : (rep : Bool) (v : Vcpu) (n : ℕ) → read v (counter rep) ≡ Number n → rep ≡ false → n ≡ 1
lone true v n h bare = absurd (cc)
lone false v n h bare = cc

pub room_kept : (n most size : ℕ) → n ≤ most → most * size ≤ 2032 → n * size ≤ 2032
room_kept n most size few room = grind arith
