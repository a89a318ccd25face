-- A block's accesses are those of its elements, one by one.
use Rattle.std.proofs.Common.{◌≡◌, ℕ, zero, suc, ◌/◌, ◌%◌, ◌^◌, min, List, [], ◌∷◌, ◌++◌, length, drop, refl, ap, sym, ◌∙◌, subst, arith, Bool, true, false, Some}
use Rattle.std.specs.Prelude.{map, if◌then◌else◌}
use Rattle.x86_base.specs.declared.insn.Insn.{Insn}
use Rattle.x86_base.specs.declared.reg.Reg.TheVariants.{Rdx}
use Rattle.x86_base.specs.declared.reg.Width.{Width}
use Rattle.x86_base.specs.declared.reg.Width.TheVariants.{B8, B16, B32, B64}
use Rattle.x86_base.specs.Registers.{whole}
use Rattle.x86_base.specs.Widths.{low, size_of}
use Rattle.image_file.specs.Number.{number_at}
use Rattle.event_table.specs.declared.access.Access.{Access}
use Rattle.event_table.specs.declared.block.Block.{Block}
use Rattle.event_table.specs.declared.event.Event.TheVariants.{Many}
use Rattle.event_table.specs.declared.places.Place.{Place}
use Rattle.event_table.specs.declared.places.Place.TheVariants.{Bytes}
use Rattle.event_table.specs.Elements.{access_with, accesses_of, next_address, bytes_in, bytes_of, can_move, elements, is_input, movable, numbers_in, port_width, element_width}
use Rattle.event_table.specs.Places.{Vcpu, read}
use Rattle.event_table.specs.Plan.{Setting, setting}
use Rattle.string_io.specs.Blocks.{AsksOneByOne, next_block}
use Rattle.string_io.proofs.Along.{after_along, along, at_of, left_of, can_rest, CanPlace, element_asked, element_placed, same_moved}
use Rattle.string_io.proofs.Whole.{BlockSays, block_says, can_elements}

-- so many elements from an address on, and their numbers
abbrev places : Width → Setting → ℕ → ℕ → List Place
places w s zero at = []
places w s (suc n) at = Bytes at w ∷ places w s n (next_address s.df (size_of w) at)

abbrev pub numbers : Width → Setting → List ℕ → ℕ → ℕ → List ℕ
numbers w s bytes zero at = []
numbers w s bytes (suc n) at = number_at (size_of w) at bytes ∷ numbers w s bytes n (next_address s.df (size_of w) at)

-- the accesses of numbers
abbrev pub with_numbers : Bool → ℕ → Width → List ℕ → List Access
with_numbers input port w values = map (λ value. access_with input port (size_of w) (low w value)) values

-- the bytes in RAM are looked at for output alone
any_numbers : (port : ℕ) (w : Width) (s : Setting) (n at : ℕ) (one two : List ℕ) → with_numbers true port w (numbers w s one n at) ≡ with_numbers true port w (numbers w s two n at)
any_numbers port w s zero at one two = refl
any_numbers port w s (suc n) at one two = rw (any_numbers port w s n (next_address s.df (size_of w) at) one two) refl

pub same_numbers : (input : Bool) (port1 port2 : ℕ) (w : Width) (s : Setting) (n at1 at2 : ℕ) (one two : List ℕ) → port1 ≡ port2 → at1 ≡ at2 → (input ≡ false → one ≡ two) →
    with_numbers input port1 w (numbers w s one n at1) ≡ with_numbers input port2 w (numbers w s two n at2)
same_numbers true port1 port2 w s n at1 at2 one two port at bytes = rw (port, at) (any_numbers port2 w s n at2 one two)
same_numbers false port1 port2 w s n at1 at2 one two port at bytes = let e : one ≡ two = bytes refl in rw (port, at, e) refl

-- elements that can be placed are asked for one by one
asks_along : (i : Insn) (s : Setting) (n : ℕ) (v : Vcpu) (values : List ℕ) → CanPlace i s n v → length values ≡ n →
    AsksOneByOne i (with_numbers (is_input i.op) (whole Rdx v.regs % 2 ^ 16) (element_width i) (numbers (element_width i) s v.ram.bytes n (at_of i v))) values v
asks_along i s zero v values h e = tt
asks_along i s (suc n) v [] h e = absurd (omega arith)
asks_along i s (suc n) v (x ∷ xs) h e =
    let u : Vcpu = along i s x v in
    let a = after_along i s x v h.full in
    let rest = asks_along i s n u xs (can_rest i s n x v h) (omega arith) in
    let same = same_numbers (is_input i.op) (whole Rdx u.regs % 2 ^ 16) (whole Rdx v.regs % 2 ^ 16) (element_width i) s n (at_of i u) (next_address s.df (size_of (element_width i)) (at_of i v)) u.ram.bytes v.ram.bytes
    (ap (λ d. d % 2 ^ 16) a.same_port) a.pointer_is a.same_bytes in (
      element_asked i s n v h,
      λ w moved.
          subst (λ w. AsksOneByOne i (with_numbers (is_input i.op) (whole Rdx v.regs % 2 ^ 16) (element_width i) (numbers (element_width i) s v.ram.bytes n (next_address s.df (size_of (element_width i)) (at_of i v)))) xs w)
          (sym (same_moved w u (moved ∙ element_placed i s n x v h)))
          (subst (λ accesses. AsksOneByOne i accesses xs u) same rest),
    )

-- the elements that can be moved stand one next_address the other
places_cond : (t input : Bool) (w : Width) (s : Setting) (k at : ℕ) → movable input w s k (next_address s.df (size_of w) at) ≡ places w s (length (movable input w s k (next_address s.df (size_of w) at))) (next_address s.df (size_of w) at)
    → (if t then Bytes at w ∷ movable input w s k (next_address s.df (size_of w) at) else []) ≡ places w s (length (if t then Bytes at w ∷ movable input w s k (next_address s.df (size_of w) at) else [])) at
places_cond true input w s k at e = ap (λ (ps : List Place). Bytes at w ∷ ps) e
places_cond false input w s k at e = refl

movable_places : (input : Bool) (w : Width) (s : Setting) (k at : ℕ) → movable input w s k at ≡ places w s (length (movable input w s k at)) at
movable_places input w s zero at = refl
movable_places input w s (suc k) at = places_cond (can_move input s (Bytes at w)) input w s k at (movable_places input w s k (next_address s.df (size_of w) at))

-- numbers that are written as bytes are read again, cut to their width
pub number_back : (w : Width) (x : ℕ) (rest : List ℕ) → number_at (size_of (port_width w)) 0 (bytes_of (size_of (port_width w)) x ++ rest) ≡ low (port_width w) x
number_back B8 x rest = omega arith
number_back B16 x rest = omega arith
number_back B32 x rest = omega arith
number_back B64 x rest = omega arith

pub drop_back : (w : Width) (x : ℕ) (rest : List ℕ) → drop (size_of (port_width w)) (bytes_of (size_of (port_width w)) x ++ rest) ≡ rest
drop_back B8 x rest = refl
drop_back B16 x rest = refl
drop_back B32 x rest = refl
drop_back B64 x rest = refl

numbers_back : (w : Width) (s : Setting) (v : Vcpu) (n at : ℕ) →
    numbers_in (size_of (port_width w)) n (bytes_in (size_of (port_width w)) (map (read v) (places (port_width w) s n at))) ≡ map (λ value. low (port_width w) value) (numbers (port_width w) s v.ram.bytes n at)
numbers_back w s v zero at = refl
numbers_back w s v (suc n) at =
    let size = size_of (port_width w) in
    let x = number_at size at v.ram.bytes in
    let next = next_address s.df size at in
    let rest = bytes_in size (map (read v) (places (port_width w) s n next)) in
    rw (number_back w x rest, drop_back w x rest, numbers_back w s v n next) refl

-- the accesses of an input, and of an output, from their bytes
inputs_back : (port : ℕ) (w : Width) (s : Setting) (n at : ℕ) (bytes ram : List ℕ) →
    map (λ value. access_with true port (size_of w) value) (numbers_in (size_of w) n bytes) ≡ with_numbers true port w (numbers w s ram n at)
inputs_back port w s zero at bytes ram = refl
inputs_back port w s (suc n) at bytes ram = rw (inputs_back port w s n (next_address s.df (size_of w) at) (drop (size_of w) bytes) ram) refl

outputs_map : (port : ℕ) (w : Width) (values : List ℕ) → map (λ value. access_with false port (size_of w) value) (map (λ value. low w value) values) ≡ with_numbers false port w values
outputs_map port w [] = refl
outputs_map port w (value ∷ values) = rw (outputs_map port w values) refl

pub accesses_back : (input : Bool) (port : ℕ) (w : Width) (s : Setting) (v : Vcpu) (k at : ℕ) →
    map (λ value. access_with input port (size_of (port_width w)) value)
    (numbers_in (size_of (port_width w)) (length (movable input (port_width w) s k at)) (bytes_in (size_of (port_width w)) (map (read v) (if input then [] else movable input (port_width w) s k at))))
    ≡ with_numbers input port (port_width w) (numbers (port_width w) s v.ram.bytes (length (movable input (port_width w) s k at)) at)
accesses_back true port w s v k at = inputs_back port (port_width w) s (length (movable true (port_width w) s k at)) at [] v.ram.bytes
accesses_back false port w s v k at =
    let n = length (movable false (port_width w) s k at) in
    ap (λ (ps : List Place). map (λ value. access_with false port (size_of (port_width w)) value) (numbers_in (size_of (port_width w)) n (bytes_in (size_of (port_width w)) (map (read v) ps)))) (movable_places false (port_width w) s k at)
    ∙ ap (λ (values : List ℕ). map (λ value. access_with false port (size_of (port_width w)) value) values) (numbers_back w s v n at)
    ∙ outputs_map port (port_width w) (numbers (port_width w) s v.ram.bytes n at)

pub block_asks : (i : Insn) (v : Vcpu) (b : Block) (values : List ℕ) → length v.regs.gpr ≡ 16 → length values ≡ b.count → next_block i v ≡ Some (Many b) → AsksOneByOne i (accesses_of (Many b)) values v
block_asks i v b values full many h =
    let s : Setting = setting v i.len in
    let says : BlockSays i v b = block_says i v b h in
    let n = length (elements i s (at_of i v) (left_of i.rep v)) in
    let count : n ≡ b.count = ap (λ (b : Block). b.count) says.block in
    let asks = asks_along i s n v values (can_elements i v says.string full) (many ∙ sym count) in
    let same = accesses_back (is_input i.op) (whole Rdx v.regs % 2 ^ 16) i.width s v (min (left_of i.rep v) (2032 / size_of (element_width i))) (at_of i v) in
    subst (λ (b : Block). AsksOneByOne i (accesses_of (Many b)) values v) says.block (subst (λ accesses. AsksOneByOne i accesses values v) (sym same) asks)
