-- Blocks of string I/O, and that they are their elements.
use Rattle.std.specs.Prelude.{◌≡◌, ℕ, ◌-◌, ◌*◌, ◌==◌, Bool, if◌then◌else◌, is_some, List, [], ◌∷◌, length, map, Option, None, Some}
use Rattle.x86_base.specs.declared.insn.Insn.{Insn}
use Rattle.x86_base.specs.declared.reg.Width.TheVariants.{B64}
use Rattle.x86_base.specs.Widths.{size_of}
use Rattle.image_file.specs.Number.{put_number}
use Rattle.image_file.specs.Ram.{Memory}
use Rattle.event_table.specs.declared.access.Access.{Access}
use Rattle.event_table.specs.declared.access.Values.{Values}
use Rattle.event_table.specs.declared.block.Block.{Block}
use Rattle.event_table.specs.declared.event.Event.{Event}
use Rattle.event_table.specs.declared.event.Event.TheVariants.{One, Many}
use Rattle.event_table.specs.declared.outcome.Reply.{Reply}
use Rattle.event_table.specs.declared.places.Place.{Place}
use Rattle.event_table.specs.declared.places.Place.TheVariants.{Low}
use Rattle.event_table.specs.Elements.{accesses_of, block_of, bytes_in, counter, element_width, is_input, is_string, movable, next_address, numbers_in, pointer, string_places}
use Rattle.event_table.specs.Events.{asked_apart, asked_by, placed_apart, placed_by}
use Rattle.event_table.specs.Places.{Vcpu, Number, as_number, read}
use Rattle.event_table.specs.Plan.{Stepped, Moved, Exits, Stops, apply, event_asked, jumps, setting}

-- the block that a string instruction asks for next
abbrev pub next_block : Insn → Vcpu → Option Event
next_block i v = if is_string i.op then event_asked v (block_of i (setting v i.len)) else None

-- at most so many elements from an address on, before the first that can't be moved, and the bytes of elements
abbrev pub elements_from : Bool → Insn → Vcpu → ℕ → ℕ → List Place
elements_from input i v most at = movable input (element_width i) (setting v i.len) most at

abbrev pub bytes_at : Insn → Vcpu → List Place → List ℕ
bytes_at i v places = bytes_in (size_of (element_width i)) (map (read v) places)

-- RAM once numbers of a size stand there from an address on, upwards or downwards
abbrev pub written : ℕ → Bool → List ℕ → ℕ → Memory → Memory
written size df [] at ram = ram
written size df (value ∷ values) at ram =
    written size df values (next_address df size at) (record ram { bytes = put_number size at value ram.bytes })

-- the elements of an input are written; those of an output leave RAM as it is
abbrev pub ram_with : Bool → ℕ → Bool → List ℕ → ℕ → Memory → Memory
ram_with input size df values at ram = if input then written size df values at ram else ram

-- so many elements are behind: the pointer and the count have moved past them, and RIP goes on where none is left
abbrev pub past : Insn → ℕ → Vcpu → Vcpu
past i n v =
    let s = setting v i.len in
    let at = as_number (read v (Low (pointer (is_input i.op)) B64)) in
    let left = as_number (read v (counter i.rep)) in
    apply (record (jumps (if left == n then s.next else s.rip)) {
      moved = string_places i;
      moves = Number (next_address s.df (n * size_of (element_width i)) at) ∷ Number (left - n) ∷ [];
    }) v

-- one result, and bytes, as what comes back
abbrev pub one_result : ℕ → Values
one_result value = record { a = value; c = 0; d = 0; b = 0 }

abbrev pub bytes_reply : List ℕ → Reply
bytes_reply bytes = record { values = one_result 0; bytes = bytes }

-- a vCPU that moved on goes on so
abbrev pub then_on : Stepped → (Vcpu → Stepped) → Stepped
then_on (Moved v) more = more v
then_on (Exits event v) more = Exits event v
then_on (Stops end v) more = Stops end v

-- elements are placed one by one, each with its value
abbrev pub one_by_one : Insn → List ℕ → Vcpu → Stepped
one_by_one i [] v = Moved v
one_by_one i (value ∷ values) v = then_on (placed_apart (one_result value) i v) (λ w. one_by_one i values w)

-- The instruction asks for these accesses one by one, each once the one before it is placed with its value.
abbrev pub AsksOneByOne : Insn → List Access → List ℕ → Vcpu → Type 0
AsksOneByOne i [] values v = Unit {0}
AsksOneByOne i (access ∷ accesses) [] v = ⊥
AsksOneByOne i (access ∷ accesses) (value ∷ values) v =
    (asked_apart i v ≡ Some (One access))
    × ((w : Vcpu) → Moved w ≡ placed_apart (one_result value) i v → AsksOneByOne i accesses values w)

-- What a block is: it asks for its elements' accesses, and placing its reply places theirs.
pub record IsItsElements (i : Insn) (v : Vcpu) (b : Block) (bytes : List ℕ) : Type 0 where
  pub asks : AsksOneByOne i (accesses_of (Many b)) (numbers_in b.size b.count bytes) v
  pub places : placed_by (bytes_reply bytes) i v ≡ one_by_one i (numbers_in b.size b.count bytes) v

pub record BlocksAreElements : Type 0 where
  -- an event is asked exactly where an access is, whose elements are taken alone
  pub exactly : (i : Insn) (v : Vcpu) → is_some (asked_by i v) ≡ is_some (asked_apart i v)
  -- each block is its elements, whatever comes back
  pub elements : (i : Insn) (v : Vcpu) (b : Block) (bytes : List ℕ) → length v.regs.gpr ≡ 16
      → next_block i v ≡ Some (Many b) → IsItsElements i v b bytes
