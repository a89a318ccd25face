-- A vCPU keeps its sixteen registers, and a block has an element at least.
use Rattle.std.proofs.Common.{◌≡◌, ℕ, suc, ◌-◌, ◌/◌, ◌≤◌, ◌==◌, min, Bool, false, List, [], ◌∷◌, drop, length, map, Option, None, Some, refl, sym, ◌∙◌, arith, subst, length-set}
use Rattle.std.specs.Prelude.{get_or}
use Rattle.std.proofs.lemmas.Bool.Decides.{nat_tests}
use Rattle.x86_base.specs.declared.reg.Width.{Width}
use Rattle.x86_base.specs.declared.reg.Width.TheVariants.{B8, B16, B32, B64}
use Rattle.x86_base.specs.Registers.{whole, merged, merged_high, number_of}
use Rattle.x86_base.specs.Widths.{size_of}
use Rattle.image_file.specs.Image.{Contents}
use Rattle.event_table.specs.declared.block.Block.{Block}
use Rattle.event_table.specs.declared.event.Event.{Event}
use Rattle.event_table.specs.declared.event.Event.TheVariants.{One, Many}
use Rattle.event_table.specs.declared.outcome.Reply.{Reply}
use Rattle.event_table.specs.declared.places.Place.{Place}
use Rattle.event_table.specs.declared.places.Place.TheVariants as place
use Rattle.event_table.specs.Elements.{element_width, elements, is_input, next_address, port_width}
use Rattle.event_table.specs.Lawful.{count_of}
use Rattle.event_table.specs.Places.{Vcpu, Value, Number, as_number, read, write, write_all}
use Rattle.event_table.specs.Plan.{Plan, Ends, Next, Then, Looks, Asks, Change, Setting, Stepped, Moved, Exits, Stops, apply, directed, reply_with, setting, step_answered, stepped}
use Rattle.event_table.specs.Raising.{raise_of}
use Rattle.guest_interp.specs.Stepping.{exit_by, insn_at, plan_by, results_of, step_of}
use Rattle.guest_interp.proofs.Placing.{asked_block}
use Rattle.device_bus.specs.declared.answer.Answer.{Answer}
use Rattle.device_bus.specs.declared.answer.Answer.TheVariants.{Done, Raise}
use Rattle.device_bus.specs.Devices.{Devices, answer}
use Rattle.device_bus.specs.History.{bytes_to}
use Rattle.string_io.specs.Blocks.{bytes_reply}
use Rattle.string_io.proofs.Along.{at_of, left_of}
use Rattle.string_io.proofs.Runs.{movable_more}
use Rattle.string_io.proofs.Whole.{block_says}
use Rattle.plain_machine.specs.Single.{answer_applied, event_applied}
use Rattle.plain_machine.proofs.Asking.{ExitsBy}

abbrev HasRegisters : Vcpu → Type 0
HasRegisters v = length v.regs.gpr ≡ 16

abbrev pub IsFull : Stepped → Type 0
IsFull (Moved v) = length v.regs.gpr ≡ 16
IsFull (Exits event v) = length v.regs.gpr ≡ 16
IsFull (Stops end v) = Unit {0}

full_write : (p : Place) (x : Value) (v : Vcpu) → length (write p x v).regs.gpr ≡ length v.regs.gpr
full_write (place.Fixed value) x v = refl
full_write (place.Low reg width) x v = length-set v.regs.gpr (number_of reg) (merged width (whole reg v.regs) (as_number x))
full_write (place.High reg) x v = length-set v.regs.gpr (number_of reg) (merged_high (whole reg v.regs) (as_number x))
full_write place.Status x v = refl
full_write place.StatusButCarry x v = refl
full_write place.Carry x v = refl
full_write (place.Bytes at width) x v = refl

full_all : (places : List Place) (values : List Value) (v : Vcpu) → length (write_all places values v).regs.gpr ≡ length v.regs.gpr
full_all [] values v = refl
full_all (p ∷ places) values v = full_all places (drop 1 values) (write p (get_or values 0 (Number 0)) v) ∙ full_write p (get_or values 0 (Number 0)) v

full_directed : (df : Option Bool) (v : Vcpu) → length (directed df v).regs.gpr ≡ length v.regs.gpr
full_directed None v = refl
full_directed (Some df) v = refl

full_apply : (c : Change) (v : Vcpu) → length (apply c v).regs.gpr ≡ length v.regs.gpr
full_apply c v =
    full_directed c.df (write_all c.targets (c.values (map (read v) c.reads)) (write_all c.moved c.moves v))
    ∙ full_all c.targets (c.values (map (read v) c.reads)) (write_all c.moved c.moves v)
    ∙ full_all c.moved c.moves v

full_stepped : (v : Vcpu) (plan : Plan) → HasRegisters v → IsFull (stepped v plan)
full_stepped v (Ends end) full = tt
full_stepped v Next full = full
full_stepped v (Then change rest) full = full_stepped (apply change v) rest (full_apply change v ∙ full)
full_stepped v (Looks kind places next) full = full_stepped v (next (map (read v) places)) full
full_stepped v (Asks event done) full = full

full_answered : (reply : Reply) (v : Vcpu) (plan : Plan) → HasRegisters v → IsFull (step_answered reply v plan)
full_answered reply v (Ends end) full = tt
full_answered reply v Next full = tt
full_answered reply v (Then change rest) full = tt
full_answered reply v (Looks kind places next) full = full_answered reply v (next (map (read v) places)) full
full_answered reply v (Asks event done) full = full_stepped v (done reply) full

pub full_step : (v : Vcpu) → length v.regs.gpr ≡ 16 → IsFull (step_of v)
unfolding step_of
full_step v full = full_stepped v (plan_by (insn_at v.ram v.regs.rip) v) full

full_results : (reply : Reply) (v : Vcpu) → HasRegisters v → IsFull (results_of reply v)
unfolding results_of
full_results reply v full = full_answered reply v (exit_by (insn_at v.ram v.regs.rip) v) full

full_answer : (image : Contents) (a : Answer) (v : Vcpu) → HasRegisters v → IsFull (answer_applied image a v)
full_answer image (Done values) v full = full_results (reply_with values) v full
full_answer image (Raise vector code) v full = full_stepped v (raise_of image.header (setting v 0) vector code) full

pub full_applied : (image : Contents) (i : ℕ) (event : Event) (v : Vcpu) (d : Devices) → length v.regs.gpr ≡ 16 → IsFull (event_applied image i event v d)
full_applied image i (One access) v d full = full_answer image (answer d i access) v full
full_applied image i (Many block) v d full = full_results (bytes_reply (bytes_to d i block)) v full

-- a block has an element
most_some : (w : Width) (left : ℕ) → (left == 0) ≡ false → 1 ≤ min left (2032 / size_of (port_width w))
most_some B8 left some = grind (arith, nat_tests)
most_some B16 left some = grind (arith, nat_tests)
most_some B32 left some = grind (arith, nat_tests)
most_some B64 left some = grind (arith, nat_tests)

pub some_access : (v : Vcpu) (event : Event) → ExitsBy v event → 1 ≤ count_of event
some_access v (One access) by = omega arith
some_access v (Many b) by =
    let i = by.insn in
    let s : Setting = setting v i.len in
    let says = block_says i v b (asked_block i v b by.asks) in
    let most = min (left_of i.rep v) (2032 / size_of (element_width i)) in
    let least : 1 ≤ most = most_some i.width (left_of i.rep v) says.left in
    let one : most ≡ suc (most - 1) = omega arith in
    let more = movable_more most (most - 1) (at_of i v) (next_address s.df (size_of (element_width i)) (at_of i v)) (is_input i.op) (element_width i) s one says.can refl in
    let count : 1 ≤ length (elements i s (at_of i v) (left_of i.rep v)) = subst (λ (ps : List Place). 1 ≤ length ps) (sym more) (omega arith) in
    subst (λ (b : Block). 1 ≤ b.count) says.block count
