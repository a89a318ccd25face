-- The instructions that exit to the host, read off the event table: what the host sees of registers, and where the results go.
use Rattle.std.specs.Prelude.{ℕ, ◌%◌, ◌^◌, Bool, if◌then◌else◌, List, [], ◌∷◌, Option, None, Some}
use Rattle.x86_base.specs.declared.insn.Insn.{Insn}
use Rattle.x86_base.specs.declared.insn.Operand.{Operand}
use Rattle.x86_base.specs.declared.insn.Operand.TheVariants.{Imm}
use Rattle.x86_base.specs.declared.op.Op.{Op}
use Rattle.x86_base.specs.declared.op.Op.TheVariants as op
use Rattle.x86_base.specs.declared.reg.Reg.{Reg}
use Rattle.x86_base.specs.declared.reg.Reg.TheVariants.{Rax, Rcx, Rdx, Rbx}
use Rattle.x86_base.specs.declared.reg.Width.{Width}
use Rattle.x86_base.specs.declared.reg.Width.TheVariants.{B16, B64}
use Rattle.x86_base.specs.Widths.{size_of}
use Rattle.event_table.specs.declared.access.Values.{Values}
use Rattle.event_table.specs.declared.access.Access.TheVariants as access
use Rattle.event_table.specs.declared.event.Event.{Event}
use Rattle.event_table.specs.declared.event.Event.TheVariants.{One}
use Rattle.event_table.specs.declared.outcome.Reply.{Reply}
use Rattle.event_table.specs.declared.end.End.TheVariants.{Undecoded}
use Rattle.event_table.specs.declared.places.Place.{Place}
use Rattle.event_table.specs.declared.places.Place.TheVariants.{Fixed, Low}
use Rattle.event_table.specs.declared.row.Kind.{Kind}
use Rattle.event_table.specs.declared.row.Kind.TheVariants as kind
use Rattle.event_table.specs.declared.row.Row.{Row}
use Rattle.event_table.specs.Elements.{is_string, port_width, string_of}
use Rattle.event_table.specs.Moves.{is_move, move_of}
use Rattle.event_table.specs.Places.{Vcpu, Number, number}
use Rattle.event_table.specs.Plan.{Plan, Ends, Looks, Move, Named, Asks, Setting, Stepped, apart, event_asked, goes, onward, reply_with, step_answered, setting, with_moves}
use Rattle.event_table.specs.Rows.{event_by, event_row, kind_of_event, registers}

-- the port that an operand names: a number of the instruction, or DX
abbrev pub port_of : Operand → Place
port_of (Imm port) = Fixed (port % 2 ^ 16)
port_of _ = Low Rdx B16

abbrev pub port_at : Op → Insn → Place
port_at op.Out i = port_of i.dst
port_at op.In i = port_of i.src
port_at _ i = Fixed 0

-- the event of an operation, with the port where it has one; the others exit for nothing, or are string I/O
abbrev pub kind_at : Op → Width → ℕ → Option Kind
kind_at op.Out width port = Some (kind.Out port (size_of (port_width width)))
kind_at op.In width port = Some (kind.In port (size_of (port_width width)))
kind_at op.Cpuid width port = Some kind.Cpuid
kind_at op.Rdmsr width port = Some kind.Rdmsr
kind_at op.Wrmsr width port = Some kind.Wrmsr
kind_at op.Rdtsc width port = Some kind.Rdtsc
kind_at op.Rdtscp width port = Some kind.Rdtscp
kind_at op.Rdpmc width port = Some kind.Rdpmc
kind_at op.Wbinvd width port = Some kind.Wbinvd
kind_at op.Vmmcall width port = Some kind.Vmmcall
kind_at _ width port = None

-- a register at a width, where a row has it
abbrev pub place_if : Bool → Reg → Width → Place
place_if is reg width = if is then Low reg width else Fixed 0

-- the registers that a row shows, of which the access takes what its size says
abbrev pub shown_places : Row → List Place
shown_places r = place_if r.shows.a Rax B64 ∷ place_if r.shows.c Rcx B64 ∷ place_if r.shows.d Rdx B64 ∷ []

-- the results in their registers, at the row's width
abbrev pub results_to : Row → Values → List Move
results_to r values =
    (place_if r.results.a Rax r.width, Number values.a) ∷ (place_if r.results.c Rcx r.width, Number values.c)
    ∷ (place_if r.results.d Rdx r.width, Number values.d) ∷ (place_if r.results.b Rbx r.width, Number values.b) ∷ []

-- What an event shows of registers, what it asks, and where the results go.
abbrev pub event_of : Kind → Setting → Plan
event_of k s =
    Looks Named (shown_places (event_row k)) (λ seen.
    Asks (event_by k (registers (number seen 0) (number seen 1) (number seen 2)) []) (λ reply.
    goes (with_moves (results_to (event_row k) reply.values) (onward s))))

abbrev pub event_or : Plan → Option Kind → Setting → Plan
event_or private (Some k) s = event_of k s
event_or private None s = private

-- an instruction whose event has its data in registers
abbrev pub registers_plan : Insn → Setting → Plan → Plan
registers_plan i s private = Looks Named (port_at i.op i ∷ []) (λ seen. event_or private (kind_at i.op i.width (number seen 0)) s)

-- an instruction's plan, where `private` is that of one that exits for nothing
abbrev pub event_plan : Insn → Setting → Plan → Plan
event_plan i s private =
    if is_string i.op then string_of i s
    else if is_move i.op then move_of i s private
    else registers_plan i s private

-- the plan of an instruction that exits; one that doesn't is no event
abbrev pub exit_of : Insn → Setting → Plan
exit_of i s = event_plan i s (Ends Undecoded)

-- the event that an instruction asks at a vCPU, and how it goes on with the reply
abbrev pub asked_by : Insn → Vcpu → Option Event
asked_by i v = event_asked v (exit_of i (setting v i.len))

abbrev pub placed_by : Reply → Insn → Vcpu → Stepped
placed_by reply i v = step_answered reply v (exit_of i (setting v i.len))

-- The same, where each element of string I/O is an access of its own: the access that is asked next, as an event, and
-- how it goes on with the results.
abbrev pub asked_apart : Insn → Vcpu → Option Event
asked_apart i v = event_asked v (exit_of i (apart v i.len))

abbrev pub placed_apart : Values → Insn → Vcpu → Stepped
placed_apart values i v = step_answered (reply_with values) v (exit_of i (apart v i.len))

-- the exit code with which #VC is raised for an event: of MMIO that of a nested page fault (AMD 56421, section 2.6; APM
-- volume 2, appendix C)
abbrev pub vc_code : Event → ℕ
vc_code (One (access.MmioRead at len)) = 0x400
vc_code (One (access.MmioWrite at len value)) = 0x400
vc_code event = (event_row (kind_of_event event)).code
