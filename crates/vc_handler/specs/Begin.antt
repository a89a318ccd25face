-- For which event a guest's #VC was raised (AMD 56421, section 2.6).
use Rattle.std.specs.Prelude.{ℕ, ◌==◌, if◌then◌else◌, Option, None, Some, Result, Ok, Err}
use Rattle.x86_base.specs.declared.insn.Insn.{Insn}
use Rattle.insn_decode.specs.declared.fault.DecodeFault.{DecodeFault}
use Rattle.insn_decode.specs.Reading.{decode_of}
use Rattle.image_file.specs.Ram.{code_from}
use Rattle.event_table.specs.declared.event.Event.{Event}
use Rattle.event_table.specs.Events.{asked_by, vc_code}
use Rattle.event_table.specs.Places.{Vcpu}
use Rattle.vc_handler.specs.declared.handler.Unsupported.{Unsupported}

abbrev pub unsupported : ℕ → Result Event Unsupported
unsupported code = Err (record { 0 = code })

-- the event, where it is of this code
abbrev pub of_code : ℕ → Option Event → Result Event Unsupported
of_code code None = unsupported code
of_code code (Some event) = if vc_code event == code then Ok event else unsupported code

-- what the instruction asks, where there is one
abbrev pub begun_by : ℕ → Vcpu → Result Insn DecodeFault → Result Event Unsupported
begun_by code v (Ok insn) = of_code code (asked_by insn v)
begun_by code v (Err fault) = unsupported code

-- The event of the instruction at RIP, which is decoded again; none where the bytes there are no instruction that
-- exits with this code of #VC.
abbrev pub begun : ℕ → Vcpu → Result Event Unsupported
begun code v = begun_by code v (decode_of (code_from v.ram v.regs.rip))
