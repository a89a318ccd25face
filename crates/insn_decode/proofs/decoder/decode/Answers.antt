use Rattle.std.proofs.Common.{◌≡◌, subst, sym, Result, Err, ◌∙◌}
use Rattle.std.specs.Prelude.{IfOk, ◌↔◌}
use Rattle.x86_base.specs.declared.insn.Insn.{Insn}
use Rattle.insn_decode.specs.declared.fault.DecodeFault.{DecodeFault}
use Rattle.insn_decode.specs.declared.fault.DecodeFault.TheVariants.{TooLong, Short, Undecoded}
use Rattle.x86_base.specs.Spelling.{Begins}
use Rattle.insn_decode.specs.Refusals.{IsTooLong, IsShort, SpellsNothing}
use Rattle.insn_decode.proofs.Window.{slice_bytes, found, only, too_long, short, undecoded}
use Rattle.insn_decode.proofs.decoder.decode.Goals as goal

pub returns-clause-found : goal.returns-clause-found
returns-clause-found c = subst (λ (r : Result Insn DecodeFault). IfOk r (Begins c.args.bytes.now)) (sym c.decode_whole.ensures) (found c.args.bytes.now (slice_bytes c.args.bytes.now c.type_inv.bytes))

pub returns-clause-only : goal.returns-clause-only
returns-clause-only c = λ insn b. c.decode_whole.ensures ∙ only c.args.bytes.now insn b

pub returns-clause-too_long : goal.returns-clause-too_long
returns-clause-too_long c = subst (λ (r : Result Insn DecodeFault). (r ≡ Err TooLong) ↔ IsTooLong c.args.bytes.now) (sym c.decode_whole.ensures) (too_long c.args.bytes.now (slice_bytes c.args.bytes.now c.type_inv.bytes))

pub returns-clause-short : goal.returns-clause-short
returns-clause-short c = subst (λ (r : Result Insn DecodeFault). (r ≡ Err Short) ↔ IsShort c.args.bytes.now) (sym c.decode_whole.ensures) (short c.args.bytes.now (slice_bytes c.args.bytes.now c.type_inv.bytes))

pub returns-clause-undecoded : goal.returns-clause-undecoded
returns-clause-undecoded c = subst (λ (r : Result Insn DecodeFault). (r ≡ Err Undecoded) ↔ SpellsNothing c.args.bytes.now) (sym c.decode_whole.ensures) (undecoded c.args.bytes.now (slice_bytes c.args.bytes.now c.type_inv.bytes))
