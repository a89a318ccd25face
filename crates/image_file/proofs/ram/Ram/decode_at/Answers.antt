use Rattle.std.proofs.Common.{◌%◌, take, arith, sym, subst, All}
use Rattle.std.proofs.lemmas.Grind.{common_steps}
use Rattle.std.proofs.lemmas.List.Elements.{All-set}
use Rattle.image_file.specs.Kept.{IsKeptInsn, StandsAt, kept_insn}
use Rattle.image_file.proofs.ram.Ram.decode_at.Goals as goal

pub invariant_of-self : goal.invariant_of-self
invariant_of-self c =
    let code = take c.self.inside.code c.self.inside.bytes.items in
    let insn = c.decode_into.new.into in
    let stands : StandsAt code c.args.rip insn = grind (arith, common_steps) in
    let all = All-set (IsKeptInsn code) c.self.inside.slots (c.args.rip % 64) (kept_insn c.args.rip insn) stands c.self.invariant.1 in
    (c.self.invariant.0, subst (λ slots. All (IsKeptInsn code) slots) (sym c.keep.ensures.kept) all)
