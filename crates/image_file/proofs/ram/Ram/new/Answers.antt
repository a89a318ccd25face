use Rattle.std.proofs.Common.{take, rules, sym, subst, All}
use Rattle.std.proofs.lemmas.List.Elements.{All-replicate}
use Rattle.image_file.specs.Kept.{IsKeptInsn, no_insn}
use Rattle.image_file.proofs.ram.Ram.new.Goals as goal

pub invariant_of-result : goal.invariant_of-result
invariant_of-result c =
    let code = take c.args.code c.args.bytes.items in
    let none = All-replicate (IsKeptInsn code) 64 no_insn tt in
    (search rules, subst (λ slots. All (IsKeptInsn code) slots) (sym c.in_ok-new.ensures.none) none)
