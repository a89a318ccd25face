use Rattle.std.proofs.Common.{◌∙◌, ap, ℕ, ◌++◌, List, arith}
use Rattle.show_text.specs.Page.{valid_line}
use Rattle.show_text.proofs.Lines.{one_more}
use Rattle.show_text.proofs.page.page_text.Goals as goal

pub loop-number-preserved : goal.loop-number-preserved
loop-number-preserved c =
    let k : ℕ = c.loop-number.number in
    let line : ℕ → List ℕ = valid_line c.args.page.now in
    record {
      lines = c.push_valid.ensures.text ∙ ap (λ (xs : List ℕ). xs ++ line k) c.loop-number.invariant.lines ∙ one_more line k;
      size = omega arith;
    }
