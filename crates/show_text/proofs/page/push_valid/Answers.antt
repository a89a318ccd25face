use Rattle.std.proofs.Common.{◌≡◌, ◌∙◌, ap, sym, ℕ, ◌++◌, List, Bool, true, false}
use Rattle.std.specs.Prelude.{slice_index}
use Rattle.ghcb_layout.specs.Bitmap.{has_bit}
use Rattle.ghcb_layout.specs.declared.bitmap.Bitmap.{Bitmap}
use Rattle.show_text.specs.Page.{valid_line, word_line, bitmap_in, word_in}
use Rattle.show_text.proofs.Lines.{shown, hidden}
use Rattle.show_text.proofs.page.push_valid.Goals as goal

pub returns-then-has-clause-text : goal.returns-then-has-clause-text
unfolding valid_line
returns-then-has-clause-text c =
    let k : ℕ = c.args.number in
    let test : Bool = has_bit (bitmap_in c.args.page.now) k in
    let set : test ≡ true = ap (λ (b : Bitmap). has_bit b k) (sym c.requires.bitmap) ∙ sym c.has.ensures.value ∙ c.if-has.true in
    let word : c.word_of.result ≡ word_in c.args.page.now k = c.word_of.ensures ∙ ap (λ (j : ℕ). slice_index c.args.page.now.words j) c.into.ensures in
    let line : List ℕ = word_line k (word_in c.args.page.now k) in
    shown test c.args.text.now c.push_word.new.text line set (c.push_word.ensures.text ∙ ap (λ (w : ℕ). c.args.text.now ++ word_line k w) word)

pub returns-else-has-clause-text : goal.returns-else-has-clause-text
unfolding valid_line
returns-else-has-clause-text c =
    let k : ℕ = c.args.number in
    let test : Bool = has_bit (bitmap_in c.args.page.now) k in
    let clear : test ≡ false = ap (λ (b : Bitmap). has_bit b k) (sym c.requires.bitmap) ∙ sym c.has.ensures.value ∙ c.if-has.false in
    hidden test c.args.text.now (word_line k (word_in c.args.page.now k)) clear
