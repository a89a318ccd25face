use Rattle.std.proofs.Common.{◌≡◌, ◌<◌, ◌++◌, ℕ, [], ◌∷◌, None, Some, Err, ◌+◌, sym, ap, ◌∙◌, rules, arith}
use Rattle.std.specs.Prelude.{map}
use Rattle.script_file.proofs.Lines.{all_read, bad_line, one_word}
use Rattle.script_file.specs.declared.script.ScriptError.TheVariants.{Line}
use Rattle.script_file.proofs.script.read_script.Goals as goal

pub lines-init : goal.lines-init
lines-init c = ap (λ words. map Some words) c.new-words.ensures.items

pub returns-in_err-word-clause-refused : goal.returns-in_err-word-clause-refused
returns-in_err-word-clause-refused c =
    let less : c.lines.line < c.div_ceil-count.result = search rules in
    let none : c.line_word.result ≡ None = search rules in
    let script = bad_line c.div_ceil-count.result c.lines.line c.args.bytes.now c.lines.words.items c.div_ceil-count.ensures less (sym c.line_word.ensures.word ∙ none) c.lines.invariant in
    let refused : c.from_residual.result ≡ Err (Line (c.lines.line + 1)) = search rules in
    rw refused script

pub lines-preserved : goal.lines-preserved
lines-preserved c =
    let word : ℕ = c.in_ok-word.word in
    let some : c.line_word.result ≡ Some word = search rules in
    let pushed : c.push.new.self.items ≡ c.lines.words.items ++ word ∷ [] = search rules in
    one_word c.lines.line word c.args.bytes.now c.lines.words.items c.push.new.self.items (sym c.line_word.ensures.word ∙ some) pushed c.lines.invariant

pub returns-clause-words : goal.returns-clause-words
returns-clause-words c =
    let all : c.lines.line ≡ c.div_ceil-count.result = omega (arith, c.lines-test.false, c.lines.auto.line-end) in
    all_read c.lines.line c.args.bytes.now c.lines.words.items (all ∙ c.div_ceil-count.ensures) c.lines.invariant
