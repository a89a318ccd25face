use Rattle.std.proofs.lemmas.Grind.{common_steps}
use Rattle.std.proofs.lemmas.List.Elements.{All-append}
use Rattle.std.proofs.Common.{◌≡◌, ◌∙◌, ◌⊎◌, ℕ, suc, ◌+◌, ◌-◌, ◌^◌, ◌<◌, ◌≤◌, List, ◌++◌, length, take, ap, sym, arith, rules, subst, append_assoc, length-append, refl}
use Rattle.std.specs.Prelude.{All}
use Rattle.event_table.specs.Buffer.{bytes_from}
use Rattle.event_table.specs.Elements.{bytes_of}
use Rattle.string_io.proofs.Runs.{length-bytes_of}
use Rattle.string_io.proofs.Whole.{bytes_fit}
use Rattle.host_events.specs.Reading.{word_in, words_on}
use Rattle.host_events.proofs.Blocks.{min_cases, words_more}
use Rattle.host_events.proofs.buffer.buffer_bytes.Goals as goal

pub loop-number-preserved : goal.loop-number-preserved
loop-number-preserved c =
    let word = λ (n : ℕ). word_in c.args.page.now n in
    let number = c.loop-number.number in
    let left = c.loop-number.left in
    let here = c.min-here.result in
    let bytes = c.loop-number.bytes in
    let is : c.word.result ≡ word_in c.args.page.now number = search rules in
    let appended : c.push_number.new.bytes ≡ bytes ++ bytes_of here (word number) =
    c.push_number.ensures.appended ∙ ap (λ x. bytes ++ bytes_of here x) is in
    let cases : (here ≡ left) ⊎ (here ≡ 8) = min_cases here left c.min-here.ensures in
    let few : here ≤ left = grind (arith, common_steps, c.min-here.ensures) in
    let most : here ≤ 8 = grind (arith, common_steps, c.min-here.ensures) in
    let long : length (bytes_of here (word number)) ≡ here = length-bytes_of here (word number) in
    let size : length c.push_number.new.bytes ≡ length bytes + here =
    ap length appended ∙ length-append bytes (bytes_of here (word number)) ∙ ap (λ n. length bytes + n) long in
    let m = 510 - (number + 1) in
    let e : 510 - number ≡ suc m = omega (arith, c.loop-number-test.true) in
    let rest = take (left - here) (bytes_from (words_on word m (number + 1))) in
    let more = words_more word (510 - number) m number (number + 1) here left e refl few most cases in
    record {
      count = omega (arith, size, few, c.loop-number.invariant.count);
      room = grind (arith, cases, e, c.loop-number.invariant.room);
      fits = subst (λ (bs : List ℕ). All (λ byte. byte < 2 ^ 8) bs) (sym appended)
          (All-append (λ byte. byte < 2 ^ 8) bytes (bytes_of here (word number)) c.loop-number.invariant.fits (bytes_fit here (word number)));
      rest =
          ap (λ (bs : List ℕ). bs ++ rest) appended ∙ append_assoc bytes (bytes_of here (word number)) rest
          ∙ ap (λ (bs : List ℕ). bytes ++ bs) (sym more) ∙ c.loop-number.invariant.rest;
    }
