use Rattle.std.proofs.Common.{◌≡◌, ◌∙◌, ◌+◌, ◌-◌, ◌*◌, ◌<◌, ◌≤◌, ap, ℕ, List, [], ◌++◌, drop, take, length, get_or, rules, arith}
use Rattle.std.proofs.Math.ListN.{drop_of_length-le}
use Rattle.std.proofs.lemmas.List.{length-take}
use Rattle.byteorder.specs.Endian.{little_bytes}
use Rattle.ghcb_layout.proofs.PageBytes.{written-more}
use Rattle.ghcb_layout.proofs.bytes.page_to_bytes.Goals as goal

pub loop-number-preserved : goal.loop-number-preserved
loop-number-preserved c =
    let number : ℕ = c.loop-number.number in
    let words : List ℕ = c.args.page.now.words in
    let at : ℕ = 8 * c.from-at.result in
    let place : at ≡ 8 * number = omega arith in
    let unwrapped : c.unwrap.result ≡ number = search rules in
    let word : c.word-word.result ≡ get_or words number 0 =
    c.word-word.ensures.value ∙ ap (λ (n : ℕ). get_or words n 0) unwrapped in
    let part : List ℕ = take (at + 8 - at) (drop at c.loop-number.into) in
    let short : length part ≤ 8 = omega (arith, length-take (at + 8 - at) (drop at c.loop-number.into)) in
    let rest : List ℕ = drop 8 part in
    let none : rest ≡ [] = drop_of_length-le part short in
    let piece = c.write_u64.ensures ∙ ap (λ (n : ℕ). little_bytes 8 n ++ rest) word in
    let inside : number < length words = omega (arith, c.word-word.ensures.full) in
    let before = c.loop-number.invariant.written in
    record {
      written = written-more c.loop-number.into words c.write_u64.new.buf rest number at (at + 8 - at) before piece none place inside (omega arith);
      count = λ _. c.word-word.ensures.full;
    }
