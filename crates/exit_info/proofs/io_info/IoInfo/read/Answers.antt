use Rattle.std.proofs.Common.{◌≡◌, ◌∙◌, sym, subst, ℕ, Some, Ok, false, rules, arith}
use Rattle.std.proofs.lemmas.Grind.{common_steps}
use Rattle.exit_info.proofs.Inverse.{info_of-taken, info_of-word_of, word_of-taken}
use Rattle.exit_info.specs.declared.io_info.IoInfo.{IoInfo}
use Rattle.exit_info.specs.IoInfo.{IsInfoWord, info_of, taken, has_reserved, size_in, address_size_in}
use Rattle.exit_info.proofs.io_info.IoInfo.read.Goals as goal

pub returns-clause-value : goal.returns-clause-value
returns-clause-value c = grind (arith, common_steps)

pub returns-clause-ok : goal.returns-clause-ok
returns-clause-ok c = λ i.
    let word : ℕ = c.args.word in
    let clear : has_reserved word ≡ false = search rules in
    let size : size_in word ≡ Some c.in_ok-size.size = search rules in
    let address : address_size_in word ≡ Some c.in_ok-address.address = search rules in
    let value = info_of-taken word _ _ clear size address in
    let lawful = word_of-taken word _ _ (omega arith) clear size address in
    let IsWord : IoInfo → Type 0 = λ info. IsInfoWord info word in
    let Reads : ℕ → Type 0 = λ n. info_of n ≡ Ok i in (
      λ e.
          let same : taken word c.in_ok-size.size c.in_ok-address.address ≡ i =
          cc (sym value ∙ sym (returns-clause-value c) ∙ e) in
          subst IsWord same lawful,
      λ is. returns-clause-value c ∙ subst Reads is.1 (info_of-word_of i is.0),
    )
