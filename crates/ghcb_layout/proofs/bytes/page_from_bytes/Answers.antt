use Rattle.std.proofs.Common.{◌≡◌, ◌∙◌, ap, arith}
use Rattle.std.proofs.lemmas.List.FromFn.{fill_by_all}
use Rattle.ghcb_layout.specs.Bytes.{word_at, words_of, bytes_of}
use Rattle.ghcb_layout.proofs.PageBytes.{flat_map-words_of}
use Rattle.ghcb_layout.proofs.bytes.page_from_bytes.Goals as goal

pub returns-clause-page : goal.returns-clause-page
unfolding words_of
returns-clause-page c =
    let invariant = c.loop-number.invariant in
    let words : c.loop-number.page.words ≡ words_of c.args.bytes.now =
    fill_by_all (word_at c.args.bytes.now) c.loop-number.page.words 512 0 invariant.count (λ k below. invariant.words k (omega arith)) in
    λ j. record { words = words j; msr = invariant.msr j }

pub returns-clause-bytes : goal.returns-clause-bytes
returns-clause-bytes c =
    ap bytes_of (returns-clause-page c) ∙ flat_map-words_of c.args.bytes.now c.requires (λ i. omega (arith, c.type_inv.bytes i))
