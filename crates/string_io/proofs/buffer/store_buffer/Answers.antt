use Rattle.std.proofs.Common.{◌∙◌, ◌+◌, ◌-◌, ◌*◌, ap, arith, subst}
use Rattle.std.specs.Prelude.{map}
use Rattle.image_file.specs.Number.{number_at}
use Rattle.page_words.specs.Told.{Makes, store}
use Rattle.event_table.specs.Buffer.{numbered}
use Rattle.event_table.specs.Elements.{numbers_in}
use Rattle.string_io.proofs.Passing.{stored_more, stored_none}
use Rattle.string_io.proofs.buffer.store_buffer.Goals as goal

pub loop-k-preserved : goal.loop-k-preserved
loop-k-preserved g c =
    let n = c.words_for-words.result in
    let m = n - (c.loop-k.k + 1) in
    record {
      few = c.loop-k.invariant.few;
      room = omega (arith, c.store.ensures.room);
      rest = λ w makes. c.loop-k.invariant.rest w
          (stored_more _ _ w (n - c.loop-k.k) m (8 * c.loop-k.k) (8 * (c.loop-k.k + 1)) c.word_at.result (256 + c.loop-k.k) (256 + (c.loop-k.k + 1)) c.args.bytes.now
          (omega arith) (c.word_at.ensures.value ∙ ap (λ k. number_at 8 (8 * k) c.args.bytes.now) c.from.ensures) (omega arith) (omega arith) c.store.ensures.makes makes);
    }

pub returns-clause-makes : goal.returns-clause-makes
returns-clause-makes g c =
    subst (λ n. Makes (g.P.Page.told c.args.page.now) (map store (numbered 256 (numbers_in 8 n c.args.bytes.now))) (g.P.Page.told c.loop-k.page)) c.words_for-words.ensures.value
    (c.loop-k.invariant.rest _ (stored_none _ (c.words_for-words.result - c.loop-k.k) (256 + c.loop-k.k) _ (omega arith)))
