use Rattle.std.proofs.Common.{◌≡◌, ◌∙◌, ℕ, ◌+◌, ◌-◌, ◌++◌, List, length, take, ap, sym, arith, subst, length-append}
use Rattle.page_words.specs.Dialogue.{Reads}
use Rattle.page_words.specs.Programs.{pure}
use Rattle.event_table.specs.Buffer.{bytes_from, words_for}
use Rattle.event_table.specs.Elements.{bytes_of}
use Rattle.string_io.specs.Buffers.{loaded_bytes, loading_words}
use Rattle.string_io.proofs.Passing.{loaded_more, loaded_none}
use Rattle.string_io.proofs.Runs.{length-bytes_of}
use Rattle.string_io.proofs.buffer.load_buffer.Goals as goal

pub loop-k-preserved : goal.loop-k-preserved
loop-k-preserved g c =
    let n = c.words_for-words.result in
    let m = n - (c.loop-k.k + 1) in
    let v = c.load-word.result in
    let appended : c.push_number.new.bytes ≡ c.loop-k.bytes ++ bytes_of 8 v = c.push_number.ensures.appended in
    record {
      few = c.loop-k.invariant.few;
      full = ap length appended ∙ (length-append c.loop-k.bytes (bytes_of 8 v) ∙ omega (arith, length-bytes_of 8 v, c.loop-k.invariant.full));
      room = omega (arith, c.load-word.ensures.room, c.loop-k.invariant.room);
      rest = λ w x reads. c.loop-k.invariant.rest w x
          (loaded_more _ _ w c.args.back (n - c.loop-k.k) m (256 + c.loop-k.k) (256 + (c.loop-k.k + 1)) v c.loop-k.bytes x (omega arith) (omega arith) c.load-word.ensures.reads
          (subst (λ (bytes : List ℕ). Reads (loading_words m (256 + (c.loop-k.k + 1)) (λ words. pure (take c.args.back (bytes ++ bytes_from words)))) x (g.P.Page.told c.load-word.new.page) w) appended reads));
    }

pub returns-clause-reads : goal.returns-clause-reads
returns-clause-reads g c =
    let n = c.words_for-words.result in
    let all : n ≡ words_for c.args.back = c.words_for-words.ensures.value in
    let here = c.loop-k.invariant.rest _ (take c.args.back c.loop-k.bytes) (loaded_none _ c.args.back (n - c.loop-k.k) (256 + c.loop-k.k) c.loop-k.bytes (omega arith)) in
    let whole = subst (λ k. Reads (loading_words k 256 (λ words. pure (take c.args.back (bytes_from words)))) (take c.args.back c.loop-k.bytes) (g.P.Page.told c.args.page.now) (g.P.Page.told c.loop-k.page)) all here in
    subst (λ (x : List ℕ). Reads (loaded_bytes c.args.back) x (g.P.Page.told c.args.page.now) (g.P.Page.told c.loop-k.page)) (sym (c.truncate.ensures.first ∙ ap (λ n. take n c.loop-k.bytes) c.from.ensures)) whole
