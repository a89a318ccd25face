use Rattle.std.proofs.Common.{ℕ, ◌*◌, ◌%◌, ◌^◌, subst, sym}
use Rattle.page_words.specs.Dialogue.{Reads}
use Rattle.page_words.specs.Programs.{load, pure}
use Rattle.page_words.proofs.Reading.{reads_pure, reads_then}
use Rattle.event_table.specs.Buffer.{first_word}
use Rattle.mmio_access.specs.Shared.{loaded_number}
use Rattle.mmio_access.proofs.accept_mmio.Goals as goal

pub returns-clause-reads : goal.returns-clause-reads
returns-clause-reads g c =
    let number = λ (word : ℕ). word % 2 ^ (8 * c.args.len) in
    subst (λ (x : ℕ). Reads (loaded_number c.args.len) x (g.P.Page.told c.args.page.now) (g.P.Page.told c.load_first.new.page)) (sym c.low_bytes.ensures.value)
    (reads_then (load first_word) (λ word. pure (number word)) c.load_first.result (number c.load_first.result) _ _ _ c.load_first.ensures.reads (reads_pure _ _))
