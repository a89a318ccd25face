use Rattle.std.proofs.Common.{◌≡◌, [], false, true, rules}
use Rattle.page_words.specs.Dialogue.{Reads}
use Rattle.page_words.proofs.Reading.{reads_then, reads_pure, reads_true, reads_false}
use Rattle.string_io.specs.Buffers.{loaded_bytes}
use Rattle.vc_handler.specs.Accept.{has_all, has_any, outcome_done}
use Rattle.vc_handler.proofs.Taking.{none_taken}
use Rattle.vc_handler.proofs.accept.take_values.Goals as goal

pub returns-then-not-has_any-clause-reads : goal.returns-then-not-has_any-clause-reads
returns-then-not-has_any-clause-reads g c =
    let told = g.P.Page.told c.args.page.now in
    let none : has_any c.args.results.now ≡ false = search rules in
    none_taken c.args.results.now 0 outcome_done [] told told none (reads_pure [] told)

pub returns-then-not-has_all-clause-reads : goal.returns-then-not-has_all-clause-reads
returns-then-not-has_all-clause-reads g c =
    let missing : has_all c.args.results.now c.load_bitmap-bitmap.result ≡ false = search rules in
    search (reads_then, reads_pure, reads_true, reads_false)

pub returns-clause-reads : goal.returns-clause-reads
returns-clause-reads g c =
    let told = g.P.Page.told c.load_values.new.page in
    let there : has_all c.args.results.now c.load_bitmap-bitmap.result ≡ true = search rules in
    let nothing : Reads (loaded_bytes 0) [] told told = reads_pure [] told in
    search (reads_then, reads_pure, reads_true, reads_false)
