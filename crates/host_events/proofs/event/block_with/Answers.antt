use Rattle.std.proofs.Common.{◌≡◌, ◌∙◌, ℕ, ◌*◌, List, [], take, ap}
use Rattle.std.specs.Prelude.{if◌then◌else◌}
use Rattle.event_table.specs.Rows.{block}
use Rattle.host_events.specs.Reading.{buffer_in, word_in}
use Rattle.host_events.proofs.event.block_with.Goals as goal
use Rattle.host_events.proofs.event.block_with.Goals.{then-input, else-input}

pub returns-clause-value : goal.returns-clause-value
returns-clause-value c =
    let a = c.args in
    let shown = buffer_in (λ n. word_in a.page.now n) in
    let bytes : c.if-input.bytes ≡ (if a.input then [] else take (a.count * a.size) shown) =
    elim c.if-input.branch [
      | then-input w ↦ rw w.if-input.true (w.bytes-is ∙ w.new-bytes.ensures.empty)
      | else-input w ↦
          rw w.if-input.false (w.bytes-is ∙ w.buffer_bytes-bytes.ensures.value ∙ ap (λ n. take (a.count * n) shown) w.from.ensures)
    ] in
    ap (λ (bs : List ℕ). block a.port a.size a.input a.rep a.count bs) bytes
