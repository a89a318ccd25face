use Rattle.std.proofs.Common.{◌≡◌, ◌∙◌, List, ℕ, take, ap}
use Rattle.page_words.specs.Told.{kept_after_all}
use Rattle.event_table.specs.Elements.{bytes_of}
use Rattle.string_io.proofs.Runs.{number_bytes}
use Rattle.host_events.specs.Served.{buffer_reply}
use Rattle.host_events.proofs.reply.store_value.Goals as goal

pub returns : goal.returns
returns c =
    let a = c.args in
    let is : take c.from.result c.to_le_bytes.result ≡ bytes_of a.len a.value =
    ap (λ n. take n c.to_le_bytes.result) c.from.ensures ∙ ap (λ (bytes : List ℕ). take a.len bytes) c.to_le_bytes.ensures
    ∙ number_bytes a.len a.value c.requires.len in
    record {
      stored =
          c.store_buffer_reply.ensures.stored
          ∙ ap (λ (bytes : List ℕ). kept_after_all a.page.now (buffer_reply bytes)) is;
    }
