use Rattle.std.proofs.Common.{◌≡◌, ◌∙◌, ℕ, List, ap, sym, rules}
use Rattle.std.specs.Prelude.{map}
use Rattle.page_words.specs.Told.{Kept, kept_after_all, store}
use Rattle.ghcb_layout.specs.Bitmap.{bitmap_of}
use Rattle.event_table.specs.Buffer.{buffer_of}
use Rattle.host_events.specs.Served.{bitmap_words, status_words}
use Rattle.host_events.proofs.Blocks.{makes_kept, stored_append}
use Rattle.host_events.proofs.reply.store_buffer_reply.Goals as goal

pub returns : goal.returns
returns c =
    let bytes = c.args.bytes.now in
    let is : bitmap_words c.from_words.result ≡ bitmap_words (bitmap_of status_words) =
    ap bitmap_words c.from_words.ensures.value ∙ ap (λ n. bitmap_words (record { low = 0; high = n })) c.infos.ensures.value in
    let first : Kept = kept_after_all c.args.page.now (map store status_words) in
    let buffer : c.store_buffer.new.page ≡ kept_after_all c.store-2.new.self (map store (buffer_of bytes)) =
    makes_kept c.store-2.new.self c.store_buffer.new.page (map store (buffer_of bytes)) c.store_buffer.ensures.makes in
    let stored : c.store-2.new.self ≡ first = search rules in
    record {
      stored =
          c.store_bitmap.ensures.stored
          ∙ ap (λ (page : Kept). kept_after_all page (map store (bitmap_words c.from_words.result))) buffer
          ∙ ap (λ (words : List (ℕ × ℕ)). kept_after_all (kept_after_all c.store-2.new.self (map store (buffer_of bytes))) (map store words)) is
          ∙ ap (λ (page : Kept). kept_after_all (kept_after_all page (map store (buffer_of bytes))) (map store (bitmap_words (bitmap_of status_words)))) stored
          ∙ sym (stored_append first (buffer_of bytes) (bitmap_words (bitmap_of status_words)));
    }
