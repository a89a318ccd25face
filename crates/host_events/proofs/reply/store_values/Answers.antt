use Rattle.std.proofs.Common.{◌≡◌, ◌∙◌, ap, sym, List}
use Rattle.page_words.specs.declared.item.Item.{Item}
use Rattle.page_words.specs.Told.{kept_after_all}
use Rattle.event_table.specs.declared.row.Results.{Results}
use Rattle.event_table.specs.declared.row.Kind.{Kind}
use Rattle.event_table.specs.Rows.{event_row, kind_of}
use Rattle.device_bus.specs.declared.answer.Answer.TheVariants.{Done}
use Rattle.host_events.specs.Served.{reply_by}
use Rattle.host_events.proofs.Replies.{in_registers}
use Rattle.host_events.proofs.reply.store_values.Goals as goal

pub returns-in_default : goal.returns-in_default
returns-in_default c =
    let access = c.args.access.now in
    let done = Done c.args.values.now in
    let results : c.row_of.result.results ≡ (event_row (kind_of access)).results =
    ap (λ r. r.results) c.row_of.ensures.value ∙ ap (λ (k : Kind). (event_row k).results) c.kind_of.ensures.value in
    let leave = λ (items : List Item). kept_after_all c.args.page.now items in
    record {
      stored =
          c.store_done.ensures.stored ∙ ap (λ (r : Results). leave (reply_by r done)) results
          ∙ sym (ap leave (in_registers access done c.in_default.not-MmioRead));
    }
