use Rattle.std.proofs.Common.{[]}
use Rattle.vc_handler.specs.Accept.{outcome_in, reply_of}
use Rattle.vc_handler.proofs.Taking.{access_taken}
use Rattle.vc_handler.proofs.accept.take_access.Goals as goal

pub returns : goal.returns
returns g c =
    let outcome = outcome_in c.take_values.result (reply_of c.take_values.new.values []) in
    let reads = access_taken c.args.access.now outcome (g.P.Page.told c.args.page.now) (g.P.Page.told c.take_values.new.page) c.in_default.not-MmioRead
    (rw (← c.kind_of.ensures.value, ← c.row_of-row.ensures.value) c.take_values.ensures.reads) in
    record { reads = reads; room = c.take_values.ensures.room }
