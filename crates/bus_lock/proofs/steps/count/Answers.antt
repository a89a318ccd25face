use Rattle.std.proofs.Common.{rules, ◌≡◌}
use Rattle.bus_lock.proofs.Counting.{counts_it}
use Rattle.bus_lock.proofs.steps.count.Goals as goal

pub fetch_add-requires : goal.fetch_add-requires
fetch_add-requires g c =
    let one : c.args.top.now.table_id.slots ≡ 1 = c.requires.table.1.1 in let host = c.requires.host in (
      search rules,
      search rules,
      rw one (counts_it _ _ _ _ _ _ host.0 c.requires.holds.1 c.requires.holds.0 host.1 c.requires.room),
    )
