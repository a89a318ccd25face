use Rattle.std.proofs.Common.{rules, ◌≡◌}
use Rattle.bus_lock.proofs.Giving.{gives_it}
use Rattle.bus_lock.proofs.steps.give.Goals as goal

pub swap-requires : goal.swap-requires
swap-requires g c =
    let one : c.args.top.now.table_id.slots ≡ 1 = c.requires.table.1.1 in let host = c.requires.host in (
      search rules,
      search rules,
      rw one (gives_it _ _ _ _ _ _ _ c.requires.holds.1 c.requires.holds.0 host.1 host.2),
    )
