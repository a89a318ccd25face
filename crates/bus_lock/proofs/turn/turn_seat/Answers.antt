use Rattle.bus_lock.proofs.Turning.{one_counts, one_learns}
use Rattle.bus_lock.proofs.turn.turn_seat.Goals as goal

pub count-number-requires-clause-host : goal.count-number-requires-clause-host
count-number-requires-clause-host g c =
    let made = c.in-Ok-true in let held = c.serve_held.new in
    one_counts g.H.Host.told c.args.place.now.me.0 c.args.vcpu c.args.page.now held.page made.field-0 made.field-0-test
    held.place.me made.ensures.hosts

pub returns-in-Ok-true-clause-learns : goal.returns-in-Ok-true-clause-learns
returns-in-Ok-true-clause-learns g c =
    let made = c.in-Ok-true in let held = c.serve_held.new in let counted = c.count-number in
    one_learns g.H.Host.told c.args.place.now.me.0 c.args.vcpu c.args.page.now held.page made.field-0 made.field-0-test
    held.place.me made.ensures.hosts counted.new.place.me c.give.new.place.me counted.result counted.ensures.counted
    c.give.ensures.given
