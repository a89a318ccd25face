use Rattle.std.proofs.Common.{refl}
use Rattle.smp_runner.proofs.Closing.{is_legal, ran_along}
use Rattle.smp_runner.proofs.close.finish.Goals as goal

pub returns-clause-legal : goal.returns-clause-legal
returns-clause-legal g c =
    let t = c.close-host.ensures.legal in
    is_legal c.args.lock c.args.image.now c.args.all t.0 (g.H.Host.told c.close-host.result)
    (record { order = c.in_ok-order.order; steps = c.args.gathered.steps; ends = c.args.gathered.ends })
    c.requires.vcpus (record { vcpus = t.1.started; history = t.1.history; devices = t.1.devices; begins = t.2; once = t.3 })
    (c.in_ok-order.ensures.turns t.0 t.1.history)

pub returns-clause-ran : goal.returns-clause-ran
returns-clause-ran g c =
    let t = c.close-host.ensures.legal in
    ran_along c.merge.ensures.law c.args.lock c.args.image.now c.args.budget c.args.all c.args.gathered.steps.items c.args.gathered.ends.items t.0 (g.H.Host.told c.close-host.result)
    (record { order = c.in_ok-order.order; steps = c.args.gathered.steps; ends = c.args.gathered.ends })
    c.requires.vcpus c.requires.gathered (record { vcpus = t.1.started; history = t.1.history; devices = t.1.devices; begins = t.2; once = t.3 })
    (c.in_ok-order.ensures.turns t.0 t.1.history) refl refl
