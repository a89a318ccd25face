use Rattle.std.proofs.Common.{arith}
use Rattle.std.proofs.lemmas.Bool.Decides.{nat_tests}
use Rattle.bus_lock.proofs.Serving.{gains, gains_none}
use Rattle.bus_lock.proofs.serve.serve_counted.Goals as goal

pub returns : goal.returns
returns g c =
    let told = g.H.Host.told in let old = c.args.host.now in let new = c.serve.new.self in
    let i = c.args.vcpu in let page = c.args.page.now in let left = c.serve.new.page in
    let before = c.turns-before in let after = c.turns in let served = c.in_ok-serve.ensures in record {
      serves = λ vcpus input log legal. (
        (λ made. gains told vcpus input old new log i page left before.result after.result legal served.ok served.page
            before.ensures.count after.ensures.count after.ensures.few (grind (arith, nat_tests))),
        (λ made. gains_none told vcpus input old new log i page left before.result after.result legal served.ok
            served.page before.ensures.count after.ensures.count (grind (arith, nat_tests))),
      );
    }
