use Rattle.page_words.specs.Recording.{recording, roomless}
use Rattle.hostile_host.proofs.Running.{Leads}
use Rattle.hostile_host.proofs.Turning.{left_by}
use Rattle.hostile_host.proofs.run.run.Given as goal

abbrev pub invariant-turns : goal.invariant-turns
invariant-turns g l = Leads l.image l.steps l.vcpu (roomless (recording g.P.Page.told l.fn.page)) (roomless (recording g.P.Page.told l.page))

abbrev pub decreases-turns : goal.decreases-turns
decreases-turns g l = left_by l.vcpu.phase l.steps l.vcpu.cpu.steps
