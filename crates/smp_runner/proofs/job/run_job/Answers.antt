use Rattle.std.proofs.Common.{rules, ◌≡◌}
use Rattle.std.specs.Option.{unwrap_or}
use Rattle.event_table.specs.declared.end.End.TheVariants as ends
use Rattle.vcpu_core.specs.State.{end_in}
use Rattle.smp_runner.specs.Working.{HasEnded}
use Rattle.smp_runner.proofs.Working.{finished}
use Rattle.smp_runner.proofs.job.run_job.Goals as goal

pub returns : goal.returns
returns g c =
    let v = c.in_ok-vcpu.vcpu in
    let ended : HasEnded c.args.image.now c.args.budget c.args.job.number c.run_vcpu.new.turns.pass.view v = search rules in
    let steps : c.steps.result ≡ v.cpu.steps = search rules in
    let is : c.unwrap_or.result ≡ unwrap_or (end_in v.phase) ends.Spent = search rules in
    record {
      finished = finished c.args.lock.now c.args.image.now c.args.budget c.args.job.number c.args.job.pass c.run_vcpu.new.turns.pass v c.steps.result c.unwrap_or.result ends.Spent
          c.requires.fresh c.run_vcpu.ensures.same ended steps is;
    }
