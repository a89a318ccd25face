use Rattle.smp_runner.proofs.Running.{goes_out}
use Rattle.smp_runner.proofs.running_vcpu.go_on.Goals as goal

pub returns-clause-out : goal.returns-clause-out
returns-clause-out c = λ number v ready.
    goes_out c.args.image.now c.args.budget number v c.args.seat.now.vcpu c.run_to_exit.new.self c.args.seat.now.page c.run_to_exit.new.page
    c.run_to_exit.ensures.says c.run_to_exit.ensures.goes c.run_to_exit.ensures.lawful ready
