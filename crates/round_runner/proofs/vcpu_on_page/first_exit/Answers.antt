use Rattle.guest_interp.specs.Stepping.{start_of}
use Rattle.round_runner.proofs.Meeting.{asks}
use Rattle.round_runner.proofs.vcpu_on_page.first_exit.Goals as goal

pub returns-clause-page : goal.returns-clause-page
returns-clause-page c =
    asks c.args.number (start_of c.args.image.now c.args.number) 0 c.new-vcpu.result c.new-page.result c.run_to_exit.new.page
    c.new-vcpu.ensures.start c.new-page.ensures.blank c.run_to_exit.ensures.says
