use Rattle.std.proofs.Common.{Ok, Err, refl}
use Rattle.guest_interp.specs.Guest.{counted_vcpu}
use Rattle.vcpu_core.specs.State.{standing}
use Rattle.vcpu_core.proofs.Settling.{agrees, disagrees}
use Rattle.vc_handler.proofs.Negotiating.{left_room}
use Rattle.vcpu_core.proofs.handled_guest.HandledGuest.take_versions.Goals as goal

pub returns-in-Err-clause-runs : goal.returns-in-Err-clause-runs
returns-in-Err-clause-runs g c =
    let told = g.P.Page.told in
    disagrees c.args.image.now c.args.self.now.vc (counted_vcpu c.args.self.now.guest) (Err c.in-Err.reason) c.in-Err.reason
    (standing c.end_with.new.self c.end_with.result) (told c.args.page.now) (told c.negotiate.new.page) (told c.end_with.new.page)
    refl c.in-Err.ensures.reads c.end_with.ensures.goes c.end_with.ensures.exit

pub returns-in-Ok-clause-runs : goal.returns-in-Ok-clause-runs
returns-in-Ok-clause-runs g c =
    let told = g.P.Page.told in
    agrees c.args.image.now c.args.self.now.vc (counted_vcpu c.args.self.now.guest) (Ok c.in-Ok.field-0) c.in-Ok.field-0
    (told c.args.page.now) (told c.negotiate.new.page) refl c.in-Ok.ensures.reads

pub end_with-requires : goal.end_with-requires
end_with-requires g c = record { room = left_room c.negotiate.result (g.P.Page.told c.args.page.now) (g.P.Page.told c.negotiate.new.page) c.negotiate.ensures.reads c.requires.room }
