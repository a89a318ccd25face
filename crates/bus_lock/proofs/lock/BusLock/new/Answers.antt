use Rattle.std.proofs.Common.{rules, ◌≡◌, [], ◌∷◌, Some, refl, sym, subst}
use Rattle.bus_lock.specs.declared.boxed.Boxed.{Boxed}
use Rattle.bus_lock.specs.Rule.{IsOpened, Kept, Legal, input_of}
use Rattle.bus_lock.specs.Views.{first_view}
use Rattle.atomic_table.specs.Table.{opening}
use Rattle.bus_lock.proofs.Closing.{starts_it}
use Rattle.bus_lock.proofs.lock.BusLock.new.Goals as goal

pub new-requires-2 : goal.new-requires-2
new-requires-2 g c =
    let told = λ (b : Boxed g.row.H.Denot). g.H.Host.told b.host.value in let host = c.in_ok-host.host in
    let vcpus = (told host).vcpus in let input = input_of (told host).devices in
    let opened : IsOpened (told host) =
    subst (λ (h : g.row.H.Denot). IsOpened (g.H.Host.told h)) (sym c.in_ok-host.ensures.ok) c.requires.opened in
    let legal : Legal told vcpus input host [] = record { started = refl; history = opened.1; devices = opened.0 } in
    let items : c.push.new.self.items ≡ Some host ∷ [] = search rules in
    subst
    (λ (z : Boxed g.row.H.Denot). Kept told (told z).vcpus (input_of (told z).devices)
    (opening (0 ∷ 0 ∷ []) c.push.new.self.items (first_view (told z).vcpus (input_of (told z).devices))))
    (sym c.of-opened.ensures) (rw items (starts_it told vcpus input host legal))
