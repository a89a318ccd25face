use Rattle.std.proofs.Common.{◌≡◌, ◌∙◌, ◌∷◌, ◌++◌, [], List, length, ap, arith, subst, sym}
use Rattle.host_events.specs.Kept.{AreWithin}
use Rattle.host_events.specs.declared.history.KeptEntry.{KeptEntry}
use Rattle.host_events.specs.declared.history.KeptEvent.TheVariants.{One}
use Rattle.host_events.proofs.Keeping.{are_within}
use Rattle.host_events.proofs.history.History.push_access.Goals as goal

pub invariant_of-self-2 : goal.invariant_of-self-2
invariant_of-self-2 c =
    let h = c.self.inside in
    let bytes = length h.bytes.items in
    let e : KeptEntry = record { vcpu = c.args.vcpu; event = One c.args.access.now } in
    let appended : c.push_reserved.new.self.items ≡ h.entries.items ++ e ∷ [] =
    c.push_reserved.ensures.items ∙ ap (λ (es : List KeptEntry). es ++ e ∷ []) c.reserve.ensures.items in
    subst (λ (es : List KeptEntry). AreWithin bytes es) (sym appended) (are_within bytes bytes h.entries.items e (omega arith) c.self.invariant tt)
