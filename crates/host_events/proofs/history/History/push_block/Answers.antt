use Rattle.std.proofs.Common.{◌≡◌, ◌∙◌, ◌∷◌, ◌++◌, [], List, length, ap, rules}
use Rattle.event_table.specs.declared.event.Event.TheVariants.{Many}
use Rattle.event_table.specs.declared.turn.Entry.{Entry}
use Rattle.host_events.specs.Kept.{AreWithin, entries_kept}
use Rattle.host_events.specs.declared.history.KeptEntry.{KeptEntry}
use Rattle.host_events.proofs.Keeping.{block_appended, block_within, kept_block}
use Rattle.host_events.proofs.history.History.push_block.Goals as goal

-- the bytes and the entry are appended
appended : (c : goal.After-push_reserved) →
    let h = c.self.inside in
    let bytes = c.extend_from_slice.new.self.items in
    let entries = c.push_reserved.new.self.items in
    let entry : Entry = record { vcpu = c.args.vcpu; event = Many c.args.block.now } in
    AreWithin (length bytes) entries × (entries_kept bytes entries ≡ entries_kept h.bytes.items h.entries.items ++ entry ∷ [])
appended c =
    let h = c.self.inside in
    let bytes = c.as_slice-bytes.result.now in
    let start = c.len-start.result in
    let vcpu = c.args.vcpu in
    let block = c.args.block.now in
    let is : bytes ≡ block.bytes = c.as_slice-bytes.ensures.all in
    let starts : start ≡ length h.bytes.items = search rules in
    let more = c.in_ok-extend_from_slice.ensures.items ∙ ap (λ bs. h.bytes.items ++ bs) is in
    let last : c.push_reserved.new.self.items ≡ h.entries.items ++ kept_block vcpu start (length bytes) block ∷ [] =
    c.push_reserved.ensures.items ∙ ap (λ (es : List KeptEntry). es ++ kept_block vcpu start (length bytes) block ∷ []) c.reserve.ensures.items in (
      block_within h.bytes.items _ h.entries.items _ vcpu start (length bytes) block c.self.invariant starts (ap length is) more last,
      block_appended h.bytes.items _ h.entries.items _ vcpu start (length bytes) block c.self.invariant starts (ap length is) more last,
    )

pub invariant_of-self-2 : goal.invariant_of-self-2
invariant_of-self-2 c = (appended c).0

pub returns-clause-ok : goal.returns-clause-ok
returns-clause-ok c =
    let entry : Entry = record { vcpu = c.args.vcpu; event = Many c.args.block.now } in
    (appended c).1 ∙ ap (λ (es : List Entry). es ++ entry ∷ []) c.self.view_is
