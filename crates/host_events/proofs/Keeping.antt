-- A history as it is kept, with one entry more.
use Rattle.std.proofs.Common.{◌≡◌, ℕ, ◌+◌, ◌<◌, ◌≤◌, List, [], ◌∷◌, ◌++◌, length, take, drop, Some, refl, ap, sym, subst, ◌∙◌, arith, length-append}
use Rattle.std.proofs.Math.Seq.{drop-append_seam}
use Rattle.std.proofs.lemmas.List.{drop-append-le, take-append-le, take_all, length-drop}
use Rattle.std.proofs.lemmas.Option.{slice_get-get_or, slice_get-map}
use Rattle.std.specs.Prelude.{Option, get_or, map, option_map, slice_get}
use Rattle.event_table.specs.declared.block.Block.{Block}
use Rattle.event_table.specs.declared.event.Event.{Event}
use Rattle.event_table.specs.declared.event.Event.TheVariants as event
use Rattle.event_table.specs.declared.turn.Entry.{Entry}
use Rattle.event_table.specs.declared.turn.Turn.{Turn}
use Rattle.event_table.specs.Lawful.{count_of}
use Rattle.event_table.specs.Rows.{block}
use Rattle.event_table.specs.Turns.{turn_of}
use Rattle.host_events.specs.declared.history.KeptEvent.{KeptEvent}
use Rattle.host_events.specs.declared.history.KeptEvent.TheVariants.{One, Many}
use Rattle.host_events.specs.declared.history.KeptEntry.{KeptEntry}
use Rattle.host_events.specs.Kept.{event_kept, entry_kept, entries_kept, IsWithin, AreWithin}

within_more : (n m : ℕ) (e : KeptEvent) → n ≤ m → IsWithin n e → IsWithin m e
within_more n m (One access) more within = tt
within_more n m (Many b) more within = omega arith

-- one entry more, and perhaps more bytes
pub are_within : (n m : ℕ) (entries : List KeptEntry) (e : KeptEntry) →
    n ≤ m → AreWithin n entries → IsWithin m e.event → AreWithin m (entries ++ e ∷ [])
are_within n m [] e more are is = (is, tt)
are_within n m (x ∷ entries) e more are is = (within_more n m x.event more are.0, are_within n m entries e more are.1 is)

-- the bytes of a block stay where bytes are appended
bytes_stay : (bytes more : List ℕ) (start len : ℕ) → start + len ≤ length bytes →
    take len (drop start (bytes ++ more)) ≡ take len (drop start bytes)
bytes_stay bytes more start len within =
    let room : len ≤ length (drop start bytes) = omega (arith, length-drop start bytes) in
    ap (λ (bs : List ℕ). take len bs) (drop-append-le start bytes more (omega arith)) ∙ take-append-le len (drop start bytes) more room

event_stays : (bytes more : List ℕ) (e : KeptEvent) → IsWithin (length bytes) e → event_kept (bytes ++ more) e ≡ event_kept bytes e
event_stays bytes more (One access) within = refl
event_stays bytes more (Many b) within =
    ap (λ (bs : List ℕ). event.Many (block b.port b.size b.input b.rep b.count bs)) (bytes_stay bytes more b.start b.len within)

entries_stay : (bytes more : List ℕ) (entries : List KeptEntry) (e : KeptEntry) → AreWithin (length bytes) entries →
    entries_kept (bytes ++ more) (entries ++ e ∷ []) ≡ entries_kept bytes entries ++ entry_kept (bytes ++ more) e ∷ []
entries_stay bytes more [] e are = refl
entries_stay bytes more (x ∷ entries) e are =
    let first : entry_kept (bytes ++ more) x ≡ entry_kept bytes x =
    ap (λ (y : Event). record { vcpu = x.vcpu; event = y }) (event_stays bytes more x.event are.0) in
    rw (first, entries_stay bytes more entries e are.1) refl

-- the bytes that were appended
bytes_last : (bytes more : List ℕ) → take (length more) (drop (length bytes) (bytes ++ more)) ≡ more
bytes_last bytes more = ap (λ (bs : List ℕ). take (length more) bs) (drop-append_seam bytes more) ∙ take_all (length more) more (omega arith)

-- a block that is kept, where its bytes begin and how many they are
abbrev pub kept_block : ℕ → ℕ → ℕ → Block → KeptEntry
kept_block vcpu start len b = record {
  vcpu = vcpu;
  event = Many (record { start = start; len = len; port = b.port; count = b.count; size = b.size; input = b.input; rep = b.rep });
}

-- a block with its bytes is appended
pub block_within : (bytes bytes2 : List ℕ) (entries entries2 : List KeptEntry) (vcpu start len : ℕ) (b : Block) →
    AreWithin (length bytes) entries → start ≡ length bytes → len ≡ length b.bytes →
    bytes2 ≡ bytes ++ b.bytes → entries2 ≡ entries ++ kept_block vcpu start len b ∷ [] → AreWithin (length bytes2) entries2
block_within bytes bytes2 entries entries2 vcpu start len b are starts long more appended =
    let all : length bytes2 ≡ length bytes + length b.bytes = ap length more ∙ length-append bytes b.bytes in
    subst (λ (es : List KeptEntry). AreWithin (length bytes2) es) (sym appended)
    (are_within (length bytes) (length bytes2) entries (kept_block vcpu start len b) (omega arith) are (omega arith))

pub block_appended : (bytes bytes2 : List ℕ) (entries entries2 : List KeptEntry) (vcpu start len : ℕ) (b : Block) →
    AreWithin (length bytes) entries → start ≡ length bytes → len ≡ length b.bytes →
    bytes2 ≡ bytes ++ b.bytes → entries2 ≡ entries ++ kept_block vcpu start len b ∷ [] →
    entries_kept bytes2 entries2 ≡ entries_kept bytes entries ++ record { vcpu = vcpu; event = event.Many b } ∷ []
block_appended bytes bytes2 entries entries2 vcpu start len b are starts long more appended =
    let last : take len (drop start (bytes ++ b.bytes)) ≡ b.bytes = rw (starts, long) (bytes_last bytes b.bytes) in
    let there : Entry → List Entry = λ e. entries_kept bytes entries ++ e ∷ [] in
    let whole : List ℕ → Entry = λ bs. record { vcpu = vcpu; event = event.Many (record b { bytes = bs }) } in
    rw (more, appended) (entries_stay bytes b.bytes entries (kept_block vcpu start len b) are ∙ ap (λ bs. there (whole bs)) last)

abbrev turn : ℕ → ℕ → Turn
turn vcpu count = record { vcpu = vcpu; count = count }

-- the turn of an entry that is there
pub turn_kept : (bytes : List ℕ) (entries : List KeptEntry) (e : KeptEntry) (index count : ℕ) →
    index < length entries → e ≡ get_or entries index e → count ≡ count_of (event_kept bytes e.event) →
    Some (turn e.vcpu count) ≡ slice_get (map turn_of (entries_kept bytes entries)) index
turn_kept bytes entries e index count within is counts =
    let kept : KeptEntry → Entry = λ x. entry_kept bytes x in
    let here : slice_get entries index ≡ Some e = slice_get-get_or entries index e within ∙ ap (λ (x : KeptEntry). Some x) (sym is) in
    let there : slice_get (map turn_of (entries_kept bytes entries)) index ≡ Some (turn_of (kept e)) =
    slice_get-map turn_of (map kept entries) index
    ∙ ap (λ (o : Option Entry). option_map turn_of o) (slice_get-map kept entries index ∙ ap (λ (o : Option KeptEntry). option_map kept o) here) in
    ap (λ n. Some (turn e.vcpu n)) counts ∙ sym there
