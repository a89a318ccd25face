-- Both ends of the page agree.
use Rattle.std.proofs.Common.{◌≡◌, ℕ, ◌+◌, ◌%◌, ◌^◌, ◌<◌, Bool, true, false, List, [], ◌∷◌, ◌++◌, length, refl, sym, ap, ◌∙◌, subst, lit<}
use Rattle.std.specs.Prelude.{◌==◌, map, slice_index}
use Rattle.std.proofs.lemmas.Bool.{eq-eqb}
use Rattle.image_file.specs.Format.{most_vcpus}
use Rattle.page_words.specs.declared.item.Item.{Item}
use Rattle.page_words.specs.declared.item.Item.TheVariants.{Exit}
use Rattle.page_words.specs.Told.{Kept, store, kept_after, kept_after_all}
use Rattle.page_words.proofs.Keeping.{word_after_all, length-kept_after_all, index-kept_after_all}
use Rattle.ghcb_layout.specs.Address.{ghcb_of}
use Rattle.ghcb_layout.specs.Bitmap.{word_if, low_bits, high_bits}
use Rattle.ghcb_layout.specs.declared.field.Field.TheVariants.{Xcr0}
use Rattle.event_table.specs.declared.access.Access.{Access}
use Rattle.event_table.specs.declared.access.Access.TheVariants as a
use Rattle.event_table.specs.declared.event.Event.{Event}
use Rattle.event_table.specs.declared.event.Event.TheVariants.{One, Many}
use Rattle.event_table.specs.Lawful.{IsLawfulAccess, IsLawfulBlock, IsLawfulEvent, IsOfRegisters}
use Rattle.event_table.specs.Rows.{block, event_row, kind_of, kind_of_event}
use Rattle.device_bus.specs.Devices.{Devices}
use Rattle.vc_handler.specs.Wire.{wire, stored_words, registers_shown, bytes_shown}
use Rattle.vc_handler.specs.Accept.{accepting}
use Rattle.host_events.specs.Calls.{page_call, call_of}
use Rattle.host_events.specs.Reading.{event_in, has_infos, has_scratch, has_shown, names_buffer}
use Rattle.host_events.specs.Call.{Call}
use Rattle.host_events.specs.Call.{Asked}
use Rattle.host_events.specs.Served.{Served, reply, served, served_by, entries_by}
use Rattle.both_ends.specs.BothEnds.{BothEndsAgree, outcome_on, outcome_to}
use Rattle.page_words.specs.Programs.{found}
use Rattle.both_ends.proofs.Bytes.{block_taken}
use Rattle.both_ends.proofs.Shown.{block_asked}
use Rattle.both_ends.proofs.Back.{bits, asked_at, in_registers, kind_back, ghcb_read, cut_back, out_back}
use Rattle.both_ends.proofs.Mmio.{read_asked, write_asked}
use Rattle.both_ends.proofs.Taken.{takes}

-- A page whose words are what an access shows asks for that access.
asked_shown : (i : ℕ) (access : Access) (low high : ℕ) (word : ℕ → ℕ) → IsLawfulAccess access → IsOfRegisters (kind_of access)
    → word 511 ≡ 0x10000 → word 126 ≡ low → word 127 ≡ high → has_infos (bits low high) ≡ true
    → word 114 ≡ (event_row (kind_of access)).code → word 115 ≡ (event_row (kind_of access)).info → word 116 ≡ (event_row (kind_of access)).count
    → has_shown (event_row (kind_of access)) (word 63) (bits low high) ≡ true
    → event_in word (kind_of access) ≡ One access
    → page_call i word ≡ Asked (One access)
asked_shown i access low high word lawful of protocol is_low is_high infos code info count shown back =
    let kind = kind_of access in
    let bare = in_registers access of in
    let scratch : has_scratch (event_row kind) (bits low high) ≡ true = rw bare.scratch refl in
    let names : names_buffer i (event_row kind) (word 117) ≡ true = rw bare.scratch refl in
    asked_at i word kind low high protocol is_low is_high infos (rw code bare.event)
    (rw (code, info, count) (kind_back access lawful)) shown scratch names bare.count
    ∙ ap (λ (e : Event). Asked e) back

-- the words after these items
abbrev IsAfter : List Item → (ℕ → ℕ) → (ℕ → ℕ) → Type 0
IsAfter items old word = (n : ℕ) → n < 512 → word n ≡ word_after_all items n (old n)

-- What CPUID shows, where it is told whether XCR0 is shown.
abbrev cpuid_shown : ℕ → ℕ → Bool → List (ℕ × ℕ)
cpuid_shown leaf sub xcr = (63, leaf) ∷ (97, sub) ∷ (114, 0x72) ∷ (115, 0) ∷ (116, 0) ∷ word_if Xcr0 xcr 1

abbrev cpuid_wire : ℕ → ℕ → ℕ → Bool → List Item
cpuid_wire i leaf sub xcr =
    map store ((126, 0) ∷ (127, 0) ∷ cpuid_shown leaf sub xcr
    ++ ((126, low_bits (cpuid_shown leaf sub xcr)) ∷ (127, high_bits (cpuid_shown leaf sub xcr)) ∷ (511, 0x10000) ∷ [])) ++ Exit (ghcb_of i) ∷ []

-- CPUID, with XCR0 and without it.
asked_cpuid : (i leaf sub : ℕ) (xcr : Bool) (old word : ℕ → ℕ) → (leaf % 2 ^ 32 == 0xD) ≡ xcr → (leaf < 2 ^ 32) × (sub < 2 ^ 32)
    → IsAfter (cpuid_wire i leaf sub xcr) old word → page_call i word ≡ Asked (One (a.Cpuid leaf sub))
asked_cpuid i leaf sub true old word is lawful at =
    asked_shown i (a.Cpuid leaf sub) (2 ^ 63) 0x201C000200000000 word lawful tt (at 511 (lit< tt)) (at 126 (lit< tt)) (at 127 (lit< tt)) refl
    (at 114 (lit< tt)) (at 115 (lit< tt)) (at 116 (lit< tt)) (rw (at 63 (lit< tt), is) refl)
    (rw (cut_back (word 63) leaf (2 ^ 32) (at 63 (lit< tt)) lawful.0, cut_back (word 97) sub (2 ^ 32) (at 97 (lit< tt)) lawful.1) refl)
asked_cpuid i leaf sub false old word is lawful at =
    asked_shown i (a.Cpuid leaf sub) (2 ^ 63) 0x001C000200000000 word lawful tt (at 511 (lit< tt)) (at 126 (lit< tt)) (at 127 (lit< tt)) refl
    (at 114 (lit< tt)) (at 115 (lit< tt)) (at 116 (lit< tt)) (rw (at 63 (lit< tt), is) refl)
    (rw (cut_back (word 63) leaf (2 ^ 32) (at 63 (lit< tt)) lawful.0, cut_back (word 97) sub (2 ^ 32) (at 97 (lit< tt)) lawful.1) refl)

-- the words that the wire form leaves
asked_wire : (i : ℕ) (access : Access) (old word : ℕ → ℕ) → IsLawfulAccess access → IsAfter (wire i (One access)) old word → page_call i word ≡ Asked (One access)
asked_wire i (a.Out port size value) old word lawful at =
    asked_shown i (a.Out port size value) (2 ^ 63) 0x001C000000000000 word lawful tt (at 511 (lit< tt)) (at 126 (lit< tt)) (at 127 (lit< tt)) refl
    (at 114 (lit< tt)) (at 115 (lit< tt)) (at 116 (lit< tt)) refl (ap (λ v. One (a.Out port size v)) (out_back (word 63) value size (at 63 (lit< tt)) lawful.1 lawful.2))
asked_wire i (a.In port size) old word lawful at =
    asked_shown i (a.In port size) 0 0x001C000000000000 word lawful tt (at 511 (lit< tt)) (at 126 (lit< tt)) (at 127 (lit< tt)) refl
    (at 114 (lit< tt)) (at 115 (lit< tt)) (at 116 (lit< tt)) refl refl
asked_wire i (a.Cpuid leaf sub) old word lawful at = asked_cpuid i leaf sub (leaf % 2 ^ 32 == 0xD) old word refl lawful at
asked_wire i (a.Rdmsr msr) old word lawful at =
    asked_shown i (a.Rdmsr msr) 0 0x001C000200000000 word lawful tt (at 511 (lit< tt)) (at 126 (lit< tt)) (at 127 (lit< tt)) refl
    (at 114 (lit< tt)) (at 115 (lit< tt)) (at 116 (lit< tt)) refl (ap (λ v. One (a.Rdmsr v)) (cut_back (word 97) msr (2 ^ 32) (at 97 (lit< tt)) lawful))
asked_wire i (a.Wrmsr msr low high) old word lawful at =
    asked_shown i (a.Wrmsr msr low high) (2 ^ 63) 0x001C000600000000 word lawful tt (at 511 (lit< tt)) (at 126 (lit< tt)) (at 127 (lit< tt)) refl
    (at 114 (lit< tt)) (at 115 (lit< tt)) (at 116 (lit< tt)) refl
    (rw (cut_back (word 97) msr (2 ^ 32) (at 97 (lit< tt)) lawful.0, cut_back (word 63) low (2 ^ 32) (at 63 (lit< tt)) lawful.1, cut_back (word 98) high (2 ^ 32) (at 98 (lit< tt)) lawful.2) refl)
asked_wire i a.Rdtsc old word lawful at =
    asked_shown i a.Rdtsc 0 0x001C000000000000 word lawful tt (at 511 (lit< tt)) (at 126 (lit< tt)) (at 127 (lit< tt)) refl
    (at 114 (lit< tt)) (at 115 (lit< tt)) (at 116 (lit< tt)) refl refl
asked_wire i a.Rdtscp old word lawful at =
    asked_shown i a.Rdtscp 0 0x001C000000000000 word lawful tt (at 511 (lit< tt)) (at 126 (lit< tt)) (at 127 (lit< tt)) refl
    (at 114 (lit< tt)) (at 115 (lit< tt)) (at 116 (lit< tt)) refl refl
asked_wire i (a.Rdpmc index) old word lawful at =
    asked_shown i (a.Rdpmc index) 0 0x001C000200000000 word lawful tt (at 511 (lit< tt)) (at 126 (lit< tt)) (at 127 (lit< tt)) refl
    (at 114 (lit< tt)) (at 115 (lit< tt)) (at 116 (lit< tt)) refl (ap (λ v. One (a.Rdpmc v)) (cut_back (word 97) index (2 ^ 32) (at 97 (lit< tt)) lawful))
asked_wire i a.Wbinvd old word lawful at =
    asked_shown i a.Wbinvd 0 0x001C000000000000 word lawful tt (at 511 (lit< tt)) (at 126 (lit< tt)) (at 127 (lit< tt)) refl
    (at 114 (lit< tt)) (at 115 (lit< tt)) (at 116 (lit< tt)) refl refl
asked_wire i (a.Vmmcall rax) old word lawful at =
    asked_shown i (a.Vmmcall rax) (2 ^ 63 + 2 ^ 25) 0x001C000000000000 word lawful tt (at 511 (lit< tt)) (at 126 (lit< tt)) (at 127 (lit< tt)) refl
    (at 114 (lit< tt)) (at 115 (lit< tt)) (at 116 (lit< tt)) refl (ap (λ v. One (a.Vmmcall v)) (at 63 (lit< tt)))
asked_wire i (a.MmioRead address len) old word lawful at = read_asked i address len old word lawful at
asked_wire i (a.MmioWrite address len value) old word lawful at = write_asked i address len value old word lawful at

-- the exit leaves its address in the MSR word
msr_after : (page : Kept) (words : List (ℕ × ℕ)) (msr : ℕ) → (kept_after_all page (map store words ++ Exit msr ∷ [])).msr ≡ msr
msr_after page [] msr = refl
msr_after page (w ∷ words) msr = msr_after (kept_after page (store w)) words msr

-- a word of a page after items
after : (page : Kept) (items : List Item) → length page.words ≡ 512 → IsAfter items (λ n. slice_index page.words n) (λ n. slice_index (kept_after_all page items).words n)
after page items full n within = index-kept_after_all page items n (subst (λ m. n < m) (sym full) within)

-- a page whose words are those that a block shows asks for that block
asked_many : (i port size count : ℕ) (input rep : Bool) (bytes : List ℕ) (old word : ℕ → ℕ) → IsLawfulBlock (block port size input rep count bytes) →
    IsAfter (wire i (Many (block port size input rep count bytes))) old word → page_call i word ≡ Asked (Many (block port size input rep count bytes))
asked_many i port size count true rep bytes old word lawful at = block_asked i port size count true rep bytes old word lawful at
asked_many i port size count false rep bytes old word lawful at = block_asked i port size count false rep bytes old word lawful at

-- and what comes back of it is taken
taken_many : (d : Devices) (i port size count : ℕ) (input rep : Bool) (bytes : List ℕ) (old word : ℕ → ℕ) (msr : ℕ) →
    let b = block port size input rep count bytes in
    IsLawfulBlock b → IsAfter (reply d i (Many b)) old word → found (accepting (Many b)) word msr ≡ outcome_to d i (Many b)
taken_many d i port size count true rep bytes old word msr lawful at = block_taken d i port size count true rep bytes old word msr lawful at
taken_many d i port size count false rep bytes old word msr lawful at = block_taken d i port size count false rep bytes old word msr lawful at

-- a page whose words are those that an event shows asks for that event
asked_event : (i : ℕ) (event : Event) (old word : ℕ → ℕ) → IsLawfulEvent event → IsAfter (wire i event) old word → page_call i word ≡ Asked event
asked_event i (One access) old word lawful at = asked_wire i access old word lawful at
asked_event i (Many b) old word lawful at = asked_many i b.port b.size b.count b.input b.rep b.bytes old word lawful at

-- the hypervisor reads the event that was shown
called : (i : ℕ) (event : Event) (before : Kept) → i < most_vcpus → IsLawfulEvent event → length before.words ≡ 512
    → call_of i (kept_after_all before (wire i event)) ≡ Asked event
called i event before few lawful full =
    let page = kept_after_all before (wire i event) in
    let word = λ (n : ℕ). slice_index page.words n in
    let shown = stored_words (ghcb_of i) (event_row (kind_of_event event)) (registers_shown event) (bytes_shown event) in
    let msr : page.msr ≡ ghcb_of i = msr_after before shown (ghcb_of i) in
    let own : (ghcb_of i == ghcb_of i) ≡ true = eq-eqb (ghcb_of i) (ghcb_of i) refl in
    let asks : page_call i word ≡ Asked event = asked_event i event (λ n. slice_index before.words n) word lawful (after before (wire i event) full) in
    rw (msr, ghcb_read i few, own, asks) refl

-- the guest takes the reply that was left
taken : (i : ℕ) (event : Event) (page : Kept) (d : Devices) → IsLawfulEvent event → length page.words ≡ 512
    → outcome_on event (kept_after_all page (reply d i event)) ≡ outcome_to d i event
taken i (One access) page d lawful full =
    takes d i access lawful _ (λ n. slice_index page.words n) _ (after page (reply d i (One access)) full)
taken i (Many b) page d lawful full =
    taken_many d i b.port b.size b.count b.input b.rep b.bytes (λ n. slice_index page.words n) _ _ lawful (after page (reply d i (Many b)) full)

pub ends_agree : BothEndsAgree
ends_agree i event before d few lawful full =
    let shown = kept_after_all before (wire i event) in
    let asks : call_of i shown ≡ Asked event = called i event before few lawful full in
    let whole : length shown.words ≡ 512 = length-kept_after_all before (wire i event) ∙ full in
    let serves : served i shown d ≡ served_by i (Asked event) shown d = ap (λ (c : Call). served_by i c shown d) asks in
    record {
      call = asks;
      entries = ap (entries_by i) asks;
      devices = ap (λ (s : Served). s.devices) serves;
      outcome = subst (λ s. outcome_on event s.page ≡ outcome_to d i event) (sym serves) (taken i event shown d lawful whole);
      full = subst (λ s. length s.page.words ≡ 512) (sym serves) (length-kept_after_all shown (reply d i event) ∙ whole);
    }
