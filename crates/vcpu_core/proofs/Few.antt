-- How many items an event makes at most.
use Rattle.std.proofs.Common.{◌≡◌, ℕ, suc, ◌+◌, ◌*◌, ◌≤◌, Bool, true, false, List, [], ◌∷◌, ◌++◌, length, map, refl, ap, ◌∙◌, arith, length-append}
use Rattle.std.specs.Prelude.{if◌then◌else◌}
use Rattle.std.proofs.lemmas.Grind.{common_steps}
use Rattle.std.proofs.lemmas.List.{length-map}
use Rattle.page_words.specs.declared.item.Item.TheVariants.{Exit}
use Rattle.page_words.specs.Told.{store}
use Rattle.ghcb_layout.specs.Address.{ghcb_of}
use Rattle.ghcb_layout.specs.Bitmap.{word_if, low_bits, high_bits}
use Rattle.ghcb_layout.specs.declared.field.Field.{Field}
use Rattle.ghcb_layout.specs.declared.field.Field.TheVariants.{Cpl, Rax, Rcx, Rdx, Scratch, Xcr0}
use Rattle.image_file.specs.Number.{IsLength}
use Rattle.event_table.specs.declared.access.Access.{Access}
use Rattle.event_table.specs.declared.access.Access.TheVariants as access
use Rattle.event_table.specs.declared.event.Event.{Event}
use Rattle.event_table.specs.declared.event.Event.TheVariants.{One, Many}
use Rattle.event_table.specs.declared.row.Kind.TheVariants as kind
use Rattle.event_table.specs.Buffer.{buffer_of, numbered, words_for}
use Rattle.event_table.specs.Elements.{numbers_in}
use Rattle.event_table.specs.Lawful.{IsLawfulAccess, IsLawfulEvent}
use Rattle.event_table.specs.declared.row.Row.{Row}
use Rattle.event_table.specs.declared.row.Registers.{Registers}
use Rattle.event_table.specs.Rows.{bytes_back, event_row, kind_of, kind_of_event, shows_xcr0}
use Rattle.mmio_access.specs.Shared.{bytes_written}
use Rattle.string_io.proofs.Runs.{length-bytes_of}
use Rattle.string_io.proofs.Whole.{length-numbers_in}
use Rattle.vc_handler.specs.ReplyTable.{bytes_of_event}
use Rattle.vc_handler.specs.Wire.{bytes_shown, registers_shown, shown_words, stored_words, wire, wire_of}
use Rattle.vc_handler.proofs.Replying.{items_few}
use Rattle.vcpu_core.specs.Few.{FewItems}

one_given : (field : Field) (is : Bool) (value : ℕ) → length (word_if field is value) ≤ 1
one_given field true value = omega arith
one_given field false value = omega arith

-- the words that a row shows
few_shown : (ghcb : ℕ) (r : Row) (s : Registers) → length (shown_words ghcb r s) ≤ 9
few_shown ghcb r s =
    let xcr = word_if Xcr0 (shows_xcr0 r s.a) 1 in
    let scratch = word_if Scratch r.scratch (ghcb + 0x800) in
    let infos = (114, r.code) ∷ (115, r.info) ∷ (116, r.count) ∷ (scratch ++ xcr) in
    let d = word_if Rdx r.shows.d s.d in
    let c = word_if Rcx r.shows.c s.c in
    let a = word_if Rax r.shows.a s.a in
    let cpl = word_if Cpl r.shows.cpl 0 in
    omega (
      arith,
      length-append cpl (a ++ (c ++ (d ++ infos))),
      length-append a (c ++ (d ++ infos)),
      length-append c (d ++ infos),
      length-append d infos,
      length-append scratch xcr,
      one_given Cpl r.shows.cpl 0,
      one_given Rax r.shows.a s.a,
      one_given Rcx r.shows.c s.c,
      one_given Rdx r.shows.d s.d,
      one_given Scratch r.scratch (ghcb + 0x800),
      one_given Xcr0 (shows_xcr0 r s.a) 1,
    )

length-numbered : (number : ℕ) (words : List ℕ) → length (numbered number words) ≡ length words
length-numbered number [] = refl
length-numbered number (word ∷ words) = ap (λ n. suc n) (length-numbered (number + 1) words)

-- the words of bytes in the buffer
few_buffer : (bytes : List ℕ) → length (buffer_of bytes) ≡ words_for (length bytes)
few_buffer bytes =
    length-numbered 256 (numbers_in 8 (words_for (length bytes)) bytes) ∙ length-numbers_in 8 (words_for (length bytes)) bytes

-- all stores and the exit
few_made : (ghcb : ℕ) (r : Row) (s : Registers) (bytes : List ℕ) → length (wire_of ghcb r s bytes) ≤ 15 + words_for (length bytes)
few_made ghcb r s bytes =
    let last : List (ℕ × ℕ) = (126, low_bits (shown_words ghcb r s)) ∷ (127, high_bits (shown_words ghcb r s)) ∷ (511, 0x10000) ∷ [] in
    omega (
      arith,
      length-append (map store (stored_words ghcb r s bytes)) (Exit ghcb ∷ []),
      length-map (stored_words ghcb r s bytes) store,
      length-append (shown_words ghcb r s) (buffer_of bytes ++ last),
      length-append (buffer_of bytes) last,
      few_buffer bytes,
      few_shown ghcb r s,
    )

-- bytes go one way alone, and fit the buffer
few_back : (input rep : Bool) (port size count shown : ℕ) → count * size ≤ 2032 → shown ≡ (if input then 0 else count * size) →
    shown + bytes_back (if input then kind.Ins port size rep count else kind.Outs port size rep count) ≤ 2032
few_back true rep port size count shown few is = omega (arith, few, is)
few_back false rep port size count shown few is = omega (arith, few, is)

short : (len : ℕ) → IsLength len → len ≤ 8
short len is = grind (arith, common_steps)

-- and so does the number of an MMIO access
few_one : (a : Access) → IsLawfulAccess a → length (bytes_written a) + bytes_back (kind_of a) ≤ 2032
few_one (access.MmioRead at len) lawful = omega (arith, short len lawful.0)
few_one (access.MmioWrite at len value) lawful = omega (arith, short len lawful.0.0, length-bytes_of len value)
few_one _ lawful = omega arith

few_bytes : (event : Event) → IsLawfulEvent event → length (bytes_shown event) + bytes_of_event event ≤ 2032
few_bytes (One access) lawful = few_one access lawful
few_bytes (Many block) lawful = few_back block.input block.rep block.port block.size block.count (length block.bytes) lawful.count.1 lawful.bytes

pub few_items : FewItems
few_items i event outcome loads lawful follows =
    let shown = length (bytes_shown event) in
    let made : length (wire i event) ≤ 15 + words_for shown = few_made (ghcb_of i) (event_row (kind_of_event event)) (registers_shown event) (bytes_shown event) in
    let heard : length loads ≤ 7 + words_for (bytes_of_event event) = items_few event loads outcome follows in
    omega (arith, made, heard, few_bytes event lawful)
