-- An event with its data in the shared buffer that was shown is asked for.
use Rattle.std.proofs.lemmas.Bool.Decides.{nat_tests}
use Rattle.std.proofs.lemmas.Bool.{eq-eqb}
use Rattle.std.proofs.lemmas.List.{take-append-le}
use Rattle.std.proofs.Common.{◌≡◌, ℕ, zero, suc, ◌+◌, ◌-◌, ◌*◌, ◌/◌, ◌^◌, ◌<◌, ◌≤◌, ◌⊎◌, inl, inr, Bool, true, false, nat_le, Ok, Some, List, [], ◌∷◌, ◌++◌, length, take, refl, ap, sym, ◌∙◌, subst, arith, lit<, append_assoc}
use Rattle.std.specs.Prelude.{All, map, if◌then◌else◌, ◌==◌}
use Rattle.page_words.specs.declared.item.Item.{Item}
use Rattle.page_words.specs.declared.item.Item.TheVariants.{Exit}
use Rattle.page_words.specs.Told.{store}
use Rattle.page_words.proofs.Keeping.{word_after_all}
use Rattle.ghcb_layout.specs.Address.{ghcb_of}
use Rattle.exit_info.specs.declared.exit_code.ExitCode.{ExitCode}
use Rattle.exit_info.specs.declared.exit_code.ExitCode.TheVariants as code
use Rattle.exit_info.specs.ExitCode.{exit_code_of, number_of_code}
use Rattle.exit_info.specs.IoInfo.{info_word, info_of}
use Rattle.exit_info.proofs.Inverse.{info_of-word_of}
use Rattle.event_table.specs.declared.block.Block.{Block}
use Rattle.event_table.specs.declared.event.Event.{Event}
use Rattle.event_table.specs.declared.event.Event.TheVariants.{Many}
use Rattle.event_table.specs.declared.row.Kind.{Kind}
use Rattle.event_table.specs.declared.row.Kind.TheVariants as k
use Rattle.event_table.specs.declared.row.Row.{Row}
use Rattle.event_table.specs.Buffer.{bytes_from, numbered, words_for}
use Rattle.event_table.specs.Elements.{bytes_of, numbers_in}
use Rattle.event_table.specs.Lawful.{IsCount, IsLawfulBlock, IsSize}
use Rattle.event_table.specs.Rows.{block, buffer_row, event_row, registers, string_io_of}
use Rattle.string_io.proofs.Whole.{length-numbers_in}
use Rattle.vc_handler.specs.Wire.{wire_of}
use Rattle.host_events.specs.Call.{Asked}
use Rattle.host_events.specs.Calls.{page_call}
use Rattle.host_events.specs.Reading.{buffer_in, event_in, is_allowed, has_scratch, has_shown, io_kind, is_count, is_event, kind_by, names_buffer, words_on}
use Rattle.both_ends.proofs.Again.{bytes_again, others_stay, stored_words, length-bytes_from}
use Rattle.both_ends.proofs.Back.{asked_at, bits, size_back, size_bits}

-- items after the words of a buffer
after_buffer : (words : List ℕ) (number n before : ℕ) (ending : List (ℕ × ℕ)) (last : List Item) →
    word_after_all (map store (numbered number words ++ ending) ++ last) n before
    ≡ word_after_all (map store ending ++ last) n (word_after_all (map store (numbered number words)) n before)
after_buffer [] number n before ending last = refl
after_buffer (word ∷ words) number n before ending last = after_buffer words (number + 1) n (if number == n then word else before) ending last

abbrev Outside : ℕ → List ℕ → Type 0
Outside n words = (n < 256) ⊎ (256 + length words ≤ n)

passes : (words : List ℕ) (n before : ℕ) (ending : List (ℕ × ℕ)) (last : List Item) → Outside n words →
    word_after_all (map store (numbered 256 words ++ ending) ++ last) n before ≡ word_after_all (map store ending ++ last) n before
passes words n before ending last other =
    after_buffer words 256 n before ending last ∙ ap (λ v. word_after_all (map store ending ++ last) n v) (others_stay words 256 n before other)

-- a page whose words are those that a row with a buffer leaves
abbrev pub IsShown : ℕ → ExitCode → ℕ → ℕ → List ℕ → (ℕ → ℕ) → (ℕ → ℕ) → Type 0
IsShown ghcb code info count bytes old word =
    (n : ℕ) → n < 512 → word n ≡ word_after_all (wire_of ghcb (buffer_row code info count) (registers 0 0 0) bytes) n (old n)

-- the words of the rules
pub record Shows (ghcb : ℕ) (code : ExitCode) (info count : ℕ) (bytes : List ℕ) (word : ℕ → ℕ) : Type 0 where
  code_is : word 114 ≡ number_of_code code
  info_is : word 115 ≡ info
  count_is : word 116 ≡ count
  scratch_is : word 117 ≡ ghcb + 0x800
  low_is : word 126 ≡ 0
  high_is : word 127 ≡ 0x003C000000000000
  last_is : word 511 ≡ 0x10000
  pub buffer_is : words_on word (words_for (length bytes)) 256 ≡ numbers_in 8 (words_for (length bytes)) bytes

abbrev ending : List (ℕ × ℕ)
ending = (126, 0) ∷ (127, 0x003C000000000000) ∷ (511, 0x10000) ∷ []

few_words : (bytes : List ℕ) → length bytes ≤ 2032 → words_for (length bytes) ≤ 254
few_words bytes few = omega arith

-- the words of the buffer aren't touched afterwards
in_buffer : (ghcb n before : ℕ) → 256 ≤ n → n < 511 → word_after_all (map store ending ++ Exit ghcb ∷ []) n before ≡ before
in_buffer ghcb n before above below =
    let a : (126 == n) ≡ false = grind (arith, nat_tests) in
    let b : (127 == n) ≡ false = grind (arith, nat_tests) in
    let c : (511 == n) ≡ false = grind (arith, nat_tests) in
    rw (a, b, c) refl

pub shows : (ghcb : ℕ) (code : ExitCode) (info count : ℕ) (bytes : List ℕ) (old word : ℕ → ℕ) → length bytes ≤ 2032 →
    IsShown ghcb code info count bytes old word → Shows ghcb code info count bytes word
shows ghcb code info count bytes old word few at =
    let words = numbers_in 8 (words_for (length bytes)) bytes in
    let last = Exit ghcb ∷ [] in
    let long : length words ≡ words_for (length bytes) = length-numbers_in 8 (words_for (length bytes)) bytes in
    let most : words_for (length bytes) ≤ 254 = few_words bytes few in
    record {
      code_is = at 114 (lit< tt) ∙ passes words 114 (number_of_code code) ending last (inl (lit< tt));
      info_is = at 115 (lit< tt) ∙ passes words 115 info ending last (inl (lit< tt));
      count_is = at 116 (lit< tt) ∙ passes words 116 count ending last (inl (lit< tt));
      scratch_is = at 117 (lit< tt) ∙ passes words 117 (ghcb + 0x800) ending last (inl (lit< tt));
      low_is = at 126 (lit< tt) ∙ passes words 126 0 ending last (inl (lit< tt));
      high_is = at 127 (lit< tt) ∙ passes words 127 0 ending last (inl (lit< tt));
      last_is = at 511 (lit< tt) ∙ passes words 511 (old 511) ending last (inr (omega arith));
      buffer_is =
          ap (λ n. words_on word n 256) (sym long)
          ∙ stored_words words 256 (λ n. word_after_all (map store ((126, 0) ∷ (127, 0) ∷ (114, number_of_code code) ∷ (115, info) ∷ (116, count) ∷ (117, ghcb + 0x800) ∷ [])) n (old n)) word
          (λ j h.
          let below : 256 + j < 511 = omega arith in
          at (256 + j) (omega arith)
          ∙ after_buffer words 256 (256 + j) _ ending last
          ∙ in_buffer ghcb (256 + j) _ (omega arith) below);
    }

-- the words of a buffer that so many bytes need are the first of it
words_split : (a k b s : ℕ) (word : ℕ → ℕ) → k ≡ a + b → words_on word k s ≡ words_on word a s ++ words_on word b (s + a)
words_split zero k b s word e =
    let all : k ≡ b = omega arith in
    let at : s ≡ s + 0 = omega arith in
    ap (λ k. words_on word k s) all ∙ ap (λ s. words_on word b s) at
words_split (suc a) k b s word e =
    let more : k ≡ suc (a + b) = omega arith in
    let next : s + 1 + a ≡ s + suc a = omega arith in
    ap (λ k. words_on word k s) more
    ∙ ap (λ (ws : List ℕ). word s ∷ ws) (words_split a (a + b) b (s + 1) word refl ∙ ap (λ n. words_on word a (s + 1) ++ words_on word b n) next)

bytes_append : (xs ys : List ℕ) → bytes_from (xs ++ ys) ≡ bytes_from xs ++ bytes_from ys
bytes_append [] ys = refl
bytes_append (x ∷ xs) ys = rw (bytes_append xs ys) (sym (append_assoc (bytes_of 8 x) (bytes_from xs) (bytes_from ys)))

length-words_on : (word : ℕ → ℕ) (n s : ℕ) → length (words_on word n s) ≡ n
length-words_on word zero s = refl
length-words_on word (suc n) s = ap suc (length-words_on word n (s + 1))

-- the bytes of a buffer are those that were shown there
pub buffer_back : (bytes : List ℕ) (word : ℕ → ℕ) → length bytes ≤ 2032 → All (λ byte. byte < 2 ^ 8) bytes →
    words_on word (words_for (length bytes)) 256 ≡ numbers_in 8 (words_for (length bytes)) bytes → take (length bytes) (buffer_in word) ≡ bytes
buffer_back bytes word few all is =
    let n = words_for (length bytes) in
    let rest = 254 - n in
    let split : 254 ≡ n + rest = omega (arith, few_words bytes few) in
    let first = bytes_from (words_on word n 256) in
    let long : length first ≡ 8 * n = length-bytes_from (words_on word n 256) ∙ ap (λ k. 8 * k) (length-words_on word n 256) in
    let room : length bytes ≤ length first = omega arith in
    ap (λ (ws : List ℕ). take (length bytes) (bytes_from ws)) (words_split n 254 rest 256 word split)
    ∙ ap (λ (bs : List ℕ). take (length bytes) bs) (bytes_append (words_on word n 256) (words_on word rest (256 + n)))
    ∙ take-append-le (length bytes) first (bytes_from (words_on word rest (256 + n))) room
    ∙ ap (λ (ws : List ℕ). take (length bytes) (bytes_from ws)) is
    ∙ bytes_again bytes all

few_segments : (input : Bool) → (if input then 0 else 3) < 8
few_segments true = lit< tt
few_segments false = lit< tt

-- string I/O, back from its info
info_back : (port size : ℕ) (rep input : Bool) → port < 2 ^ 16 → IsSize size →
    info_of (info_word (string_io_of port size rep input)) ≡ Ok (string_io_of port size rep input)
info_back port size rep input fits is =
    info_of-word_of (string_io_of port size rep input) (record { size = size_bits size is; address = inr (inr refl); segment = few_segments input; port = fits })

-- a count that fits the shared buffer
le_room : (size count : ℕ) → IsSize size → count * size ≤ 2032 → nat_le count (2032 / size) ≡ true
le_room size count (inl one) h = subst (λ n. count * n ≤ 2032 → nat_le count (2032 / n) ≡ true) (sym one) (λ h. grind (arith, nat_tests)) h
le_room size count (inr (inl two)) h = subst (λ n. count * n ≤ 2032 → nat_le count (2032 / n) ≡ true) (sym two) (λ h. grind (arith, nat_tests)) h
le_room size count (inr (inr four)) h = subst (λ n. count * n ≤ 2032 → nat_le count (2032 / n) ≡ true) (sym four) (λ h. grind (arith, nat_tests)) h

counted : (size count : ℕ) (rep : Bool) → IsSize size → IsCount size rep count → is_count size rep count ≡ true
counted size count true is c =
    let one : nat_le 1 count ≡ true = grind (arith, nat_tests, c.0) in
    let most : nat_le count (2032 / size) ≡ true = le_room size count is c.1 in
    rw (one, most) refl
counted size count false is c =
    let lone : count ≡ 1 = c.2 refl in
    let most : nat_le count (2032 / size) ≡ true = le_room size count is c.1 in
    let one : nat_le 1 count ≡ true = grind (arith, nat_tests, c.0) in
    let just : (count == 1) ≡ true = eq-eqb count 1 lone in
    rw (one, most, just) refl

-- string I/O, by whether it is input
abbrev kind_of_string : Bool → ℕ → ℕ → Bool → ℕ → Kind
kind_of_string input port size rep count = if input then k.Ins port size rep count else k.Outs port size rep count

string_kind : (input : Bool) (port size : ℕ) (rep : Bool) (count : ℕ) → IsSize size →
    io_kind (Ok (string_io_of port size rep input)) count ≡ Some (kind_of_string input port size rep count)
string_kind true port size rep count is = ap (λ n. Some (k.Ins port n rep count)) (size_back size is)
string_kind false port size rep count is = ap (λ n. Some (k.Outs port n rep count)) (size_back size is)

string_row : (input : Bool) (port size : ℕ) (rep : Bool) (count : ℕ) →
    event_row (kind_of_string input port size rep count) ≡ buffer_row code.Io (info_word (string_io_of port size rep input)) count
string_row true port size rep count = refl
string_row false port size rep count = refl

string_count : (input : Bool) (port size : ℕ) (rep : Bool) (count : ℕ) → is_allowed (kind_of_string input port size rep count) ≡ is_count size rep count
string_count true port size rep count = refl
string_count false port size rep count = refl

few_bytes : (input : Bool) (long all : ℕ) → long ≡ (if input then 0 else all) → all ≤ 2032 → long ≤ 2032
few_bytes true long all is few = omega arith
few_bytes false long all is few = omega arith

-- a page whose words are those that a row with a buffer leaves asks for the event of the row's kind
pub asked_buffered : (i : ℕ) (code : ExitCode) (info count : ℕ) (bytes : List ℕ) (word : ℕ → ℕ) (kind : Kind) →
    Shows (ghcb_of i) code info count bytes word → event_row kind ≡ buffer_row code info count →
    is_event (exit_code_of (number_of_code code)) ≡ true → kind_by (exit_code_of (number_of_code code)) info count ≡ Some kind →
    is_allowed kind ≡ true → page_call i word ≡ Asked (event_in word kind)
asked_buffered i code info count bytes word kind s is event named counts =
    let bitmap = bits 0 0x003C000000000000 in
    asked_at i word kind 0 0x003C000000000000 s.last_is s.low_is s.high_is refl (rw s.code_is event)
    (rw (s.code_is, s.info_is, s.count_is) named)
    (ap (λ (r : Row). has_shown r (word 63) bitmap) is)
    (ap (λ (r : Row). has_scratch r bitmap) is)
    (ap (λ (r : Row). names_buffer i r (word 117)) is ∙ eq-eqb (word 117) (ghcb_of i + 0x800) s.scratch_is)
    counts

-- a page whose words are those that a block shows asks for an event of its kind
string_asked : (i : ℕ) (b : Block) (word : ℕ → ℕ) → IsLawfulBlock b →
    Shows (ghcb_of i) code.Io (info_word (string_io_of b.port b.size b.rep b.input)) b.count b.bytes word →
    page_call i word ≡ Asked (event_in word (kind_of_string b.input b.port b.size b.rep b.count))
string_asked i b word lawful s =
    let kind = kind_of_string b.input b.port b.size b.rep b.count in
    let info = info_word (string_io_of b.port b.size b.rep b.input) in
    let named : kind_by (exit_code_of 0x7B) info b.count ≡ Some kind =
    ap (λ info. io_kind info b.count) (info_back b.port b.size b.rep b.input lawful.port lawful.size)
    ∙ string_kind b.input b.port b.size b.rep b.count lawful.size in
    asked_buffered i code.Io info b.count b.bytes word kind s (string_row b.input b.port b.size b.rep b.count) refl named
    (string_count b.input b.port b.size b.rep b.count ∙ counted b.size b.count b.rep lawful.size lawful.count)

empty : (bytes : List ℕ) → length bytes ≡ 0 → bytes ≡ []
empty [] h = refl
empty (b ∷ bytes) h = absurd (omega arith)

-- and the event is the block
string_back : (port size count : ℕ) (input rep : Bool) (bytes : List ℕ) (word : ℕ → ℕ) →
    length bytes ≡ (if input then 0 else count * size) → take (length bytes) (buffer_in word) ≡ bytes →
    event_in word (kind_of_string input port size rep count) ≡ Many (block port size input rep count bytes)
string_back port size count true rep bytes word long back =
    ap (λ (bs : List ℕ). Many (block port size true rep count bs)) (sym (empty bytes long))
string_back port size count false rep bytes word long back =
    ap (λ (bs : List ℕ). Many (block port size false rep count bs)) (ap (λ n. take n (buffer_in word)) (sym long) ∙ back)

-- a page whose words are those that a block shows asks for that block
pub block_asked : (i port size count : ℕ) (input rep : Bool) (bytes : List ℕ) (old word : ℕ → ℕ) → IsLawfulBlock (block port size input rep count bytes) →
    IsShown (ghcb_of i) code.Io (info_word (string_io_of port size rep input)) count bytes old word →
    page_call i word ≡ Asked (Many (block port size input rep count bytes))
block_asked i port size count input rep bytes old word lawful at =
    let few : length bytes ≤ 2032 = few_bytes input (length bytes) (count * size) lawful.bytes lawful.count.1 in
    let s = shows (ghcb_of i) code.Io (info_word (string_io_of port size rep input)) count bytes old word few at in
    string_asked i (block port size input rep count bytes) word lawful s
    ∙ ap (λ (e : Event). Asked e) (string_back port size count input rep bytes word lawful.bytes (buffer_back bytes word few lawful.fits s.buffer_is))
