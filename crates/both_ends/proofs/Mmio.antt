-- An access to the page of devices, shown and taken.
use Rattle.std.proofs.lemmas.Bool.Decides.{nat_tests}
use Rattle.std.proofs.lemmas.List.{get_or-take}
use Rattle.std.proofs.Common.{◌≡◌, ℕ, zero, suc, ◌+◌, ◌*◌, ◌/◌, ◌%◌, ◌^◌, ◌<◌, ◌≤◌, ◌==◌, List, [], length, take, refl, ap, sym, ◌∙◌, arith, Bool, true, false, nat_le, pow-add, pow_pos}
use Rattle.std.specs.Prelude.{◌||◌, IsTrue}
use Rattle.image_file.specs.Number.{IsLength, number_at}
use Rattle.page_words.specs.Programs.{found}
use Rattle.page_words.proofs.Keeping.{word_after_all}
use Rattle.ghcb_layout.specs.Address.{ghcb_of}
use Rattle.exit_info.specs.declared.exit_code.ExitCode.TheVariants as code
use Rattle.event_table.specs.declared.access.Access.TheVariants as a
use Rattle.event_table.specs.declared.event.Event.TheVariants.{One}
use Rattle.event_table.specs.declared.row.Kind.TheVariants as k
use Rattle.event_table.specs.Elements.{bytes_of}
use Rattle.event_table.specs.Lawful.{IsInPage, IsLawfulAccess}
use Rattle.device_bus.specs.Devices.{Devices, answer, page_number}
use Rattle.string_io.proofs.Runs.{length-bytes_of}
use Rattle.string_io.proofs.Whole.{bytes_fit, number_drop}
use Rattle.vc_handler.specs.Wire.{wire}
use Rattle.vc_handler.specs.Accept as accept
use Rattle.vc_handler.specs.Accept.{accepting}
use Rattle.host_events.specs.Call.{Asked}
use Rattle.host_events.specs.Calls.{page_call}
use Rattle.host_events.specs.Reading.{buffer_in, is_in_page, is_length}
use Rattle.host_events.specs.Served.{reply}
use Rattle.both_ends.specs.BothEnds.{outcome_of}
use Rattle.both_ends.proofs.Bytes.{bytes_taken, values}
use Rattle.both_ends.proofs.Shown.{asked_buffered, buffer_back, shows}

-- an operand has at most eight bytes
few_by : (len : ℕ) (a b c d : Bool) → (len == 1) ≡ a → (len == 2) ≡ b → (len == 4) ≡ c → (len == 8) ≡ d → IsTrue (a || b || c || d) → len ≤ 8
few_by len true b c d one two four eight is = grind (arith, nat_tests, one)
few_by len false true c d one two four eight is = grind (arith, nat_tests, two)
few_by len false false true d one two four eight is = grind (arith, nat_tests, four)
few_by len false false false true one two four eight is = grind (arith, nat_tests, eight)
few_by len false false false false one two four eight is = absurd (cc)

eight_at_most : (len : ℕ) → IsLength len → len ≤ 8
eight_at_most len is = few_by len (len == 1) (len == 2) (len == 4) (len == 8) refl refl refl refl is

-- bytes in the page of devices are allowed
in_page_back : (at len : ℕ) → IsInPage at len → is_in_page at len ≡ true
in_page_back at len is =
    let length : is_length len ≡ true = is.0 in
    let from : nat_le 0xFEB00000 at ≡ true = grind (arith, nat_tests, is.1) in
    let to : nat_le (at + len) 0xFEB01000 ≡ true = grind (arith, nat_tests, is.2) in
    rw (length, from, to) refl

-- a number of so many of the first bytes
number_take : (n at m : ℕ) (bytes : List ℕ) → at + n ≤ m → number_at n at (take m bytes) ≡ number_at n at bytes
number_take zero at m bytes h = refl
number_take (suc n) at m bytes h =
    let here = get_or-take m bytes at 0 (omega arith) in
    rw (here, number_take n (at + 1) m bytes (omega arith)) refl

-- what is left of a number that fits, without its lowest byte
fits_rest : (n value : ℕ) → value < 2 ^ (8 * suc n) → value / 2 ^ 8 < 2 ^ (8 * n)
fits_rest n value fits =
    let eight : 8 * suc n ≡ 8 + 8 * n = omega arith in
    let more : 2 ^ (8 * suc n) ≡ 2 ^ 8 * 2 ^ (8 * n) = ap (λ k. 2 ^ k) eight ∙ pow-add 2 8 (8 * n) in
    omega (arith, more)

whole_again : (value rest : ℕ) → rest ≡ value / 2 ^ 8 → value % 2 ^ 8 + 2 ^ 8 * rest ≡ value
whole_again value rest is = omega arith

-- a number that fits so many bytes is read again from these
number_again : (n value : ℕ) → value < 2 ^ (8 * n) → number_at n 0 (bytes_of n value) ≡ value
number_again zero value fits = omega arith
number_again (suc n) value fits =
    whole_again value _ (sym (number_drop n 0 1 (bytes_of (suc n) value)) ∙ number_again n (value / 2 ^ 8) (fits_rest n value fits))

-- a page whose words are those that an MMIO read shows asks for that read
pub read_asked : (i at len : ℕ) (old word : ℕ → ℕ) → IsLawfulAccess (a.MmioRead at len) →
    ((n : ℕ) → n < 512 → word n ≡ word_after_all (wire i (One (a.MmioRead at len))) n (old n)) → page_call i word ≡ Asked (One (a.MmioRead at len))
read_asked i at len old word lawful is =
    let s = shows (ghcb_of i) code.MmioRead at len [] old word (omega arith) is in
    asked_buffered i code.MmioRead at len [] word (k.MmioRead at len) s refl refl refl (in_page_back at len lawful)

-- and one whose words are those that a write shows, with its value
pub write_asked : (i at len value : ℕ) (old word : ℕ → ℕ) → IsLawfulAccess (a.MmioWrite at len value) →
    ((n : ℕ) → n < 512 → word n ≡ word_after_all (wire i (One (a.MmioWrite at len value))) n (old n)) → page_call i word ≡ Asked (One (a.MmioWrite at len value))
write_asked i at len value old word lawful is =
    let bytes = bytes_of len value in
    let long : length bytes ≡ len = length-bytes_of len value in
    let few : length bytes ≤ 2032 = omega (arith, eight_at_most len lawful.0.0) in
    let s = shows (ghcb_of i) code.MmioWrite at len bytes old word few is in
    let taken : take len (buffer_in word) ≡ bytes =
    ap (λ n. take n (buffer_in word)) (sym long) ∙ buffer_back bytes word few (bytes_fit len value) s.buffer_is in
    let back : number_at len 0 (buffer_in word) ≡ value =
    sym (number_take len 0 len (buffer_in word) (omega arith)) ∙ ap (λ (bs : List ℕ). number_at len 0 bs) taken ∙ number_again len value lawful.1 in
    asked_buffered i code.MmioWrite at len bytes word (k.MmioWrite at len) s refl refl refl (in_page_back at len lawful.0)
    ∙ ap (λ v. Asked (One (a.MmioWrite at len v))) back

-- the number that comes back of a read is taken
pub read_taken : (d : Devices) (i at len : ℕ) → IsLawfulAccess (a.MmioRead at len) → (word old : ℕ → ℕ) (msr : ℕ) →
    ((n : ℕ) → n < 512 → word n ≡ word_after_all (reply d i (One (a.MmioRead at len))) n (old n)) →
    found (accepting (One (a.MmioRead at len))) word msr ≡ outcome_of (answer d i (a.MmioRead at len))
read_taken d i at len lawful word old msr is =
    let number = page_number d.page at len in
    let few : len ≤ 2032 = omega (arith, eight_at_most len lawful.0) in
    let fits : number < 2 ^ (8 * len) = omega (arith, pow_pos (8 * len)) in
    bytes_taken len (accept.access_done (a.MmioRead at len)) (bytes_of len number) old word msr (length-bytes_of len number) few (bytes_fit len number) is
    ∙ ap (λ x. accept.outcome_done (values x 0 0 0) []) (number_again len number fits)
