-- Bytes that were stored in the shared buffer are found there again.
use Rattle.std.proofs.lemmas.Grind.{common_steps, same_number_lists}
use Rattle.std.proofs.lemmas.Bool.Decides.{nat_tests}
use Rattle.std.proofs.lemmas.List.{get_or_append_left, get_or-append_right, get_or-take, get_or-drop}
use Rattle.std.proofs.Math.ListN.{get_or-eq_default}
use Rattle.std.proofs.Common.{◌≡◌, ℕ, zero, suc, ◌+◌, ◌-◌, ◌*◌, ◌/◌, ◌%◌, ◌^◌, ◌<◌, ◌≤◌, ◌==◌, ◌⊎◌, inl, inr, List, [], ◌∷◌, ◌++◌, length, drop, take, refl, ap, sym, ◌∙◌, subst, arith, Bool, true, false, nat_lt, slice_index, add-zero}
use Rattle.std.specs.Prelude.{All, map, if◌then◌else◌}
use Rattle.image_file.specs.Number.{number_at}
use Rattle.page_words.specs.Programs.{Program, found}
use Rattle.page_words.specs.Told.{store}
use Rattle.page_words.proofs.Keeping.{word_after_all}
use Rattle.event_table.specs.Buffer.{bytes_from, numbered, words_for}
use Rattle.event_table.specs.Elements.{bytes_of, numbers_in}
use Rattle.string_io.specs.Buffers.{loading_words}
use Rattle.host_events.specs.Reading.{words_on}
use Rattle.string_io.proofs.Whole.{length-numbers_in}

abbrev AreBytes : List ℕ → Type 0
AreBytes bytes = (k : ℕ) → slice_index bytes k < 2 ^ 8

low_byte : (b r : ℕ) → b < 2 ^ 8 → (b + 2 ^ 8 * r) % 2 ^ 8 ≡ b
low_byte b r h = omega arith

high_bytes : (b r : ℕ) → b < 2 ^ 8 → (b + 2 ^ 8 * r) / 2 ^ 8 ≡ r
high_bytes b r h = omega arith

-- a number's bytes are those that it was read from
index_of : (n j at : ℕ) (bytes : List ℕ) → AreBytes bytes → j < n → slice_index (bytes_of n (number_at n at bytes)) j ≡ slice_index bytes (at + j)
index_of zero j at bytes are h = absurd (omega arith)
index_of (suc n) zero at bytes are h =
    low_byte (slice_index bytes at) (number_at n (at + 1) bytes) (are at) ∙ ap (λ k. slice_index bytes k) (sym (add-zero at))
index_of (suc n) (suc j) at bytes are h =
    let next : at + 1 + j ≡ at + suc j = omega arith in
    ap (λ x. slice_index (bytes_of n x) j) (high_bytes (slice_index bytes at) (number_at n (at + 1) bytes) (are at))
    ∙ index_of n j (at + 1) bytes are (omega arith)
    ∙ ap (λ k. slice_index bytes k) next

pub length-bytes_from : (words : List ℕ) → length (bytes_from words) ≡ 8 * length words
length-bytes_from [] = refl
length-bytes_from (word ∷ words) = omega (arith, length-bytes_from words)

dropped : (bytes : List ℕ) → AreBytes bytes → AreBytes (drop 8 bytes)
dropped bytes are k = subst (λ b. b < 2 ^ 8) (sym (get_or-drop 8 bytes k 0)) (are (8 + k))

again_by : (t : Bool) (n j : ℕ) (bytes : List ℕ) → nat_lt j 8 ≡ t → AreBytes bytes → j < 8 * suc n
    → (j - 8 < 8 * n → slice_index (bytes_from (numbers_in 8 n (drop 8 bytes))) (j - 8) ≡ slice_index (drop 8 bytes) (j - 8))
    → slice_index (bytes_of 8 (number_at 8 0 bytes) ++ bytes_from (numbers_in 8 n (drop 8 bytes))) j ≡ slice_index bytes j
again_by true n j bytes is are h rest =
    let below : j < 8 = grind (arith, nat_tests) in
    let zeroth : 0 + j ≡ j = omega arith in
    get_or_append_left (bytes_of 8 (number_at 8 0 bytes)) (bytes_from (numbers_in 8 n (drop 8 bytes))) 0 j below ∙ index_of 8 j 0 bytes are below ∙ ap (λ k. slice_index bytes k) zeroth
again_by false n j bytes is are h rest =
    let above : 8 ≤ j = grind (arith, nat_tests) in
    let whole : 8 + (j - 8) ≡ j = omega arith in
    get_or-append_right (bytes_of 8 (number_at 8 0 bytes)) (bytes_from (numbers_in 8 n (drop 8 bytes))) 8 j 0 refl above
    ∙ rest (omega arith) ∙ get_or-drop 8 bytes (j - 8) 0 ∙ ap (λ k. slice_index bytes k) whole

again : (n j : ℕ) (bytes : List ℕ) → AreBytes bytes → j < 8 * n → slice_index (bytes_from (numbers_in 8 n bytes)) j ≡ slice_index bytes j
again zero j bytes are h = absurd (omega arith)
again (suc n) j bytes are h = again_by (nat_lt j 8) n j bytes refl are h (λ less. again n (j - 8) (drop 8 bytes) (dropped bytes are) less)

all_are : (t : Bool) (bytes : List ℕ) (k : ℕ) → nat_lt k (length bytes) ≡ t → All (λ byte. byte < 2 ^ 8) bytes → slice_index bytes k < 2 ^ 8
all_are true bytes k is all = all k 0 (grind (arith, nat_tests))
all_are false bytes k is all =
    let past : length bytes ≤ k = grind (arith, nat_tests) in
    subst (λ b. b < 2 ^ 8) (sym (get_or-eq_default bytes 0 past)) (omega arith)

-- the words of bytes have these bytes
pub bytes_again : (bytes : List ℕ) → All (λ byte. byte < 2 ^ 8) bytes → take (length bytes) (bytes_from (numbers_in 8 (words_for (length bytes)) bytes)) ≡ bytes
bytes_again bytes all =
    let n = words_for (length bytes) in
    let words = bytes_from (numbers_in 8 n bytes) in
    let room : length bytes ≤ 8 * n = omega arith in
    let long : length words ≡ 8 * n = length-bytes_from (numbers_in 8 n bytes) ∙ ap (λ k. 8 * k) (length-numbers_in 8 n bytes) in
    same_number_lists (take (length bytes) words) bytes (grind (arith, common_steps))
    (λ k h.
    let below : k < length bytes = grind (arith, common_steps) in
    get_or-take (length bytes) words k 0 below ∙ again n k bytes (λ k. all_are (nat_lt k (length bytes)) bytes k refl all) (omega arith))

-- what is loaded of a page that stands still
pub found_words : {X : Type 0} (n number : ℕ) (more : List ℕ → Program X) (word : ℕ → ℕ) (msr : ℕ) →
    found (loading_words n number more) word msr ≡ found (more (words_on word n number)) word msr
found_words zero number more word msr = refl
found_words (suc n) number more word msr = found_words n (number + 1) (λ words. more (word number ∷ words)) word msr

-- other words stay
pub others_stay : (words : List ℕ) (number n before : ℕ) → (n < number) ⊎ (number + length words ≤ n) → word_after_all (map store (numbered number words)) n before ≡ before
others_stay [] number n before other = refl
others_stay (word ∷ words) number n before (inl below) =
    let not_here : (number == n) ≡ false = grind (arith, nat_tests) in
    ap (λ b. word_after_all (map store (numbered (number + 1) words)) n (if b then word else before)) not_here ∙ others_stay words (number + 1) n before (inl (omega arith))
others_stay (word ∷ words) number n before (inr above) =
    let not_here : (number == n) ≡ false = grind (arith, nat_tests) in
    ap (λ b. word_after_all (map store (numbered (number + 1) words)) n (if b then word else before)) not_here ∙ others_stay words (number + 1) n before (inr (omega arith))

-- the words that were stored are there
pub stored_words : (words : List ℕ) (number : ℕ) (old word : ℕ → ℕ) → ((k : ℕ) → k < length words → word (number + k) ≡ word_after_all (map store (numbered number words)) (number + k) (old (number + k)))
    → words_on word (length words) number ≡ words
stored_words [] number old word at = refl
stored_words (w ∷ words) number old word at =
    let zeroth : number + 0 ≡ number = add-zero number in
    let here : (number == number) ≡ true = grind (arith, nat_tests) in
    let first : word number ≡ w =
    subst (λ n. word n ≡ word_after_all (map store (numbered number (w ∷ words))) n (old n)) zeroth (at 0 (omega arith))
    ∙ ap (λ b. word_after_all (map store (numbered (number + 1) words)) number (if b then w else old number)) here
    ∙ others_stay words (number + 1) number w (inl (omega arith)) in
    let rest = stored_words words (number + 1) (λ n. if number == n then w else old n) word
    (λ k h.
    let next : number + (k + 1) ≡ number + 1 + k = omega arith in
    subst (λ n. word n ≡ word_after_all (map store (numbered number (w ∷ words))) n (old n)) next (at (k + 1) (omega arith))) in
    rw (first, rest) refl
