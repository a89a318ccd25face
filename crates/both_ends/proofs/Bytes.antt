-- The bytes that come back in the shared buffer are taken.
use Rattle.std.proofs.lemmas.Bool.Decides.{nat_tests}
use Rattle.std.proofs.Common.{◌≡◌, ℕ, suc, ◌+◌, ◌*◌, ◌^◌, ◌<◌, ◌≤◌, ◌==◌, inl, List, [], ◌∷◌, ◌++◌, length, take, refl, ap, sym, ◌∙◌, arith, Bool, true, false, lit<, length-append}
use Rattle.std.specs.Prelude.{All, map, if◌then◌else◌}
use Rattle.page_words.specs.Programs.{Program, pure, loading, reading, found, ◌>>=◌}
use Rattle.page_words.specs.Told.{store}
use Rattle.page_words.proofs.Keeping.{word_after_all}
use Rattle.event_table.specs.declared.access.Access.{Access}
use Rattle.event_table.specs.declared.access.Values.{Values}
use Rattle.event_table.specs.declared.block.Block.{Block}
use Rattle.event_table.specs.declared.event.Event.TheVariants.{Many}
use Rattle.event_table.specs.declared.outcome.Outcome.{Outcome}
use Rattle.event_table.specs.declared.row.Results.{Results}
use Rattle.event_table.specs.Buffer.{bytes_from, numbered, words_for}
use Rattle.event_table.specs.Elements.{accesses_of, bytes_in, bytes_of, numbers_in}
use Rattle.event_table.specs.Lawful.{IsLawfulBlock}
use Rattle.event_table.specs.Places.{Number, Value, as_number}
use Rattle.event_table.specs.Rows.{block, results}
use Rattle.device_bus.specs.Devices.{Devices, after_access}
use Rattle.device_bus.specs.History.{bytes_to, values_to}
use Rattle.string_io.specs.Buffers.{loaded_bytes}
use Rattle.string_io.proofs.Runs.{length-bytes_of}
use Rattle.string_io.proofs.Whole.{all_bytes, length-numbers_in}
use Rattle.vc_handler.specs.Accept.{accepting_by}
use Rattle.vc_handler.specs.Accept as accept
use Rattle.host_events.specs.Reading.{words_on}
use Rattle.host_events.specs.Served.{buffer_reply}
use Rattle.both_ends.proofs.Again.{bytes_again, found_words, others_stay, stored_words}

abbrev pub values : ℕ → ℕ → ℕ → ℕ → Values
values a c d b = record { a = a; c = c; d = d; b = b }

-- the status is loaded first
pub by_status : (r : Results) (back : ℕ) (done : Values → List ℕ → Outcome) (word : ℕ → ℕ) (msr status : ℕ) → word 115 ≡ status →
    found (accepting_by r back done) word msr ≡ found (accept.by_status r back done status) word msr
unfolding ◌>>=◌
by_status r back done word msr status is = ap (λ s. found (accept.by_status r back done s) word msr) is

after_append : (xs ys : List (ℕ × ℕ)) (n before : ℕ) →
    word_after_all (map store (xs ++ ys)) n before ≡ word_after_all (map store ys) n (word_after_all (map store xs) n before)
after_append [] ys n before = refl
after_append (x ∷ xs) ys n before = after_append xs ys n (if x.0 == n then x.1 else before)

abbrev last : List (ℕ × ℕ)
last = (126, 0) ∷ (127, 0x0018000000000000) ∷ []

-- what is found of loads that lead on
found_bind : {X Y : Type 0} (p : Program X) (g : X → Program Y) (word : ℕ → ℕ) (msr : ℕ) → found (p >>= g) word msr ≡ found (g (found p word msr)) word msr
unfolding ◌>>=◌
found_bind (pure x) g word msr = refl
found_bind (loading n next) g word msr = found_bind (next (word n)) g word msr
found_bind (reading next) g word msr = found_bind (next msr) g word msr

-- the reply's bytes are taken
pub bytes_taken : (back : ℕ) (done : Values → List ℕ → Outcome) (bytes : List ℕ) (old word : ℕ → ℕ) (msr : ℕ) → length bytes ≡ back → back ≤ 2032 → All (λ byte. byte < 2 ^ 8) bytes →
    ((n : ℕ) → n < 512 → word n ≡ word_after_all (buffer_reply bytes) n (old n)) →
    found (accepting_by (results 0 0 0 0) back done) word msr ≡ done (values 0 0 0 0) bytes
unfolding ◌>>=◌
bytes_taken back done bytes old word msr long few all at =
    let words = numbers_in 8 (words_for (length bytes)) bytes in
    let size : length words ≡ words_for (length bytes) = length-numbers_in 8 (words_for (length bytes)) bytes in
    let most : words_for (length bytes) ≤ 254 = omega arith in
    let status : word 115 ≡ 0 = at 115 (lit< tt) ∙ after_append (numbered 256 words) last 115 0 ∙ others_stay words 256 115 0 (inl (lit< tt)) in
    let there : words_on word (words_for (length bytes)) 256 ≡ words =
    ap (λ n. words_on word n 256) (sym size)
    ∙ stored_words words 256 (λ n. word_after_all (map store ((115, 0) ∷ (116, 0) ∷ [])) n (old n)) word
    (λ j h.
    let a : (126 == 256 + j) ≡ false = grind (arith, nat_tests) in
    let b : (127 == 256 + j) ≡ false = grind (arith, nat_tests) in
    at (256 + j) (omega arith) ∙ after_append (numbered 256 words) last (256 + j) _ ∙ rw (a, b) refl) in
    let back_is : take back (bytes_from (words_on word (words_for back) 256)) ≡ bytes =
    ap (λ n. take n (bytes_from (words_on word (words_for n) 256))) (sym long) ∙ ap (λ (ws : List ℕ). take (length bytes) (bytes_from ws)) there ∙ bytes_again bytes all in
    by_status (results 0 0 0 0) back done word msr 0 status
    ∙ found_bind (loaded_bytes back) (λ bytes. pure (done (values 0 0 0 0) bytes)) word msr
    ∙ ap (λ (bytes : List ℕ). done (values 0 0 0 0) bytes)
    (found_words (words_for back) 256 (λ words. pure (take back (bytes_from words))) word msr ∙ back_is)

more_bytes : (x y size n : ℕ) → x ≡ size → y ≡ n * size → x + y ≡ suc n * size
more_bytes x y size n e f = grind arith

-- the bytes of an input have their length
length-bytes_in : (size : ℕ) (values : List Value) → length (bytes_in size values) ≡ length values * size
length-bytes_in size [] = grind arith
length-bytes_in size (value ∷ values) =
    let one : length (bytes_of size (as_number value)) ≡ size = length-bytes_of size (as_number value) in
    let rest : length (bytes_in size values) ≡ length values * size = length-bytes_in size values in
    length-append (bytes_of size (as_number value)) (bytes_in size values) ∙ more_bytes _ _ size (length values) one rest

length-map : {X Y : Type 0} (f : X → Y) (xs : List X) → length (map f xs) ≡ length xs
length-map f [] = refl
length-map f (x ∷ xs) = ap suc (length-map f xs)

length-values_to : (d : Devices) (i : ℕ) (them : List Access) → length (values_to d i them) ≡ length them
length-values_to d i [] = refl
length-values_to d i (a ∷ them) = ap suc (length-values_to (after_access d i a) i them)

-- how many bytes come back of an input, and that none come back of an output
abbrev back_of : Bool → ℕ → ℕ
back_of input bytes = if input then bytes else 0

pub block_taken : (d : Devices) (i port size count : ℕ) (input rep : Bool) (shown : List ℕ) (old word : ℕ → ℕ) (msr : ℕ) →
    let b = block port size input rep count shown in
    IsLawfulBlock b → ((n : ℕ) → n < 512 → word n ≡ word_after_all (buffer_reply (bytes_to d i b)) n (old n)) →
    found (accepting_by (results 0 0 0 0) (back_of input (count * size)) accept.outcome_done) word msr ≡ accept.outcome_done (values 0 0 0 0) (bytes_to d i b)
block_taken d i port size count true rep shown old word msr lawful at =
    let b : Block = block port size true rep count shown in
    let said = values_to d i (accesses_of (Many b)) in
    let many : length said ≡ count =
    length-values_to d i (accesses_of (Many b)) ∙ length-map _ (numbers_in size count shown) ∙ length-numbers_in size count shown in
    let long : length (bytes_to d i b) ≡ count * size =
    length-bytes_in size (map (λ x. Number x) said) ∙ ap (λ n. n * size) (length-map (λ x. Number x) said ∙ many) in
    bytes_taken (count * size) accept.outcome_done (bytes_to d i b) old word msr long lawful.count.1 (all_bytes size (map (λ x. Number x) said)) at
block_taken d i port size count false rep shown old word msr lawful at =
    bytes_taken 0 accept.outcome_done [] old word msr refl (omega arith) (λ k d h. absurd (omega arith)) at
