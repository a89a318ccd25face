-- The acceptance of a reply, case by case.
use Rattle.std.proofs.Common.{◌≡◌, ℕ, zero, suc, ◌+◌, ◌≤◌, Bool, true, false, List, [], ◌∷◌, ◌++◌, length, Result, refl, sym, ap, ◌∙◌, subst, arith, rules, append-nil, length-append}
use Rattle.std.proofs.lemmas.Grind.{common_steps}
use Rattle.std.proofs.lemmas.Bool.Decides.{nat_tests}
use Rattle.std.proofs.lemmas.List.{drop-drop}
use Rattle.std.proofs.lemmas.List.Folds.{list_all-append}
use Rattle.std.proofs.Math.Bool.{and-true, and_assoc}
use Rattle.std.specs.Prelude.{◌==◌, ◌<◌, ◌&&◌, ◌||◌, not, if◌then◌else◌, drop, take, slice_index, nat_eq, nat_le, nat_lt}
use Rattle.std.specs.List.{AllByRecursion, IsDistinct, list_all}
use Rattle.page_words.specs.declared.item.Item.{Item}
use Rattle.page_words.specs.declared.item.Item.TheVariants.{Load}
use Rattle.page_words.specs.Programs.{Program, pure, ◌>>=◌}
use Rattle.page_words.specs.Dialogue.{Follows, Taken, first, listen, loads_of, over, answered_by, values_of}
use Rattle.page_words.proofs.Dialogues.{left_after, begins_self, goes_taken}
use Rattle.ghcb_layout.specs.declared.bitmap.Bitmap.{Bitmap}
use Rattle.ghcb_layout.specs.Bitmap.{has_bit}
use Rattle.exit_info.specs.declared.inject.Inject.{Inject}
use Rattle.exit_info.specs.declared.inject.BadInject.{BadInject}
use Rattle.exit_info.specs.Inject.{request_of}
use Rattle.event_table.specs.declared.end.Reason.TheVariants.{BadStatus}
use Rattle.event_table.specs.declared.event.Event.{Event}
use Rattle.event_table.specs.declared.outcome.Outcome.{Outcome}
use Rattle.event_table.specs.declared.outcome.Outcome.TheVariants.{Terminate}
use Rattle.event_table.specs.declared.row.Results.{Results}
use Rattle.event_table.specs.declared.access.Values.{Values}
use Rattle.event_table.specs.Buffer.{bytes_from, words_for}
use Rattle.string_io.specs.Buffers.{loaded_bytes, loading_words}
use Rattle.vc_handler.specs.Accept.{accepting, accepting_by, event_done, loaded_exception, has_all, load_if, outcome_requested, loaded_results, results_by, loaded_values}
use Rattle.vc_handler.specs.ReplyTable as reply
use Rattle.vc_handler.specs.ReplyTable.{bitmap_loaded, bitmap_words, buffer_loaded, bytes_of_event, count_from, loads, number_if, result_words, results_of_event, status_of, taken_by, value_loaded, values_loaded}

-- what a program comes to on these words
abbrev of : Program Outcome → List ℕ → Taken Outcome
of p words = answered_by (listen p (λ o. over o)) words

-- loads before others
abbrev before : List Item → Taken Outcome → Taken Outcome
before items t = record { items = items ++ t.items; value = t.value; rest = t.rest }

-- the words that are left, one after another
abbrev stepped : List ℕ → (List Item → Outcome) → List ℕ → Taken Outcome
stepped numbers outcome words = record { items = loads numbers words; value = outcome (loads numbers words); rest = left_after numbers words }

left_drop : (numbers words : List ℕ) → left_after numbers words ≡ drop (length numbers) words
left_drop [] words = refl
left_drop (number ∷ numbers) words =
    let next : 1 + length numbers ≡ length (number ∷ numbers) = omega arith in
    left_drop numbers (drop 1 words) ∙ drop-drop (length numbers) 1 words ∙ ap (λ n. drop n words) next

dropped : (numbers : List ℕ) (outcome : List Item → Outcome) (words : List ℕ) → stepped numbers outcome words ≡ taken_by numbers outcome words
dropped numbers outcome words =
    ap (λ (rest : List ℕ). record { items = loads numbers words; value = outcome (loads numbers words); rest = rest }) (left_drop numbers words)

second : (words : List ℕ) → slice_index (drop 1 words) 0 ≡ slice_index words 1
second [] = refl
second (word ∷ words) = refl

-- by a test that is decided
of_true : (b : Bool) (p q : Program Outcome) (words : List ℕ) → b ≡ true → of (if b then p else q) words ≡ of p words
of_true b p q words is = ap (λ (x : Bool). of (if x then p else q) words) is

of_false : (b : Bool) (p q : Program Outcome) (words : List ℕ) → b ≡ false → of (if b then p else q) words ≡ of q words
of_false b p q words is = ap (λ (x : Bool). of (if x then p else q) words) is

-- the status, and what comes by it
status_by : (r : Results) (count : ℕ) (done : Values → List ℕ → Outcome) (words : List ℕ) (t : Taken Outcome) →
    of (if status_of words == 0 then loaded_results r count done else if status_of words == 1 then loaded_exception else pure (Terminate (BadStatus (slice_index words 0)))) (drop 1 words) ≡ t →
    of (accepting_by r count done) words ≡ first (Load 115 (slice_index words 0)) t
unfolding listen ◌>>=◌
status_by r count done words t is = ap (λ (x : Taken Outcome). first (Load 115 (slice_index words 0)) x) is

-- the words of the bitmap, and what comes with them
bitmap_by : (low high : Bool) (k : Bitmap → Program Outcome) (words : List ℕ) →
    of ((load_if low 126 >>= (λ l. load_if high 127 >>= (λ h. pure (record { low = l; high = h })))) >>= k) words
    ≡ before (loads (number_if low 126 ++ number_if high 127) words)
    (of (k (bitmap_loaded (loads (number_if low 126 ++ number_if high 127) words))) (left_after (number_if low 126 ++ number_if high 127) words))
unfolding listen ◌>>=◌
bitmap_by true true k words = refl
bitmap_by true false k words = refl
bitmap_by false true k words = refl
bitmap_by false false k words = refl

-- the bits of the results
bit_by : (wanted : Bool) (number : ℕ) (b : Bitmap) → list_all (λ n. has_bit b n) (number_if wanted number) ≡ (not wanted || has_bit b number)
bit_by true number b = and-true (has_bit b number)
bit_by false number b = refl

bits_by : (r : Results) (b : Bitmap) → list_all (λ n. has_bit b n) (result_words r) ≡ has_all r b
bits_by r b =
    let has = λ (n : ℕ). has_bit b n in
    let d_b : list_all has (number_if r.d 98 ++ number_if r.b 99) ≡ ((not r.d || has_bit b 98) && (not r.b || has_bit b 99)) =
    list_all-append has (number_if r.d 98) (number_if r.b 99)
    ∙ ap (λ x. x && list_all has (number_if r.b 99)) (bit_by r.d 98 b) ∙ ap (λ x. (not r.d || has_bit b 98) && x) (bit_by r.b 99 b) in
    list_all-append has (number_if r.a 63) (number_if r.c 97 ++ (number_if r.d 98 ++ number_if r.b 99))
    ∙ ap (λ x. list_all has (number_if r.a 63) && x) (list_all-append has (number_if r.c 97) (number_if r.d 98 ++ number_if r.b 99))
    ∙ ap (λ x. x && (list_all has (number_if r.c 97) && list_all has (number_if r.d 98 ++ number_if r.b 99))) (bit_by r.a 63 b)
    ∙ ap (λ x. (not r.a || has_bit b 63) && (x && list_all has (number_if r.d 98 ++ number_if r.b 99))) (bit_by r.c 97 b)
    ∙ ap (λ x. (not r.a || has_bit b 63) && ((not r.c || has_bit b 97) && x)) d_b
    ∙ sym (and_assoc (not r.a || has_bit b 63) (not r.c || has_bit b 97) ((not r.d || has_bit b 98) && (not r.b || has_bit b 99)))
    ∙ sym (and_assoc ((not r.a || has_bit b 63) && (not r.c || has_bit b 97)) (not r.d || has_bit b 98) (not r.b || has_bit b 99))

-- the results, and what they come to
abbrev results_if : Bool → Bool → Bool → Bool → Results
results_if a c d b = record { a = a; c = c; d = d; b = b }

abbrev ended : Results → List ℕ → Taken Outcome → Taken Outcome
ended r words t = first (Load 115 (slice_index words 0)) (before (loads (bitmap_words r) (drop 1 words)) t)

-- SW_EXITINFO1, the bitmap and the results
abbrev up_to_results : Results → List ℕ
up_to_results r = 115 ∷ bitmap_words r ++ result_words r

values_all : (a c d b : Bool) (k : Values → Program Outcome) (words : List ℕ) → let r = results_if a c d b in
    ended r words (of (loaded_values r >>= k) (left_after (bitmap_words r) (drop 1 words)))
    ≡ before (loads (up_to_results r) words) (of (k (values_loaded (loads (up_to_results r) words))) (left_after (up_to_results r) words))
unfolding listen ◌>>=◌
values_all true true true true k words = refl
values_all true true true false k words = refl
values_all true true false true k words = refl
values_all true true false false k words = refl
values_all true false true true k words = refl
values_all true false true false k words = refl
values_all true false false true k words = refl
values_all true false false false k words = refl
values_all false true true true k words = refl
values_all false true true false k words = refl
values_all false true false true k words = refl
values_all false true false false k words = refl
values_all false false true true k words = refl
values_all false false true false k words = refl
values_all false false false true k words = refl
values_all false false false false k words = refl

-- the words of the buffer, and what comes with them
abbrev words_heard : ℕ → List ℕ → List ℕ
words_heard zero words = []
words_heard (suc n) words = slice_index words 0 ∷ words_heard n (drop 1 words)

bytes_by : (n number : ℕ) (more : List ℕ → Program (List ℕ)) (g : List ℕ → Program Outcome) (words : List ℕ) →
    of (loading_words n number more >>= g) words
    ≡ before (loads (count_from number n) words) (of (more (words_heard n words) >>= g) (left_after (count_from number n) words))
unfolding listen ◌>>=◌
bytes_by zero number more g words = refl
bytes_by (suc n) number more g words =
    ap (λ (t : Taken Outcome). first (Load number (slice_index words 0)) t) (bytes_by n (number + 1) (λ ws. more (slice_index words 0 ∷ ws)) g (drop 1 words))

loads_append : (ns ms words : List ℕ) → loads (ns ++ ms) words ≡ loads ns words ++ loads ms (left_after ns words)
loads_append [] ms words = refl
loads_append (n ∷ ns) ms words = ap (λ (items : List Item). Load n (slice_index words 0) ∷ items) (loads_append ns ms (drop 1 words))

left_append : (ns ms words : List ℕ) → left_after (ns ++ ms) words ≡ left_after ms (left_after ns words)
left_append [] ms words = refl
left_append (n ∷ ns) ms words = left_append ns ms (drop 1 words)

-- a word below the buffer isn't one of the buffer's
value_none : (number from n : ℕ) (words : List ℕ) → number < from → value_loaded number (loads (count_from from n) words) ≡ 0
value_none number from zero words less = refl
value_none number from (suc n) words less =
    let other : (from == number) ≡ false = grind (arith, nat_tests) in
    ap (λ b. if b then slice_index words 0 else value_loaded number (loads (count_from (from + 1) n) (drop 1 words))) other
    ∙ value_none number (from + 1) n (drop 1 words) (omega arith)

value_before : (number from n : ℕ) (ns words : List ℕ) → number < from → value_loaded number (loads (ns ++ count_from from n) words) ≡ value_loaded number (loads ns words)
value_before number from n [] words less = value_none number from n words less
value_before number from n (x ∷ ns) words less =
    ap (λ v. if x == number then slice_index words 0 else v) (value_before number from n ns (drop 1 words) less)

values_before : (n : ℕ) (ns words : List ℕ) → values_loaded (loads (ns ++ count_from 256 n) words) ≡ values_loaded (loads ns words)
values_before n ns words =
    rw (value_before 63 256 n ns words (omega arith), value_before 97 256 n ns words (omega arith), value_before 98 256 n ns words (omega arith), value_before 99 256 n ns words (omega arith)) refl

heard_loaded : (from n : ℕ) (words : List ℕ) → 256 ≤ from → buffer_loaded (loads (count_from from n) words) ≡ words_heard n words
heard_loaded from zero words above = refl
heard_loaded from (suc n) words above =
    let in_buffer : nat_le 256 from ≡ true = grind (arith, nat_tests) in
    let rest = buffer_loaded (loads (count_from (from + 1) n) (drop 1 words)) in
    ap (λ b. if b then slice_index words 0 ∷ rest else rest) in_buffer
    ∙ ap (λ (ws : List ℕ). slice_index words 0 ∷ ws) (heard_loaded (from + 1) n (drop 1 words) (omega arith))

buffer_all : (a c d b : Bool) (ms words : List ℕ) → let ns = up_to_results (results_if a c d b) in
    buffer_loaded (loads (ns ++ ms) words) ≡ buffer_loaded (loads ms (left_after ns words))
buffer_all true true true true ms words = refl
buffer_all true true true false ms words = refl
buffer_all true true false true ms words = refl
buffer_all true true false false ms words = refl
buffer_all true false true true ms words = refl
buffer_all true false true false ms words = refl
buffer_all true false false true ms words = refl
buffer_all true false false false ms words = refl
buffer_all false true true true ms words = refl
buffer_all false true true false ms words = refl
buffer_all false true false true ms words = refl
buffer_all false true false false ms words = refl
buffer_all false false true true ms words = refl
buffer_all false false true false ms words = refl
buffer_all false false false true ms words = refl
buffer_all false false false false ms words = refl

-- what the results and the bytes come to, over all that was loaded
done_with : (r : Results) (count : ℕ) (done : Values → List ℕ → Outcome) (n : ℕ) (words : List ℕ) → let ns = up_to_results r in
    done (values_loaded (loads ns words)) (take count (bytes_from (words_heard n (left_after ns words))))
    ≡ reply.results_with count done (loads (ns ++ count_from 256 n) words)
done_with r count done n words =
    let ns = up_to_results r in
    let heard = buffer_all r.a r.c r.d r.b (count_from 256 n) words ∙ heard_loaded 256 n (left_after ns words) (omega arith) in
    ap (λ (v : Values). done v (take count (bytes_from (words_heard n (left_after ns words))))) (sym (values_before n ns words))
    ∙ ap (λ (ws : List ℕ). done (values_loaded (loads (ns ++ count_from 256 n) words)) (take count (bytes_from ws))) (sym heard)

abbrev taken : List Item → Outcome → List ℕ → Taken Outcome
taken items outcome rest = record { items = items; value = outcome; rest = rest }

done_tail : (r : Results) (count : ℕ) (done : Values → List ℕ → Outcome) (words : List ℕ) → let ns = up_to_results r in
    before (loads ns words) (of (loaded_bytes count >>= (λ bytes. pure (done (values_loaded (loads ns words)) bytes))) (left_after ns words))
    ≡ stepped (ns ++ count_from 256 (words_for count)) (reply.results_with count done) words
unfolding listen ◌>>=◌
done_tail r count done words =
    let ns = up_to_results r in
    let n = words_for count in
    let ms = count_from 256 n in
    let left = left_after ns words in
    let last = done (values_loaded (loads ns words)) (take count (bytes_from (words_heard n left))) in
    ap (λ (t : Taken Outcome). before (loads ns words) t) (bytes_by n 256 (λ ws. pure (take count (bytes_from ws))) (λ bytes. pure (done (values_loaded (loads ns words)) bytes)) left)
    ∙ ap (λ (items : List Item). taken (loads ns words ++ items) last (left_after ms left)) (append-nil (loads ms left))
    ∙ ap (λ (items : List Item). taken items last (left_after ms left)) (sym (loads_append ns ms words))
    ∙ ap (λ (rest : List ℕ). taken (loads (ns ++ ms) words) last rest) (sym (left_append ns ms words))
    ∙ ap (λ (o : Outcome). taken (loads (ns ++ ms) words) o (left_after (ns ++ ms) words)) (done_with r count done n words)

missing_all : (a c d b : Bool) (words : List ℕ) →
    ended (results_if a c d b) words
    (of (pure (reply.missing_loaded (loads (bitmap_words (results_if a c d b)) (drop 1 words)))) (left_after (bitmap_words (results_if a c d b)) (drop 1 words)))
    ≡ stepped (115 ∷ bitmap_words (results_if a c d b)) reply.missing_loaded words
unfolding listen
missing_all true true d b words = refl
missing_all true false true b words = refl
missing_all true false false true words = refl
missing_all true false false false words = refl
missing_all false true d b words = refl
missing_all false false true b words = refl
missing_all false false false true words = refl
missing_all false false false false words = refl

-- the bitmap's words, seen from behind the status
bitmap_behind : (r : Results) (words : List ℕ) →
    bitmap_loaded (loads (115 ∷ bitmap_words r) words) ≡ bitmap_loaded (loads (bitmap_words r) (drop 1 words))
bitmap_behind r words = refl

zero_by : (r : Results) (count : ℕ) (done : Values → List ℕ → Outcome) (words : List ℕ) → status_of words ≡ 0 →
    of (accepting_by r count done) words
    ≡ ended r words (of (results_by r count done (bitmap_loaded (loads (bitmap_words r) (drop 1 words)))) (left_after (bitmap_words r) (drop 1 words)))
zero_by r count done words is =
    let fine : (status_of words == 0) ≡ true = grind (arith, common_steps) in
    status_by r count done words _ (of_true (status_of words == 0) (loaded_results r count done) _ (drop 1 words) fine ∙ bitmap_by r.a (r.c || r.d || r.b) (results_by r count done) (drop 1 words))

done_by : (r : Results) (count : ℕ) (done : Values → List ℕ → Outcome) (words : List ℕ) → status_of words ≡ 0 →
    list_all (λ n. has_bit (bitmap_loaded (loads (115 ∷ bitmap_words r) words)) n) (result_words r) ≡ true →
    of (accepting_by r count done) words ≡ taken_by (up_to_results r ++ count_from 256 (words_for count)) (reply.results_with count done) words
done_by r count done words is has =
    let b = bitmap_loaded (loads (bitmap_words r) (drop 1 words)) in
    zero_by r count done words is
    ∙ ap (λ (t : Taken Outcome). ended r words t) (of_true (has_all r b) _ _ _ (sym (bits_by r b) ∙ has))
    ∙ values_all r.a r.c r.d r.b (λ v. loaded_bytes count >>= (λ bytes. pure (done v bytes))) words
    ∙ done_tail r count done words
    ∙ dropped (up_to_results r ++ count_from 256 (words_for count)) (reply.results_with count done) words

missing_by : (r : Results) (count : ℕ) (done : Values → List ℕ → Outcome) (words : List ℕ) → status_of words ≡ 0 →
    list_all (λ n. has_bit (bitmap_loaded (loads (115 ∷ bitmap_words r) words)) n) (result_words r) ≡ false →
    of (accepting_by r count done) words ≡ taken_by (115 ∷ bitmap_words r) reply.missing_loaded words
missing_by r count done words is has =
    let b = bitmap_loaded (loads (bitmap_words r) (drop 1 words)) in
    zero_by r count done words is
    ∙ ap (λ (t : Taken Outcome). ended r words t) (of_false (has_all r b) _ _ _ (sym (bits_by r b) ∙ has))
    ∙ missing_all r.a r.c r.d r.b words
    ∙ dropped (115 ∷ bitmap_words r) reply.missing_loaded words

exception_by : (r : Results) (count : ℕ) (done : Values → List ℕ → Outcome) (words : List ℕ) (asked : Result Inject BadInject) → status_of words ≡ 1 → request_of (slice_index words 1) ≡ asked →
    of (accepting_by r count done) words ≡ taken_by (115 ∷ 116 ∷ []) (λ _. outcome_requested (slice_index words 1) asked) words
unfolding listen ◌>>=◌
exception_by r count done words asked one is =
    let not_done : (status_of words == 0) ≡ false = grind (arith, common_steps) in
    let asks : (status_of words == 1) ≡ true = grind (arith, common_steps) in
    status_by r count done words _ (of_false (status_of words == 0) _ _ (drop 1 words) not_done ∙ of_true (status_of words == 1) loaded_exception _ (drop 1 words) asks)
    ∙ ap (λ n. first (Load 115 (slice_index words 0)) (first (Load 116 (slice_index (drop 1 words) 0))
    (record { items = []; value = outcome_requested n (request_of n); rest = drop 1 (drop 1 words) }))) (second words)
    ∙ ap (λ (x : Result Inject BadInject). stepped (115 ∷ 116 ∷ []) (λ _. outcome_requested (slice_index words 1) x) words) is
    ∙ dropped (115 ∷ 116 ∷ []) (λ _. outcome_requested (slice_index words 1) asked) words

other_by : (r : Results) (count : ℕ) (done : Values → List ℕ → Outcome) (words : List ℕ) → 2 ≤ status_of words →
    of (accepting_by r count done) words ≡ taken_by (115 ∷ []) (λ _. Terminate (BadStatus (slice_index words 0))) words
unfolding listen
other_by r count done words other =
    let not_done : (status_of words == 0) ≡ false = grind (arith, common_steps) in
    let asks : (status_of words == 1) ≡ false = grind (arith, common_steps) in
    status_by r count done words _ (of_false (status_of words == 0) _ _ (drop 1 words) not_done ∙ of_false (status_of words == 1) _ _ (drop 1 words) asks)

-- seven numbers below the buffer at most, none twice
abbrev IsFew : List ℕ → Type 0
IsFew numbers = IsDistinct nat_eq numbers × AllByRecursion (λ n. nat_lt n 256 ≡ true) numbers × (length numbers ≤ 7)

few_all : (a c d b : Bool) → IsFew (up_to_results (results_if a c d b))
unfolding IsDistinct
few_all true true true true = (search rules depth 40, search rules depth 40, omega arith)
few_all true true true false = (search rules depth 40, search rules depth 40, omega arith)
few_all true true false true = (search rules depth 40, search rules depth 40, omega arith)
few_all true true false false = (search rules depth 40, search rules depth 40, omega arith)
few_all true false true true = (search rules depth 40, search rules depth 40, omega arith)
few_all true false true false = (search rules depth 40, search rules depth 40, omega arith)
few_all true false false true = (search rules depth 40, search rules depth 40, omega arith)
few_all true false false false = (search rules depth 40, search rules depth 40, omega arith)
few_all false true true true = (search rules depth 40, search rules depth 40, omega arith)
few_all false true true false = (search rules depth 40, search rules depth 40, omega arith)
few_all false true false true = (search rules depth 40, search rules depth 40, omega arith)
few_all false true false false = (search rules depth 40, search rules depth 40, omega arith)
few_all false false true true = (search rules depth 40, search rules depth 40, omega arith)
few_all false false true false = (search rules depth 40, search rules depth 40, omega arith)
few_all false false false true = (search rules depth 40, search rules depth 40, omega arith)
few_all false false false false = (search rules depth 40, search rules depth 40, omega arith)

few_bitmap : (a c d b : Bool) → IsFew (115 ∷ bitmap_words (results_if a c d b))
unfolding IsDistinct
few_bitmap true true d b = (search rules, search rules, omega arith)
few_bitmap true false true b = (search rules, search rules, omega arith)
few_bitmap true false false true = (search rules, search rules, omega arith)
few_bitmap true false false false = (search rules, search rules, omega arith)
few_bitmap false true d b = (search rules, search rules, omega arith)
few_bitmap false false true b = (search rules, search rules, omega arith)
few_bitmap false false false true = (search rules, search rules, omega arith)
few_bitmap false false false false = (search rules, search rules, omega arith)

few_exception : IsFew (115 ∷ 116 ∷ [])
unfolding IsDistinct
few_exception = (search rules, search rules, omega arith)

few_status : IsFew (115 ∷ [])
unfolding IsDistinct
few_status = (search rules, search rules, omega arith)

-- numbers that count up are apart from each other, and from all below them
apart_from : (x from n : ℕ) → x < from → AllByRecursion (λ y. nat_eq x y ≡ false) (count_from from n)
apart_from x from zero less = tt
apart_from x from (suc n) less = (grind (arith, nat_tests), apart_from x (from + 1) n (omega arith))

distinct_from : (from n : ℕ) → IsDistinct nat_eq (count_from from n)
unfolding IsDistinct
distinct_from from zero = tt
distinct_from from (suc n) = (apart_from from (from + 1) n (omega arith), distinct_from (from + 1) n)

apart_both : (x : ℕ) (ns ms : List ℕ) → AllByRecursion (λ y. nat_eq x y ≡ false) ns → AllByRecursion (λ y. nat_eq x y ≡ false) ms → AllByRecursion (λ y. nat_eq x y ≡ false) (ns ++ ms)
apart_both x [] ms one two = two
apart_both x (n ∷ ns) ms one two = (one.0, apart_both x ns ms one.1 two)

distinct_both : (ns : List ℕ) (n : ℕ) → IsDistinct nat_eq ns → AllByRecursion (λ x. nat_lt x 256 ≡ true) ns → IsDistinct nat_eq (ns ++ count_from 256 n)
unfolding IsDistinct
distinct_both [] n apart below = distinct_from 256 n
distinct_both (x ∷ ns) n apart below =
    let less : nat_lt x 256 ≡ true = below.0 in
    (apart_both x ns (count_from 256 n) apart.0 (apart_from x 256 n (grind (arith, nat_tests))), distinct_both ns n apart.1 below.1)

length-count_from : (from n : ℕ) → length (count_from from n) ≡ n
length-count_from from zero = refl
length-count_from from (suc n) = ap (λ k. suc k) (length-count_from (from + 1) n)

-- a reply is loaded by these numbers, none twice, and few beside the words of the buffer
abbrev LoadsFew : Results → ℕ → (Values → List ℕ → Outcome) → List ℕ → Type 0
LoadsFew r count done words =
    (numbers : List ℕ) × ((of (accepting_by r count done) words).items ≡ loads numbers words) × IsDistinct nat_eq numbers × (length numbers ≤ 7 + words_for count)

items_by : (r : Results) (count : ℕ) (done : Values → List ℕ → Outcome) (words numbers : List ℕ) (outcome : List Item → Outcome) → of (accepting_by r count done) words ≡ taken_by numbers outcome words → IsFew numbers → LoadsFew r count done words
items_by r count done words numbers outcome is few = (numbers, ap (λ (t : Taken Outcome). t.items) is, few.0, omega (arith, few.2))

items_all : (r : Results) (count : ℕ) (done : Values → List ℕ → Outcome) (words : List ℕ) → of (accepting_by r count done) words ≡ taken_by (up_to_results r ++ count_from 256 (words_for count)) (reply.results_with count done) words → IsFew (up_to_results r) → LoadsFew r count done words
items_all r count done words is few =
    let n = words_for count in (
      up_to_results r ++ count_from 256 n,
      ap (λ (t : Taken Outcome). t.items) is,
      distinct_both (up_to_results r) n few.0 few.1,
      omega (arith, few.2, length-append (up_to_results r) (count_from 256 n), length-count_from 256 n),
    )

loads_zero : (r : Results) (count : ℕ) (done : Values → List ℕ → Outcome) (words : List ℕ) (has : Bool) → status_of words ≡ 0 →
    list_all (λ n. has_bit (bitmap_loaded (loads (115 ∷ bitmap_words r) words)) n) (result_words r) ≡ has → LoadsFew r count done words
loads_zero r count done words true is has = items_all r count done words (done_by r count done words is has) (few_all r.a r.c r.d r.b)
loads_zero r count done words false is has = items_by r count done words _ reply.missing_loaded (missing_by r count done words is has) (few_bitmap r.a r.c r.d r.b)

loads_by : (r : Results) (count : ℕ) (done : Values → List ℕ → Outcome) (words : List ℕ) (s : ℕ) → status_of words ≡ s → LoadsFew r count done words
loads_by r count done words zero is = loads_zero r count done words _ is refl
loads_by r count done words (suc zero) is = items_by r count done words _ (λ _. outcome_requested (slice_index words 1) (request_of (slice_index words 1))) (exception_by r count done words _ is refl) few_exception
loads_by r count done words (suc (suc s)) is = items_by r count done words _ (λ _. Terminate (BadStatus (slice_index words 0))) (other_by r count done words (omega (arith, is))) few_status

loads_numbers : (numbers words : List ℕ) → loads_of (loads numbers words) ≡ numbers
loads_numbers [] words = refl
loads_numbers (number ∷ numbers) words = ap (λ (rest : List ℕ). number ∷ rest) (loads_numbers numbers (drop 1 words))

length-loads : (numbers words : List ℕ) → length (loads numbers words) ≡ length numbers
length-loads [] words = refl
length-loads (number ∷ numbers) words = ap (λ n. suc n) (length-loads numbers (drop 1 words))

few_loads : (r : Results) (count : ℕ) (done : Values → List ℕ → Outcome) (items : List Item) (outcome : Outcome) → Follows (listen (accepting_by r count done) (λ o. over o)) items outcome →
    IsDistinct nat_eq (loads_of items) × (length items ≤ 7 + words_for count)
few_loads r count done items outcome goes =
    let words = values_of items in
    let some = loads_by r count done words (status_of words) refl in
    let is = goes_taken (listen (accepting_by r count done) (λ o. over o)) items outcome words goes (begins_self words) in
    let same : items ≡ loads some.0 words = ap (λ (t : Taken Outcome). t.items) (sym is) ∙ some.1 in (
      subst (λ (numbers : List ℕ). IsDistinct nat_eq numbers) (sym (ap loads_of same ∙ loads_numbers some.0 words)) some.2,
      subst (λ n. n ≤ 7 + words_for count) (sym (ap (λ (is : List Item). length is) same ∙ length-loads some.0 words)) some.3,
    )

-- in whatever follows, no word is loaded twice
pub loads_once : (event : Event) (items : List Item) (outcome : Outcome) → Follows (listen (accepting event) (λ o. over o)) items outcome → IsDistinct nat_eq (loads_of items)
loads_once event items outcome goes = (few_loads (results_of_event event) (bytes_of_event event) (event_done event) items outcome goes).0

-- and there are seven items at most, beside those of the buffer
pub items_few : (event : Event) (items : List Item) (outcome : Outcome) → Follows (listen (accepting event) (λ o. over o)) items outcome → length items ≤ 7 + words_for (bytes_of_event event)
items_few event items outcome goes = (few_loads (results_of_event event) (bytes_of_event event) (event_done event) items outcome goes).1

-- the cases, of an event
pub done_is : (event : Event) (words : List ℕ) → status_of words ≡ 0 → reply.has_results event words ≡ true →
    reply.acceptance event words ≡ taken_by (reply.up_to_bytes event) (reply.results_loaded event) words
done_is event words is has = done_by (results_of_event event) (bytes_of_event event) (event_done event) words is has

pub missing_is : (event : Event) (words : List ℕ) → status_of words ≡ 0 → reply.has_results event words ≡ false →
    reply.acceptance event words ≡ taken_by (reply.up_to_bitmap event) reply.missing_loaded words
missing_is event words is has = missing_by (results_of_event event) (bytes_of_event event) (event_done event) words is has

pub exception_is : (event : Event) (words : List ℕ) (asked : Result Inject BadInject) → status_of words ≡ 1 → request_of (slice_index words 1) ≡ asked →
    reply.acceptance event words ≡ taken_by (115 ∷ 116 ∷ []) (λ _. outcome_requested (slice_index words 1) asked) words
exception_is event words asked one is = exception_by (results_of_event event) (bytes_of_event event) (event_done event) words asked one is

pub other_is : (event : Event) (words : List ℕ) → 2 ≤ status_of words →
    reply.acceptance event words ≡ taken_by (115 ∷ []) (λ _. Terminate (BadStatus (slice_index words 0))) words
other_is event words other = other_by (results_of_event event) (bytes_of_event event) (event_done event) words other
