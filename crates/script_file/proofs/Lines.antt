-- Lines that have words, and the first one that has none.
use Rattle.std.proofs.Common.{◌≡◌, ℕ, ◌+◌, ◌<◌, List, [], ◌∷◌, ◌++◌, length, map, drop, Option, Some, None, Ok, Err, refl, ap, sym, ◌∙◌, arith, append_assoc}
use Rattle.std.specs.List.{filter_map, position_from, range_with_len}
use Rattle.std.specs.Option.{is_none}
use Rattle.std.proofs.lemmas.List.{length-map, map-append, take-append-drop}
use Rattle.std.proofs.lemmas.List.FromFn.{length-map-range_with_len, map-range_with_len_more, take-map-range_with_len}
use Rattle.script_file.specs.Lines.{lines_in, script_by, script_of, word_of_line}

-- the words of the first k lines, where each of these has one
abbrev pub AreRead : List ℕ → ℕ → List ℕ → Type 0
AreRead words k bytes = map Some words ≡ map (word_of_line bytes) (range_with_len 0 k)

no_fault : (n : ℕ) (words : List ℕ) → position_from is_none n (map Some words) ≡ None
no_fault n [] = refl
no_fault n (word ∷ words) = no_fault (n + 1) words

there : (words : List ℕ) → filter_map (λ (word : Option ℕ). word) (map Some words) ≡ words
there [] = refl
there (word ∷ words) = ap (λ ws. word ∷ ws) (there words)

fault_after : (n : ℕ) (words : List ℕ) (rest : List (Option ℕ)) → position_from is_none n (map Some words ++ None ∷ rest) ≡ Some (n + length words)
fault_after n [] rest = ap Some (omega arith)
fault_after n (word ∷ words) rest = fault_after (n + 1) words rest ∙ ap Some (omega arith)

-- one word more
pub one_word : (k word : ℕ) (bytes words longer : List ℕ) → word_of_line bytes k ≡ Some word → longer ≡ words ++ word ∷ [] → AreRead words k bytes → AreRead longer (k + 1) bytes
one_word k word bytes words longer is pushed read =
    ap (λ ws. map Some ws) pushed ∙ map-append Some words (word ∷ [])
    ∙ ap (λ lines. lines ++ Some word ∷ []) read
    ∙ ap (λ line. map (word_of_line bytes) (range_with_len 0 k) ++ line ∷ []) (sym is)
    ∙ sym (map-range_with_len_more (word_of_line bytes) 0 k k (omega arith))

-- all lines are read
pub all_read : (k : ℕ) (bytes words : List ℕ) → k ≡ lines_in bytes → AreRead words k bytes → script_of bytes ≡ Ok words
all_read k bytes words all read =
    ap (λ n. script_by (position_from is_none 1 (map (word_of_line bytes) (range_with_len 0 n))) (map (word_of_line bytes) (range_with_len 0 n))) (sym all)
    ∙ ap (λ lines. script_by (position_from is_none 1 lines) lines) (sym read)
    ∙ ap (λ fault. script_by fault (map Some words)) (no_fault 1 words)
    ∙ ap Ok (there words)

-- so many lines are read as there are words
as_many : (k : ℕ) (bytes words : List ℕ) → AreRead words k bytes → length words ≡ k
as_many k bytes words read =
    sym (length-map words Some) ∙ ap (λ (lines : List (Option ℕ)). length lines) read ∙ length-map-range_with_len (word_of_line bytes) 0 k

-- the lines are those that are read, one without a word, and others
lines_at : (count k : ℕ) (bytes words : List ℕ) → k < count → word_of_line bytes k ≡ None → AreRead words k bytes →
    map (word_of_line bytes) (range_with_len 0 count) ≡ map Some words ++ None ∷ drop (k + 1) (map (word_of_line bytes) (range_with_len 0 count))
lines_at count k bytes words less none read =
    let rest = drop (k + 1) (map (word_of_line bytes) (range_with_len 0 count)) in
    sym (take-append-drop (k + 1) (map (word_of_line bytes) (range_with_len 0 count)))
    ∙ ap (λ lines. lines ++ rest) (take-map-range_with_len (word_of_line bytes) 0 count (k + 1) (omega (arith, less)))
    ∙ ap (λ lines. lines ++ rest) (map-range_with_len_more (word_of_line bytes) 0 k k (omega arith))
    ∙ append_assoc (map (word_of_line bytes) (range_with_len 0 k)) (word_of_line bytes k ∷ []) rest
    ∙ ap (λ line. map (word_of_line bytes) (range_with_len 0 k) ++ line ∷ rest) none
    ∙ ap (λ lines. lines ++ None ∷ rest) (sym read)

-- the line behind those that are read has no word
pub bad_line : (count k : ℕ) (bytes words : List ℕ) → count ≡ lines_in bytes → k < count → word_of_line bytes k ≡ None → AreRead words k bytes → script_of bytes ≡ Err (k + 1)
bad_line count k bytes words is less none read =
    let rest = drop (k + 1) (map (word_of_line bytes) (range_with_len 0 count)) in
    ap (λ n. script_by (position_from is_none 1 (map (word_of_line bytes) (range_with_len 0 n))) (map (word_of_line bytes) (range_with_len 0 n))) (sym is)
    ∙ ap (λ lines. script_by (position_from is_none 1 lines) lines) (lines_at count k bytes words less none read)
    ∙ ap (λ fault. script_by fault (map Some words ++ None ∷ rest)) (fault_after 1 words rest)
    ∙ ap (λ n. Err (1 + n)) (as_many k bytes words read) ∙ ap Err (omega arith)
