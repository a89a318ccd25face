-- The words of bytes, as bytes again.
use Rattle.std.proofs.Common.{◌≡◌, ◌∙◌, ap, sym, ℕ, zero, suc, ◌+◌, ◌*◌, ◌<◌, ◌≤◌, List, [], ◌∷◌, ◌++◌, length, take, drop, get_or, map, append-nil, arith}
use Rattle.std.specs.List.{flat_map, range_with_len}
use Rattle.std.specs.Int.{w64, from_le_bytes}
use Rattle.std.proofs.Math.ListN.{drop_of_length-le}
use Rattle.std.proofs.lemmas.Grind.{common_steps}
use Rattle.std.proofs.lemmas.List.{take-append-drop, take_more, drop-drop, length-drop, get_or-drop}
use Rattle.std.proofs.lemmas.List.Concat.{flat_map-append}
use Rattle.std.proofs.lemmas.Nat.{le_bytes_8}
use Rattle.std.proofs.lemmas.Slice.{take-put_mid}
use borrow.Rule.Slice.PartMut.{put_mid}
use Rattle.byteorder.specs.Endian.{little_bytes, little_number}
use Rattle.byteorder.specs.Numbers.{little_from-take}
use Rattle.ghcb_layout.specs.Bytes.{words_of}

abbrev pub AreBytes : List ℕ → Type 0
AreBytes xs = (i : ℕ) → get_or xs i 0 < 256

-- eight bytes are the bytes of their number
little_bytes-little_number : (xs : List ℕ) → 8 ≤ length xs → AreBytes xs → little_bytes 8 (little_number 8 xs) ≡ take 8 xs
little_bytes-little_number xs enough small =
    let number : little_number 8 xs ≡ from_le_bytes w64 (take 8 xs) =
    sym (little_from-take 0 8 8 xs (omega arith)) ∙ omega arith in
    le_bytes_8 (take 8 xs) (little_number 8 xs) (grind (arith, common_steps)) (λ i. grind (arith, common_steps, small i)) number

-- n pieces of eight bytes from piece a on, each taken to a number and back
pieces : (to : ℕ → List ℕ) (from : List ℕ → ℕ) (bytes : List ℕ)
    → ((xs : List ℕ) → 8 ≤ length xs → AreBytes xs → to (from xs) ≡ take 8 xs) → AreBytes bytes
    → (n a : ℕ) → 8 * (a + n) ≡ length bytes
    → flat_map to (map (λ k. from (drop (8 * k) bytes)) (range_with_len a n)) ≡ drop (8 * a) bytes
pieces to from bytes back small zero a whole = sym (drop_of_length-le bytes (omega arith))
pieces to from bytes back small (suc n) a whole =
    let piece : List ℕ = drop (8 * a) bytes in
    let enough : 8 ≤ length piece = omega (arith, length-drop (8 * a) bytes) in
    let first : to (from piece) ≡ take 8 piece = back piece enough (λ i. rw get_or-drop (small (8 * a + i))) in
    let rest = pieces to from bytes back small n (a + 1) (omega arith) in
    let next : drop (8 * (a + 1)) bytes ≡ drop 8 piece =
    ap (λ (m : ℕ). drop m bytes) (omega arith) ∙ sym (drop-drop 8 (8 * a) bytes) in
    ap (λ (ys : List ℕ). to (from piece) ++ ys) (rest ∙ next)
    ∙ ap (λ (xs : List ℕ). xs ++ drop 8 piece) first
    ∙ take-append-drop 8 piece

pub flat_map-words_of : (bytes : List ℕ) → length bytes ≡ 4096 → AreBytes bytes → flat_map (little_bytes 8) (words_of bytes) ≡ bytes
unfolding words_of
flat_map-words_of bytes whole small =
    pieces (little_bytes 8) (little_number 8) bytes little_bytes-little_number small 512 0 (sym whole)

-- one word more is written, over the eight bytes from at on
pub written-more : (into words piece rest : List ℕ) (k at room : ℕ)
    → take (8 * k) into ≡ flat_map (little_bytes 8) (take k words) → piece ≡ little_bytes 8 (get_or words k 0) ++ rest → rest ≡ []
    → at ≡ 8 * k → k < length words → 8 * k ≤ length into
    → take (8 * (k + 1)) (put_mid at room into piece) ≡ flat_map (little_bytes 8) (take (k + 1) words)
written-more into words piece rest k at room before written none place inside fits =
    let eight : piece ≡ little_bytes 8 (get_or words k 0) =
    written ∙ ap (λ (r : List ℕ). little_bytes 8 (get_or words k 0) ++ r) none ∙ append-nil _ in
    let count : 8 * (k + 1) ≡ at + length piece = omega (arith, ap length eight) in
    let taken : take at into ≡ take (8 * k) into = ap (λ (m : ℕ). take m into) place in
    take-put_mid at room into piece (8 * (k + 1)) count (omega arith)
    ∙ ap (λ (xs : List ℕ). xs ++ piece) (taken ∙ before)
    ∙ ap (λ (ys : List ℕ). flat_map (little_bytes 8) (take k words) ++ ys) (eight ∙ sym (append-nil _))
    ∙ sym (flat_map-append (little_bytes 8) (take k words) (get_or words k 0 ∷ []))
    ∙ ap (flat_map (little_bytes 8)) (sym (take_more words k 0 inside))
