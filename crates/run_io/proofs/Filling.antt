-- A file that is read piece by piece.
use Rattle.std.proofs.Common.{◌≡◌, ℕ, ◌+◌, ◌-◌, ◌<◌, ◌≤◌, ◌⊎◌, List, ◌++◌, Option, Some, None, length, take, drop, sym, ap, ◌∙◌, arith, subst, inl, inr}
use Rattle.std.specs.Prelude.{IfSome}
use Rattle.std.proofs.Math.Seq.{take-add}
use Rattle.std.proofs.lemmas.List.{take_all}
use Rattle.std.proofs.lemmas.List.{length-drop}
use Rattle.std.proofs.lemmas.Option.{same_Some}
use Rattle.run_io.specs.Outside.{Piece}
use Rattle.run_io.specs.Reading.{HasRead, IsRead, IsReading}

-- one piece more
pub has_read_more : (folder : List ℕ → Option (List ℕ)) (name : List ℕ) (filled n : ℕ) (before after : List ℕ) →
    HasRead folder name filled before → take filled after ≡ take filled before → Piece folder name filled n (drop filled after) → HasRead folder name (filled + n) after
has_read_more folder name filled n before after has same piece = λ file named.
    let is : piece.bytes ≡ file = same_Some _ _ (sym piece.named ∙ named) in
    let old = has file named in
    let copied : take n (drop filled after) ≡ take n (drop filled file) = piece.copied ∙ ap (λ b. take n (drop filled b)) is in
    let within : n ≤ length file - filled = subst (λ b. n ≤ length b - filled) is piece.within in (
      take-add filled n after ∙ ap (λ x. x ++ take n (drop filled after)) (same ∙ old.0) ∙ ap (λ x. take filled file ++ x) copied ∙ sym (take-add filled n file),
      omega (arith, old.1, within),
    )

-- Read to its end or to one byte more than the limit, it is read.
pub is_read : (folder : List ℕ → Option (List ℕ)) (name : List ℕ) (limit filled n : ℕ) (buffer : List ℕ) →
    filled + n ≤ limit + 1 → filled < length buffer → HasRead folder name (filled + n) buffer → Piece folder name filled n (drop filled buffer) →
    (n ≡ 0) ⊎ (limit < filled + n) → IsRead folder name limit (take (filled + n) buffer)
is_read folder name limit filled n buffer bound room has piece (inl none) =
    let here = has piece.bytes piece.named in
    let some : length (drop filled buffer) ≡ length buffer - filled = length-drop filled buffer in
    let over : length piece.bytes ≤ filled = elim (piece.ended none) [ inl empty ↦ absurd (omega (arith, empty, some, room)) | inr over ↦ over ] in
    record {
      file = piece.bytes;
      named = piece.named;
      first = here.0 ∙ take_all (filled + n) piece.bytes (omega (arith, over)) ∙ sym (take_all (limit + 1) piece.bytes (omega (arith, over, bound)));
    }
is_read folder name limit filled n buffer bound room has piece (inr past) =
    let here = has piece.bytes piece.named in
    let all : filled + n ≡ limit + 1 = omega (arith, bound, past) in
    record { file = piece.bytes; named = piece.named; first = here.0 ∙ ap (λ k. take k piece.bytes) all }

-- the same where the folder may be untold
pub is_reading_more : (folder : Option (List ℕ → Option (List ℕ))) (name : List ℕ) (limit filled n : ℕ) (before after : List ℕ) →
    IsReading folder name limit filled before → take filled after ≡ take filled before → filled + n ≤ length after → length after ≤ limit + 1 →
    IfSome folder (λ f. Piece f name filled n (drop filled after)) → IsReading folder name limit (filled + n) after
is_reading_more None name limit filled n before after reading same fits within piece = record { fits = fits; within = within; has = tt }
is_reading_more (Some f) name limit filled n before after reading same fits within piece =
    record { fits = fits; within = within; has = has_read_more f name filled n before after reading.has same piece }

pub is_read_told : (folder : Option (List ℕ → Option (List ℕ))) (name : List ℕ) (limit filled n : ℕ) (buffer : List ℕ) →
    filled < length buffer → IsReading folder name limit (filled + n) buffer → IfSome folder (λ f. Piece f name filled n (drop filled buffer)) →
    (n ≡ 0) ⊎ (limit < filled + n) → IfSome folder (λ f. IsRead f name limit (take (filled + n) buffer))
is_read_told None name limit filled n buffer room reading piece over = tt
is_read_told (Some f) name limit filled n buffer room reading piece over =
    is_read f name limit filled n buffer (omega (arith, reading.fits, reading.within)) room reading.has piece over
