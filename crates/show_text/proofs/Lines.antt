-- Lines that are appended one after another.
use Rattle.std.proofs.Common.{◌≡◌, ◌∙◌, ap, sym, ℕ, zero, suc, ◌+◌, Bool, true, false, List, [], ◌∷◌, ◌++◌, append-nil, arith}
use Rattle.std.specs.Prelude.{if◌then◌else◌}
use Rattle.std.specs.List.{flat_map, range_with_len}
use Rattle.std.proofs.lemmas.List.Concat.{flat_map-append}

range_more : (a n : ℕ) → range_with_len a (n + 1) ≡ range_with_len a n ++ (a + n) ∷ []
range_more a zero = ap (λ (k : ℕ). k ∷ []) (omega arith)
range_more a (suc n) =
    let count : suc n + 1 ≡ suc (n + 1) = omega arith in
    let last : a + 1 + n ≡ a + suc n = omega arith in
    ap (λ (k : ℕ). range_with_len a k) count
    ∙ ap (λ (xs : List ℕ). a ∷ xs) (range_more (a + 1) n)
    ∙ ap (λ (k : ℕ). a ∷ (range_with_len (a + 1) n ++ k ∷ [])) last

-- the lines of one number more
pub one_more : (line : ℕ → List ℕ) (n : ℕ) → flat_map line (range_with_len 0 n) ++ line n ≡ flat_map line (range_with_len 0 (n + 1))
one_more line n =
    let number : n ≡ 0 + n = omega arith in
    ap (λ (k : ℕ). flat_map line (range_with_len 0 n) ++ line k) number
    ∙ ap (λ (xs : List ℕ). flat_map line (range_with_len 0 n) ++ xs) (sym (append-nil (line (0 + n))))
    ∙ sym (flat_map-append line (range_with_len 0 n) ((0 + n) ∷ []))
    ∙ ap (flat_map line) (sym (range_more 0 n))

-- a line is appended where the test holds, and nothing else
pub shown : (test : Bool) (old new line : List ℕ) → test ≡ true → new ≡ old ++ line → new ≡ old ++ (if test then line else [])
shown test old new line holds pushed = rw holds pushed

pub hidden : (test : Bool) (old line : List ℕ) → test ≡ false → old ≡ old ++ (if test then line else [])
hidden test old line fails = rw fails (sym (append-nil old))
