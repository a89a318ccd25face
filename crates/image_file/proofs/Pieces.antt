-- The code of the pieces that are left, one step on, and how long it is at most.
use Rattle.std.proofs.Common.{◌≡◌, ℕ, zero, suc, ◌+◌, ◌-◌, ◌*◌, ◌<◌, ◌≤◌, List, [], ◌∷◌, ◌++◌, length, refl, sym, ap, ◌∙◌, arith, append-nil, append_assoc, length-append}
use Rattle.std.specs.List.{flat_map}
use Rattle.image_file.specs.declared.made.Piece.{Piece}
use Rattle.image_file.specs.declared.made.Piece.TheVariants.{Out, Add, ReadTsc, Store}
use Rattle.image_file.specs.Made.{code_of, made_code, piece_of, pieces_of, step_of}

-- the code of so many steps from a number
abbrev pub code_left : ℕ → ℕ → List ℕ
code_left steps x = flat_map code_of (pieces_of steps x)

-- none is left
pub left_none : (steps x : ℕ) → steps ≡ 0 → code_left steps x ≡ []
unfolding pieces_of
left_none zero x e = refl
left_none (suc steps) x e = cc

-- one step on
pub left_more : (steps rest x : ℕ) → steps ≡ suc rest →
    code_left steps x ≡ code_of (piece_of (step_of x)) ++ code_left rest (step_of x)
unfolding pieces_of
left_more steps rest x e = rw e refl

-- one piece is counted
pub counted_more : (all k x x' len l whole : ℕ) (p : Piece) → k < all → x' ≡ step_of x → p ≡ piece_of x'
    → l ≡ length (code_of p) → len + length (code_left (all - k) x) ≡ whole
    → len + l + length (code_left (all - (k + 1)) x') ≡ whole
counted_more all k x x' len l whole p inside step piece is_len counted =
    let more = left_more (all - k) (all - (k + 1)) x (omega arith) in
    let first = is_len ∙ ap (λ (p : Piece). length (code_of p)) (piece ∙ ap piece_of step) in
    let rest = ap (λ (x : ℕ). length (code_left (all - (k + 1)) x)) step in
    let left = code_left (all - (k + 1)) (step_of x) in
    let both = ap length more ∙ length-append (code_of (piece_of (step_of x))) left in
    rw (first, rest) (omega (arith, both, counted))

-- one piece is written
pub written_more : (all k x x' : ℕ) (p : Piece) (file new whole : List ℕ) → k < all → x' ≡ step_of x → p ≡ piece_of x'
    → new ≡ file ++ code_of p → file ++ code_left (all - k) x ≡ whole → new ++ code_left (all - (k + 1)) x' ≡ whole
written_more all k x x' p file new whole inside step piece is written =
    let more = left_more (all - k) (all - (k + 1)) x (omega arith) in
    let same : p ≡ piece_of (step_of x) = piece ∙ ap piece_of step in
    let left = code_left (all - (k + 1)) (step_of x) in
    let apart = append_assoc file (code_of (piece_of (step_of x))) left in
    rw (is, same, step) (apart ∙ ap (λ rest. file ++ rest) (sym more) ∙ written)

-- all pieces are written, and then the end
pub written_all : (left x : ℕ) (file new start whole end : List ℕ) → left ≡ 0 → new ≡ file ++ end
    → file ++ code_left left x ≡ start ++ whole → new ≡ start ++ (whole ++ end)
written_all left x file new start whole end none is written =
    let no_more = ap (λ rest. file ++ rest) (sym (left_none left x none)) in
    let all : file ≡ start ++ whole = sym (append-nil file) ∙ no_more ∙ written in
    is ∙ ap (λ f. f ++ end) all ∙ append_assoc start whole end

piece_short : (p : Piece) → length (code_of p) ≤ 8
piece_short (Out byte) = omega arith
piece_short (Add byte) = omega arith
piece_short ReadTsc = omega arith
piece_short Store = omega arith

left_short : (steps x : ℕ) → length (code_left steps x) ≤ 8 * steps
unfolding pieces_of
left_short zero x = omega arith
left_short (suc steps) x =
    let first = piece_short (piece_of (step_of x)) in
    let rest = left_short steps (step_of x) in
    rw (length-append (code_of (piece_of (step_of x))) (code_left steps (step_of x))) (omega arith)

-- the code fits into an image
pub code_short : (n : ℕ) → (1 ≤ length (made_code n)) × (length (made_code n) ≤ 32769)
code_short n =
    let short = left_short 4096 n in
    let both = length-append (code_left 4096 n) (0xF4 ∷ []) in
    rw both (omega arith, omega arith)
