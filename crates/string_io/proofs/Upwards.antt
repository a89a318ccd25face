-- Elements that stand one after another upwards: how many they are, and their bytes in one piece.
use Rattle.std.proofs.lemmas.Grind.{common_steps}
use Rattle.std.proofs.lemmas.Bool.Decides.{nat_tests}
use Rattle.std.proofs.Common.{◌≡◌, ℕ, zero, suc, ◌+◌, ◌-◌, ◌*◌, ◌/◌, ◌%◌, ◌^◌, ◌<◌, ◌≤◌, min, List, [], ◌∷◌, ◌++◌, length, drop, take, slice_index, refl, ap, sym, ◌∙◌, arith, Bool, true, false, nat_le, nat_lt, add-one, drop-cons, add-zero, subst, length-drop, length-take-le}
use Rattle.std.proofs.lemmas.List.{drop-drop, get_or-drop, get_or-take}
use Rattle.std.specs.Prelude.{not, ◌&&◌, map, if◌then◌else◌, slice_range}
use Rattle.x86_base.specs.declared.reg.Width.{Width}
use Rattle.x86_base.specs.declared.reg.Width.TheVariants.{B8, B16, B32, B64}
use Rattle.x86_base.specs.Widths.{size_of}
use Rattle.image_file.specs.Number.{number_at}
use Rattle.event_table.specs.declared.places.Place.{Place}
use Rattle.event_table.specs.declared.places.Place.TheVariants.{Bytes}
use Rattle.event_table.specs.Elements.{bytes_in, bytes_of, can_move, movable, next_address}
use Rattle.event_table.specs.Places.{Vcpu, read}
use Rattle.event_table.specs.Plan.{Setting}

-- each of so many bytes from an address on is one
abbrev pub AreBytes : ℕ → ℕ → List ℕ → Type 0
AreBytes n at bytes = (k : ℕ) → k < n → slice_index bytes (at + k) < 2 ^ 8

lowest : (x m : ℕ) → x < 2 ^ 8 → (x + 2 ^ 8 * m) % 2 ^ 8 ≡ x
lowest x m fits = omega arith

above : (x m : ℕ) → x < 2 ^ 8 → (x + 2 ^ 8 * m) / 2 ^ 8 ≡ m
above x m fits = omega arith

later : (n m at from : ℕ) (bytes : List ℕ) → AreBytes m at bytes → from + n ≤ at + m → at ≤ from → AreBytes n from bytes
later n m at from bytes fits within behind k h =
    let same : at + (from + k - at) ≡ from + k = omega arith in
    subst (λ j. slice_index bytes j < 2 ^ 8) same (fits (from + k - at) (omega arith))

first_byte : (n at : ℕ) (bytes : List ℕ) → AreBytes (suc n) at bytes → slice_index bytes at < 2 ^ 8
first_byte n at bytes fits = subst (λ j. slice_index bytes j < 2 ^ 8) (add-zero at) (fits 0 (omega arith))

-- a number's bytes are those that it was read from
bytes_read : (n at : ℕ) (bytes : List ℕ) → at + n ≤ length bytes → AreBytes n at bytes → bytes_of n (number_at n at bytes) ≡ take n (drop at bytes)
bytes_read zero at bytes inside fits = refl
bytes_read (suc n) at bytes inside fits =
    let x = slice_index bytes at in
    let m = number_at n (at + 1) bytes in
    let first : x < 2 ^ 8 = first_byte n at bytes fits in
    let rest = bytes_read n (at + 1) bytes (omega arith) (later n (suc n) at (at + 1) bytes fits (omega arith) (omega arith)) in
    let here : at < length bytes = omega arith in
    rw (lowest x m first, above x m first, rest, drop-cons bytes at 0, add-one) refl

take_two : (a b c : ℕ) (xs : List ℕ) → c ≡ a + b → take a xs ++ take b (drop a xs) ≡ take c xs
take_two zero b c xs e = let same : c ≡ b = omega arith in rw same refl
take_two (suc a) b c [] e = grind (arith, common_steps)
take_two (suc a) b c (x ∷ xs) e =
    let more : c ≡ suc (a + b) = omega arith in
    rw (more, take_two a b (a + b) xs refl) refl

-- one element more upwards
next_up : (w : Width) (s : Setting) (at : ℕ) → s.df ≡ false → at + size_of w < 2 ^ 64 → next_address s.df (size_of w) at ≡ at + size_of w
next_up w s at up small = rw up (omega arith)

div_more : (w : Width) (r : ℕ) → size_of w ≤ r → r / size_of w ≡ suc ((r - size_of w) / size_of w)
div_more B8 r some = omega arith
div_more B16 r some = omega arith
div_more B32 r some = omega arith
div_more B64 r some = omega arith

div_none : (w : Width) (r : ℕ) → r < size_of w → r / size_of w ≡ 0
div_none B8 r few = omega arith
div_none B16 r few = omega arith
div_none B32 r few = omega arith
div_none B64 r few = omega arith

size_some : (w : Width) → 1 ≤ size_of w
size_some B8 = omega arith
size_some B16 = omega arith
size_some B32 = omega arith
size_some B64 = omega arith

min_more : (k q : ℕ) → suc (min k q) ≡ min (suc k) (suc q)
min_more k q = omega arith

min_none : (q : ℕ) → 0 ≡ min 0 q
min_none q = omega arith

none_min : (k q : ℕ) → q ≡ 0 → 0 ≡ min k q
none_min k q none = omega arith

left_above : (r at size : ℕ) → r - at - size ≡ r - (at + size)
left_above r at size = omega arith

count_cond : (t : Bool) (w : Width) (s : Setting) (k at : ℕ) → nat_le (at + size_of w) s.ram ≡ t → s.df ≡ false → s.ram < 2 ^ 63
    → length (movable false w s k (next_address s.df (size_of w) at)) ≡ min k ((s.ram - next_address s.df (size_of w) at) / size_of w)
    → length (if t then Bytes at w ∷ movable false w s k (next_address s.df (size_of w) at) else []) ≡ min (suc k) ((s.ram - at) / size_of w)
count_cond true w s k at is up small more =
    let inside : at + size_of w ≤ s.ram = grind (arith, nat_tests) in
    let next = next_up w s at up (omega arith) in
    let less : (s.ram - at) / size_of w ≡ suc ((s.ram - next_address s.df (size_of w) at) / size_of w) =
    div_more w (s.ram - at) (omega arith) ∙ ap (λ r. suc (r / size_of w)) (left_above s.ram at (size_of w) ∙ ap (λ n. s.ram - n) (sym next)) in
    ap suc more ∙ min_more k _ ∙ ap (λ q. min (suc k) q) (sym less)
count_cond false w s k at is up small more =
    let outside : s.ram < at + size_of w = grind (arith, nat_tests) in
    none_min (suc k) _ (div_none w (s.ram - at) (omega (arith, size_some w)))

-- how many stand wholly in RAM
pub upward_count : (w : Width) (s : Setting) (most at : ℕ) → s.df ≡ false → s.ram < 2 ^ 63 → length (movable false w s most at) ≡ min most ((s.ram - at) / size_of w)
upward_count w s zero at up small = min_none _
upward_count w s (suc k) at up small =
    count_cond (can_move false s (Bytes at w)) w s k at refl up small (upward_count w s k (next_address s.df (size_of w) at) up small)

no_bytes : (size : ℕ) (xs : List ℕ) → [] ≡ take (0 * size) xs
no_bytes size xs = let none : 0 * size ≡ 0 = grind arith in rw none refl

more_bytes : (n size : ℕ) → suc n * size ≡ size + n * size
more_bytes n size = grind arith

bytes_cond : (t : Bool) (w : Width) (v : Vcpu) (s : Setting) (k at : ℕ) → nat_le (at + size_of w) s.ram ≡ t → s.df ≡ false → s.ram ≡ length v.ram.bytes → s.ram < 2 ^ 63
    → ((m : ℕ) → m ≡ at + size_of w → AreBytes (length (movable false w s k m) * size_of w) m v.ram.bytes → bytes_in (size_of w) (map (read v) (movable false w s k m)) ≡ take (length (movable false w s k m) * size_of w) (drop m v.ram.bytes))
    → AreBytes (length (if t then Bytes at w ∷ movable false w s k (next_address s.df (size_of w) at) else []) * size_of w) at v.ram.bytes
    → bytes_in (size_of w) (map (read v) (if t then Bytes at w ∷ movable false w s k (next_address s.df (size_of w) at) else []))
    ≡ take (length (if t then Bytes at w ∷ movable false w s k (next_address s.df (size_of w) at) else []) * size_of w) (drop at v.ram.bytes)
bytes_cond false w v s k at is up all small more fits = no_bytes (size_of w) (drop at v.ram.bytes)
bytes_cond true w v s k at is up all small more fits =
    let size = size_of w in
    let n = length (movable false w s k (next_address s.df size at)) in
    let inside : at + size ≤ length v.ram.bytes = grind (arith, nat_tests) in
    let next = next_up w s at up (omega arith) in
    let here = bytes_read size at v.ram.bytes inside (later size (suc n * size) at at v.ram.bytes fits (omega (arith, more_bytes n size)) (omega arith)) in
    let rest = more (next_address s.df size at) next (later (n * size) (suc n * size) at (next_address s.df size at) v.ram.bytes fits (omega (arith, more_bytes n size)) (omega arith)) in
    rw (here, rest) (ap (λ m. take size (drop at v.ram.bytes) ++ take (n * size) (drop m v.ram.bytes)) next
    ∙ ap (λ ys. take size (drop at v.ram.bytes) ++ take (n * size) ys) (sym (drop-drop size at v.ram.bytes))
    ∙ take_two size (n * size) (suc n * size) (drop at v.ram.bytes) (more_bytes n size))

-- and their bytes
pub upward_bytes : (w : Width) (v : Vcpu) (s : Setting) (most at : ℕ) → s.df ≡ false → s.ram ≡ length v.ram.bytes → s.ram < 2 ^ 63
    → AreBytes (length (movable false w s most at) * size_of w) at v.ram.bytes
    → bytes_in (size_of w) (map (read v) (movable false w s most at)) ≡ take (length (movable false w s most at) * size_of w) (drop at v.ram.bytes)
upward_bytes w v s zero at up all small fits = no_bytes (size_of w) (drop at v.ram.bytes)
upward_bytes w v s (suc k) at up all small fits =
    bytes_cond (can_move false s (Bytes at w)) w v s k at refl up all small (λ m same fit. upward_bytes w v s k m up all small fit) fits

-- the bytes of a piece are those of RAM
pub piece_bytes : (n at from : ℕ) (bytes piece : List ℕ) → piece ≡ slice_range bytes from (from + n) → from + n ≤ length bytes → (0 < n → from ≡ at)
    → ((k : ℕ) → k < length piece → slice_index piece k < 2 ^ 8) → AreBytes n at bytes
piece_bytes n at from bytes piece is inside same fits k h =
    let here : from ≡ at = same (omega arith) in
    let size : from + n - from ≡ n = omega arith in
    let whole : piece ≡ take n (drop at bytes) = is ∙ ap (λ m. take m (drop from bytes)) size ∙ ap (λ m. take n (drop m bytes)) here in
    let less : k < length piece = omega (arith, ap (length {A = ℕ}) whole, length-take-le n (drop at bytes) (omega (arith, length-drop at bytes))) in
    let one : slice_index piece k ≡ slice_index bytes (at + k) = ap (λ (xs : List ℕ). slice_index xs k) whole ∙ get_or-take n (drop at bytes) k 0 h ∙ get_or-drop at bytes k 0 in
    subst (λ x. x < 2 ^ 8) one (fits k less)

pub piece_is : (n at from : ℕ) (bytes : List ℕ) → (0 < n → from ≡ at) → slice_range bytes from (from + n) ≡ take n (drop at bytes)
piece_is zero at from bytes same = let none : from + 0 - from ≡ 0 = omega arith in rw none refl
piece_is (suc n) at from bytes same =
    let size : from + suc n - from ≡ suc n = omega arith in
    rw size (ap (λ m. take (suc n) (drop m bytes)) (same (omega arith)))

-- so many elements lie in RAM
pub upward_room : (most r size : ℕ) → min most (r / size) * size ≤ r
upward_room most r size = grind arith

-- those of an input, which begin behind the code, are no others
code_cases : (inside front : Bool) → front ≡ false → (inside && not front) ≡ inside
code_cases true true behind = absurd (cc)
code_cases true false behind = refl
code_cases false front behind = refl

behind_cond : (t u : Bool) (w : Width) (s : Setting) (k at : ℕ) → u ≡ t
    → (t ≡ true → movable true w s k (next_address s.df (size_of w) at) ≡ movable false w s k (next_address s.df (size_of w) at))
    → (if u then Bytes at w ∷ movable true w s k (next_address s.df (size_of w) at) else []) ≡ (if t then Bytes at w ∷ movable false w s k (next_address s.df (size_of w) at) else [])
behind_cond true u w s k at same more = rw same (ap (λ (ps : List Place). Bytes at w ∷ ps) (more refl))
behind_cond false u w s k at same more = rw same refl

pub upward_inputs : (w : Width) (s : Setting) (most at : ℕ) → s.df ≡ false → s.ram < 2 ^ 63 → s.code ≤ at → movable true w s most at ≡ movable false w s most at
upward_inputs w s zero at up small behind = refl
upward_inputs w s (suc k) at up small behind =
    let front : nat_lt at s.code ≡ false = grind (arith, nat_tests) in
    behind_cond (can_move false s (Bytes at w)) (can_move true s (Bytes at w)) w s k at (code_cases (nat_le (at + size_of w) s.ram) (nat_lt at s.code) front)
    (λ can.
    let inside : at + size_of w ≤ s.ram = grind (arith, nat_tests) in
    let next = next_up w s at up (omega arith) in
    upward_inputs w s k (next_address s.df (size_of w) at) up small (omega arith))
