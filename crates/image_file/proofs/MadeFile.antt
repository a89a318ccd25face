-- A made image is read as what it holds, whatever its code, where this fits.
use Rattle.std.proofs.Common.{◌≡◌, ℕ, ◌+◌, ◌*◌, ◌/◌, ◌%◌, ◌^◌, ◌<◌, ◌≤◌, true, nat_le, List, [], ◌++◌, length, None, Ok, refl, ◌∙◌, ap, arith}
use Rattle.std.proofs.lemmas.Bool.Decides.{nat_tests}
use Rattle.std.proofs.lemmas.List.{drop_all, take_all}
use Rattle.image_file.specs.Format.{end_rules, first_broken, header_bytes, header_of, header_rules, rules_of, start_rules}
use Rattle.image_file.specs.Image.{image_of}
use Rattle.image_file.specs.Made.{MadeIsRead, made_code, made_header}
use Rattle.image_file.proofs.FirstBroken.{kept_first}
use Rattle.image_file.proofs.Pieces.{code_short}

-- the file with this code
abbrev pub file_with : List ℕ → List ℕ
file_with code = header_bytes (made_header (length code)) ++ code

-- four bytes hold the length
four_bytes : (n : ℕ) → n < 2 ^ 32 →
    n % 256 + 256 * (n / 256 % 256 + 256 * (n / 65536 % 256 + 256 * (n / 16777216 % 256 + 256 * 0))) ≡ n
four_bytes n h = omega arith

header_is : (code : List ℕ) → length code < 2 ^ 32 → header_of (file_with code) ≡ made_header (length code)
unfolding header_of
header_is code h = ap made_header (four_bytes (length code) h)

start_kept : (code : List ℕ) → first_broken (start_rules (file_with code)) ≡ None
unfolding start_rules
start_kept code =
    let long : nat_le 64 (length (file_with code)) ≡ true = grind (arith, nat_tests) in
    rw long refl

header_kept : (len : ℕ) → 1 ≤ len → len ≤ 65536 → first_broken (header_rules (made_header len)) ≡ None
unfolding header_rules
header_kept len low high =
    let some : nat_le 1 len ≡ true = grind (arith, nat_tests) in
    let few : nat_le len 65536 ≡ true = grind (arith, nat_tests) in
    let within : nat_le len 131072 ≡ true = grind (arith, nat_tests) in
    let room : nat_le (len + 0) 131072 ≡ true = grind (arith, nat_tests) in
    rw (some, few, within, room) refl

end_kept : (code : List ℕ) → header_of (file_with code) ≡ made_header (length code) →
    first_broken (end_rules (file_with code)) ≡ None
unfolding end_rules
end_kept code is =
    let enough : nat_le (64 + length code + 0) (length (file_with code)) ≡ true = grind (arith, nat_tests) in
    let no_more : nat_le (length (file_with code)) (64 + length code + 0) ≡ true = grind (arith, nat_tests) in
    rw is (rw (enough, no_more) refl)

rules_kept : (code : List ℕ) → 1 ≤ length code → length code ≤ 65536 →
    header_of (file_with code) ≡ made_header (length code) → first_broken (rules_of (file_with code)) ≡ None
rules_kept code low high is =
    let bytes = file_with code in
    let numbers : first_broken (header_rules (header_of bytes)) ≡ None = rw is (header_kept (length code) low high) in
    kept_first (start_rules bytes) _ (start_kept code)
    ∙ kept_first (header_rules (header_of bytes)) _ numbers ∙ end_kept code is

pub file_is_read : (code : List ℕ) → 1 ≤ length code → length code ≤ 65536 →
    image_of (file_with code) ≡ Ok (record { header = made_header (length code); code = code; «data» = [] })
file_is_read code low high =
    let is = header_is code (omega arith) in
    let kept = rules_kept code low high is in
    let all = take_all (length code) code (omega arith) in
    let none = drop_all (length code) code (omega arith) in
    rw kept (rw is (rw (all, none) refl))

-- the image made from a number
pub made_is_read : (n : ℕ) → MadeIsRead n
made_is_read n = let short = code_short n in file_is_read (made_code n) short.0 (omega arith)
