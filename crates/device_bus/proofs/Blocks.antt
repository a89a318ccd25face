-- The accesses of a block, one element after another.
use Rattle.std.proofs.Common.{◌≡◌, ℕ, suc, ◌+◌, ◌-◌, ◌*◌, ◌<◌, Bool, true, false, List, [], ◌∷◌, ◌++◌, length, drop, ap, ◌∙◌, subst, arith, append_assoc, length-append}
use Rattle.std.specs.Prelude.{map, if◌then◌else◌}
use Rattle.image_file.specs.Number.{number_at}
use Rattle.event_table.specs.declared.access.Access.{Access}
use Rattle.event_table.specs.declared.block.Block.{Block}
use Rattle.event_table.specs.Elements.{access_with, bytes_in, bytes_of, numbers_in}
use Rattle.event_table.specs.Places.{Number}
use Rattle.device_bus.specs.Devices.{Devices, answer, after_access}
use Rattle.device_bus.specs.History.{value_in, values_to}
use Rattle.string_io.proofs.Runs.{length-bytes_of}
use Rattle.string_io.proofs.Whole.{numbers_more, value_at}

-- the accesses of a block from an element on
abbrev pub accesses_from : Block → ℕ → List Access
accesses_from b k =
    map (λ value. access_with b.input b.port b.size value) (numbers_in b.size (b.count - k) (drop (k * b.size) b.bytes))

pub accesses_more : (b : Block) (k : ℕ) → k < b.count →
    accesses_from b k ≡ access_with b.input b.port b.size (number_at b.size (k * b.size) b.bytes) ∷ accesses_from b (k + 1)
accesses_more b k h =
    let m = b.count - (k + 1) in
    let e : b.count - k ≡ suc m = omega arith in
    let next : (k + 1) * b.size ≡ k * b.size + b.size = grind arith in
    ap (λ (xs : List ℕ). map (λ value. access_with b.input b.port b.size value) xs)
    (numbers_more (b.count - k) m b.size (k * b.size) ((k + 1) * b.size) (number_at b.size (k * b.size) b.bytes) b.bytes e
    (value_at b.size (k * b.size) b.bytes) next)

-- the bytes that come back of accesses
abbrev pub bytes_back_of : Bool → ℕ → Devices → ℕ → List Access → List ℕ
bytes_back_of input size d i accesses =
    if input then bytes_in size (map (λ value. Number value) (values_to d i accesses)) else []

-- one value more comes back of an input
pub bytes_more : (input : Bool) (size i value : ℕ) (d d2 : Devices) (a : Access) (xs rest : List Access) (bytes bytes2 all : List ℕ) →
    input ≡ true → d2 ≡ after_access d i a → value ≡ value_in (answer d i a) → bytes2 ≡ bytes ++ bytes_of size value → xs ≡ a ∷ rest →
    bytes ++ bytes_back_of input size d i xs ≡ all → bytes2 ++ bytes_back_of input size d2 i rest ≡ all
bytes_more true size i value d d2 a xs rest bytes bytes2 all is moved said appended more was =
    rw (appended, moved, said)
    (append_assoc bytes (bytes_of size (value_in (answer d i a))) (bytes_back_of true size (after_access d i a) i rest)
    ∙ subst (λ (xs : List Access). bytes ++ bytes_back_of true size d i xs ≡ all) more was)
bytes_more false size i value d d2 a xs rest bytes bytes2 all is moved said appended more was = absurd cc

-- nothing comes back of an output
pub bytes_same : (input : Bool) (size i : ℕ) (d d2 : Devices) (xs rest : List Access) (bytes bytes2 all : List ℕ) →
    input ≡ false → bytes2 ≡ bytes → bytes ++ bytes_back_of input size d i xs ≡ all → bytes2 ++ bytes_back_of input size d2 i rest ≡ all
bytes_same true size i d d2 xs rest bytes bytes2 all is same was = absurd cc
bytes_same false size i d d2 xs rest bytes bytes2 all is same was = ap (λ (bs : List ℕ). bs ++ []) same ∙ was

pub full_more : (input : Bool) (size k value : ℕ) (bytes bytes2 : List ℕ) → input ≡ true → bytes2 ≡ bytes ++ bytes_of size value →
    length bytes ≡ (if input then k * size else 0) → length bytes2 ≡ (if input then (k + 1) * size else 0)
full_more true size k value bytes bytes2 is appended full =
    let long : length (bytes_of size value) ≡ size = length-bytes_of size value in
    let both : length bytes + length (bytes_of size value) ≡ (k + 1) * size = grind arith in
    ap length appended ∙ length-append bytes (bytes_of size value) ∙ both
full_more false size k value bytes bytes2 is appended full = absurd cc

pub full_same : (input : Bool) (size k : ℕ) (bytes bytes2 : List ℕ) → input ≡ false → bytes2 ≡ bytes →
    length bytes ≡ (if input then k * size else 0) → length bytes2 ≡ (if input then (k + 1) * size else 0)
full_same true size k bytes bytes2 is same full = absurd cc
full_same false size k bytes bytes2 is same full = ap length same ∙ full
