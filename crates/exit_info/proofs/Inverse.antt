-- The word of an access is read as the access, and an access that was read has the word.
use Rattle.std.proofs.Common.{◌≡◌, ◌∙◌, ap, ℕ, ◌+◌, ◌*◌, ◌/◌, ◌^◌, ◌<◌, ◌≤◌, ◌==◌, ◌⊎◌, if◌then◌else◌, Bool, true, false, not, Some, Result, Ok, Err, refl, arith, sum_by}
use Rattle.std.proofs.lemmas.Grind.{common_steps}
use Rattle.exit_info.specs.declared.io_info.IoInfo.{IoInfo}
use Rattle.exit_info.specs.declared.io_info.BadInfo.{BadInfo}
use Rattle.exit_info.specs.declared.io_info.BadInfo.TheVariants.{Reserved}
use Rattle.word_bits.specs.Bits.{number_in}
use Rattle.exit_info.specs.IoInfo.{IsLawfulInfo, IsInfoWord, flag, layout, info_word, taken, info_of, one_bit_of, size_in, address_size_in, with_size, with_address, has_reserved}

pub flag_le : (b : Bool) → flag b ≤ 1
flag_le true = omega arith
flag_le false = omega arith

flag-one : (b : Bool) → (flag b == 1) ≡ b
flag-one true = refl
flag-one false = refl

flag-bit : (n : ℕ) → n < 2 → flag (n == 1) ≡ n
flag-bit n small = grind (arith, common_steps)

-- one bit of three is set
abbrev IsOneBit : ℕ → Type 0
IsOneBit n = (n ≡ 1) ⊎ (n ≡ 2) ⊎ (n ≡ 4)

one-bit_below : (n : ℕ) → IsOneBit n → n < 8
one-bit_below n h = grind (arith, common_steps)

one_bit_of-Some : (unit n v : ℕ) → one_bit_of unit n ≡ Some v → IsOneBit n × (unit * n ≡ v)
one_bit_of-Some unit n v e = grind (arith, common_steps)

one_bit_of-bit : (unit n v : ℕ) → IsOneBit n → unit * n ≡ v → one_bit_of unit n ≡ Some v
one_bit_of-bit unit n v bit e = grind (arith, common_steps)

-- a size in bytes and an address size in units of 16 bits are one bit
abbrev IsSize : ℕ → Type 0
IsSize size = (size ≡ 8) ⊎ (size ≡ 16) ⊎ (size ≡ 32)

abbrev IsAddress : ℕ → Type 0
IsAddress address = (address ≡ 16) ⊎ (address ≡ 32) ⊎ (address ≡ 64)

size-bit : (size : ℕ) → IsSize size → IsOneBit (size / 8) × (8 * (size / 8) ≡ size)
size-bit size h = grind (arith, common_steps)

address-bit : (address : ℕ) → IsAddress address → IsOneBit (address / 16) × (16 * (address / 16) ≡ address)
address-bit address h = grind (arith, common_steps)

bit-size : (n size : ℕ) → IsOneBit n → 8 * n ≡ size → IsSize size
bit-size n size h e = grind (arith, common_steps)

bit-address : (n address : ℕ) → IsOneBit n → 16 * n ≡ address → IsAddress address
bit-address n address h e = grind (arith, common_steps)

-- the tests in their order
pub info_of-taken : (word size address : ℕ)
    → has_reserved word ≡ false → size_in word ≡ Some size → address_size_in word ≡ Some address
    → info_of word ≡ Ok (taken word size address)
info_of-taken word size address clear sized addressed =
    let tested : Bool → Result IoInfo BadInfo = λ b. if b then Err (Reserved word) else with_size word (size_in word) in
    ap tested clear ∙ ap (with_size word) sized ∙ ap (with_address word size) addressed

-- the parts of a word are what was put there
record Parts (word p s a z r t i : ℕ) : Type 0 where
  port : number_in word layout.port ≡ p
  segment : number_in word layout.segment ≡ s
  address : number_in word layout.address ≡ a
  size : number_in word layout.size ≡ z
  rep : number_in word layout.rep ≡ r
  string : number_in word layout.string ≡ t
  input : number_in word layout.input ≡ i
  reserved : sum_by (number_in word) layout.reserved ≡ 0

parts : (word port segment address size rep string input : ℕ)
    → port < 2 ^ 16 → segment < 8 → address < 8 → size < 8 → rep ≤ 1 → string ≤ 1 → input ≤ 1
    → port * 2 ^ 16 + segment * 2 ^ 10 + address * 2 ^ 7 + size * 2 ^ 4 + rep * 2 ^ 3 + string * 2 ^ 2 + input * 2 ^ 0 ≡ word
    → Parts word port segment address size rep string input
parts word port segment address size rep string input port_fits segment_fits address_fits size_fits rep_fits string_fits input_fits e =
    record {
      port = omega arith;
      segment = omega arith;
      address = omega arith;
      size = omega arith;
      rep = omega arith;
      string = omega arith;
      input = omega arith;
      reserved = omega arith;
    }

pub info_of-word_of : (i : IoInfo) → IsLawfulInfo i → info_of (info_word i) ≡ Ok i
info_of-word_of i lawful =
    let word : ℕ = info_word i in
    let size = size-bit i.size lawful.size in
    let address = address-bit i.address lawful.address in
    let p =
    parts word i.port i.segment (i.address / 16) (i.size / 8) (flag i.rep) (flag i.string) (flag i.input)
    lawful.port lawful.segment (one-bit_below _ address.0) (one-bit_below _ size.0)
    (flag_le i.rep) (flag_le i.string) (flag_le i.input) refl in
    let is_one : ℕ → Bool = λ n. n == 1 in
    let is_some : ℕ → Bool = λ n. not (n == 0) in
    let rep : (number_in word layout.rep == 1) ≡ i.rep = ap is_one p.rep ∙ flag-one i.rep in
    let string : (number_in word layout.string == 1) ≡ i.string = ap is_one p.string ∙ flag-one i.string in
    let input : (number_in word layout.input == 1) ≡ i.input = ap is_one p.input ∙ flag-one i.input in
    let same : taken word i.size i.address ≡ i =
    λ j. record { port = p.port j; input = input j; string = string j; rep = rep j; size = i.size; address = i.address; segment = p.segment j } in
    let sized = ap (one_bit_of 8) p.size ∙ one_bit_of-bit 8 (i.size / 8) i.size size.0 size.1 in
    let addressed = ap (one_bit_of 16) p.address ∙ one_bit_of-bit 16 (i.address / 16) i.address address.0 address.1 in
    info_of-taken word i.size i.address (ap is_some p.reserved) sized addressed ∙ ap Ok same

pub word_of-taken : (word size address : ℕ) → word < 2 ^ 64
    → has_reserved word ≡ false → size_in word ≡ Some size → address_size_in word ≡ Some address
    → IsInfoWord (taken word size address) word
word_of-taken word size address small clear sized addressed =
    let zero : sum_by (number_in word) layout.reserved ≡ 0 = grind (arith, common_steps) in
    let s = one_bit_of-Some 8 (number_in word layout.size) size sized in
    let a = one_bit_of-Some 16 (number_in word layout.address) address addressed in
    let rep = flag-bit (number_in word layout.rep) (omega arith) in
    let string = flag-bit (number_in word layout.string) (omega arith) in
    let input = flag-bit (number_in word layout.input) (omega arith) in
    (record { size = bit-size _ size s.0 s.1; address = bit-address _ address a.0 a.1; segment = omega arith; port = omega arith }, omega arith)
