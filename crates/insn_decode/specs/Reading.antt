-- Reading from left to right.
use Rattle.std.specs.Prelude.{◌≡◌, ℕ, ◌-◌, true, false, ◌&&◌, not, if◌then◌else◌, ◌==◌, nat_lt, Option, Some, None, Result, Ok, Err, List, [], ◌∷◌, length, get_or, take, drop}
use Rattle.x86_base.specs.declared.insn.Insn.{Insn}
use Rattle.x86_base.specs.declared.row.Row.{Row}
use Rattle.x86_base.specs.declared.row.Context.{Context}
use Rattle.insn_decode.specs.declared.reader.Refusal.{Refusal}
use Rattle.insn_decode.specs.declared.reader.Refusal.TheVariants.{End, Never}
use Rattle.insn_decode.specs.declared.fault.DecodeFault.{DecodeFault}
use Rattle.insn_decode.specs.declared.fault.DecodeFault.TheVariants.{TooLong, Short, Undecoded}
use Rattle.x86_base.specs.ModRm.{allows, has_modrm, modrm, accepts, tail_len}
use Rattle.x86_base.specs.Operands.{insn_of}
use Rattle.x86_base.specs.Spelling.{is_prefix}
use Rattle.x86_base.specs.Table.{one_byte, two_bytes, three_bytes, within}

infixl 10 ◌>>=◌
abbrev pub ◌>>=◌ : {A B : Type 0} → Result A Refusal → (A → Result B Refusal) → Result B Refusal
(Ok x) >>= f = f x
(Err e) >>= f = Err e

-- what a function of the code returned, seen by view
abbrev pub Gives : {X Y : Type 0} → (X → Y) → Result X Refusal → Result Y Refusal → Type 0
Gives view (Ok x) read = read ≡ Ok (view x)
Gives view (Err e) read = read ≡ Err e

-- what a function of the code returned that puts what it finds in its place
abbrev pub filled : {A X E : Type 0} → Result A E → X → Result X E
filled (Ok _) x = Ok x
filled (Err e) x = Err e

abbrev pub start : Context
start = record { size = false; rep = false; rex = None }

abbrev pub marked : Context → ℕ → Context
marked c b = if b == 0x66 then record c { size = true } else record c { rep = true }

unfoldable pub prefixes_at : Context → List ℕ → Context × List ℕ
prefixes_at c [] = (c, [])
prefixes_at c (b ∷ rest) = if is_prefix b then prefixes_at (marked c b) rest else (c, b ∷ rest)

unfoldable pub rex_at : Context → List ℕ → Context × List ℕ
rex_at c [] = (c, [])
rex_at c (b ∷ rest) = if within 0x40 0x4F b then (record c { rex = Some b }, rest) else (c, b ∷ rest)

unfoldable pub chosen : Context → Option Row → List ℕ → Result (Row × List ℕ) Refusal
chosen c None rest = Err Never
chosen c (Some r) rest = if allows c r then Ok (r, rest) else Err Never

unfoldable pub third_at : Context → List ℕ → Result (Row × List ℕ) Refusal
third_at c [] = if c.size then Err Never else Err End
third_at c (b ∷ rest) = chosen c (three_bytes b) rest

unfoldable pub second_at : Context → List ℕ → Result (Row × List ℕ) Refusal
second_at c [] = Err End
second_at c (b ∷ rest) = if b == 1 then third_at c rest else chosen c (two_bytes b) rest

unfoldable pub opcode_at : Context → List ℕ → Result (Row × List ℕ) Refusal
opcode_at c [] = Err End
opcode_at c (b ∷ rest) =
    if b == 0x0F then (if c.rep then Err Never else second_at c rest) else chosen c (one_byte b) rest

unfoldable pub tail_at : Context → Row → List ℕ → Result (List ℕ × List ℕ) Refusal
tail_at c r bytes =
    let len = tail_len c r (modrm r bytes) (get_or bytes 1 0) in
    if has_modrm r.form && (length bytes == 0) then Err End else
    (if not (accepts r (modrm r bytes)) then Err Never else
    (if nat_lt (length bytes) len then Err End else Ok (take len bytes, drop len bytes)))

unfoldable pub instruction_at : List ℕ → Result Insn Refusal
instruction_at bytes = do
  let p = prefixes_at start bytes
  let x = rex_at p.0 p.1
  r ← opcode_at x.0 x.1
  t ← tail_at x.0 r.0 r.1
  Ok (insn_of x.0 r.0 t.0 (length bytes - length t.1))

-- what an answer of the reader on the first 15 bytes means
abbrev pub decoded : ℕ → Result Insn Refusal → Result Insn DecodeFault
decoded len (Ok insn) = Ok insn
decoded len (Err End) = if nat_lt len 15 then Err Short else Err TooLong
decoded len (Err Never) = Err Undecoded

-- what all bytes are read as: the instruction at their front, or why there is none
-- (the law `read_by_spelling` says when each answer comes, by `Begins`, `IsTooLong`, `IsShort` and `SpellsNothing` alone)
unfoldable pub decode_of : List ℕ → Result Insn DecodeFault
decode_of bytes = decoded (length bytes) (instruction_at (take 15 bytes))
