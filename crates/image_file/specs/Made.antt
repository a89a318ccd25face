-- The image that is made from a number: its code is 4,096 pieces that a generator of numbers chooses, then HLT.
use Rattle.std.specs.Prelude.{◌≡◌, ℕ, ◌+◌, ◌*◌, ◌/◌, ◌%◌, ◌^◌, zero, suc, ◌==◌, if◌then◌else◌, List, [], ◌∷◌, ◌++◌, length, Ok}
use Rattle.std.specs.List.{flat_map}
use Rattle.image_file.specs.declared.header.Header.{Header}
use Rattle.image_file.specs.declared.made.Piece.{Piece}
use Rattle.image_file.specs.declared.made.Piece.TheVariants.{Out, Add, ReadTsc, Store}
use Rattle.image_file.specs.Format.{header_bytes}
use Rattle.image_file.specs.Image.{Contents, image_of}

-- a step of the generator
abbrev pub step_of : ℕ → ℕ
step_of x = (x * 6364136223846793005 + 1442695040888963407) % 2 ^ 64

-- the piece of a kind, 0 to 3, where two kinds have a byte
abbrev pub piece_of_kind : ℕ → ℕ → Piece
piece_of_kind kind byte =
    if kind == 0 then Out byte else
    (if kind == 1 then Add byte else (if kind == 2 then ReadTsc else Store))

-- the piece that a number chooses: bits 34:33 are its kind, and its byte is one of the 95 printable characters
abbrev pub piece_of : ℕ → Piece
piece_of x = piece_of_kind (x / 2 ^ 33 % 4) (32 + x / 2 ^ 40 % 95)

-- the pieces of so many steps from a number
unfoldable pub pieces_of : ℕ → ℕ → List Piece
pieces_of zero x = []
pieces_of (suc steps) x = let next = step_of x in piece_of next ∷ pieces_of steps next

-- the code bytes of a piece: MOV EDX, 3F8h, MOV AL, byte and OUT DX, AL; ADD EBX, byte; RDTSC; MOV [10000h], EBX
abbrev pub code_of : Piece → List ℕ
code_of (Out byte) = 0xBA ∷ 0xF8 ∷ 0x03 ∷ 0 ∷ 0 ∷ 0xB0 ∷ byte ∷ 0xEE ∷ []
code_of (Add byte) = 0x83 ∷ 0xC3 ∷ byte ∷ []
code_of ReadTsc = 0x0F ∷ 0x31 ∷ []
code_of Store = 0x89 ∷ 0x1C ∷ 0x25 ∷ 0 ∷ 0 ∷ 1 ∷ 0 ∷ []

-- the code: the pieces of 4,096 steps from the number, then HLT
abbrev pub made_code : ℕ → List ℕ
made_code n = flat_map code_of (pieces_of 4096 n) ++ 0xF4 ∷ []

-- the header: 4 virtual processors, RAM of 131,072 bytes, so much code, and all else 0
abbrev pub made_header : ℕ → Header
made_header code_len = record {
  vcpus = 4;
  ram_size = 131072;
  code_len = code_len;
  data_len = 0;
  entry = 0;
  vector_ud = 0;
  vector_gp = 0;
  secret_start = 0;
  secret_len = 0;
}

-- what the image holds: the header, the code, and no data
abbrev pub made_contents : ℕ → Contents
made_contents n = let code = made_code n in record { header = made_header (length code); code = code; «data» = [] }

-- the file: the header's bytes, then the code
abbrev pub made : ℕ → List ℕ
made n = let code = made_code n in header_bytes (made_header (length code)) ++ code

-- the file meets the rules, and is read as what the image holds
abbrev pub MadeIsRead : ℕ → Type 0
MadeIsRead n = image_of (made n) ≡ Ok (made_contents n)
