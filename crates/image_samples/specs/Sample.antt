-- The file of a small image: one virtual processor with one page of RAM, a code that starts at address 0, and no data.
use Rattle.std.specs.Prelude.{◌≡◌, ℕ, ◌-◌, ◌%◌, ◌^◌, List, [], ◌∷◌, ◌++◌, length, codes, replicate, take, Result, Err}
use Rattle.std.specs.Int.{w32, to_le_bytes}
use Rattle.image_file.specs.Image.{Contents}
use Rattle.image_file.specs.declared.fault.ImageError.{ImageError}
use Rattle.image_file.specs.declared.fault.ImageError.TheVariants.{Fault, OutOfMemory}
use Rattle.image_file.specs.declared.fault.ImageFault.{ImageFault}

-- cut or filled up with zeros to a length
abbrev pub padded : ℕ → List ℕ → List ℕ
padded len bytes = take len bytes ++ replicate (len - length bytes) 0

-- the magic, one virtual processor, and RAM of 4,096 bytes
abbrev pub start : List ℕ
start = codes "GHCBIMG1" ++ (1 ∷ 0 ∷ 0 ∷ 0 ∷ 0 ∷ 0x10 ∷ 0 ∷ 0 ∷ [])

-- the file, with the addresses of the handlers of #UD and #GP
abbrev pub sample_of : List ℕ → ℕ → ℕ → List ℕ
sample_of code ud gp =
    let with_len = padded 28 (start ++ to_le_bytes w32 (length code % 2 ^ 32)) in
    let with_vectors = with_len ++ to_le_bytes w32 ud ++ to_le_bytes w32 gp in
    padded 64 with_vectors ++ code

-- a fault is the one that the image has; memory may run out for any
abbrev pub IsFaultOf : Result Contents ImageFault → ImageError → Type 0
IsFaultOf image (Fault fault) = image ≡ Err fault
IsFaultOf image OutOfMemory = Unit {0}
