-- A file that is read whole, or to one byte more than a limit.
use Rattle.std.specs.Prelude.{◌≡◌, ℕ, ◌+◌, ◌≤◌, List, Option, Some, IfSome, length, take}

-- the first bytes of the buffer are the file's, where the folder has it
abbrev pub HasRead : (List ℕ → Option (List ℕ)) → List ℕ → ℕ → List ℕ → Type 0
HasRead folder name filled buffer = (file : List ℕ) → folder name ≡ Some file → (take filled buffer ≡ take filled file) × (filled ≤ length file)

-- Between two reads: the buffer is filled so far, with the first bytes of the file where the folder is told, and it has no room
-- for more than one byte past the limit.
pub record IsReading (folder : Option (List ℕ → Option (List ℕ))) (name : List ℕ) (limit filled : ℕ) (buffer : List ℕ) : Type 0 where
  pub fits : filled ≤ length buffer
  pub within : length buffer ≤ limit + 1
  pub has : IfSome folder (λ f. HasRead f name filled buffer)

-- what is read is the file, or its first bytes up to one more than the limit
pub record IsRead (folder : List ℕ → Option (List ℕ)) (name : List ℕ) (limit : ℕ) (bytes : List ℕ) : Type 0 where
  pub file : List ℕ
  pub named : folder name ≡ Some file
  pub first : bytes ≡ take (limit + 1) file
