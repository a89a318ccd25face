-- What files and a sink tell of themselves.
use Rattle.std.specs.Prelude.{◌≡◌, ℕ, ◌+◌, ◌-◌, ◌^◌, ◌≤◌, ◌⊎◌, min, Bool, true, List, ◌++◌, Option, Some, None, IsSome, IsSomeAnd, option_map, length, take, drop}

-- a folder by the bytes of its names, where it is told, how many faults there were, and whether it is told that no read of a
-- file that is there is to fail
pub record FilesTold : Type 0 where
  pub folder : Option (List ℕ → Option (List ℕ))
  pub faults : ℕ
  pub is_reliable : Bool

-- what was written, where it is told, how many faults there were, and how many bytes can be put without one, where that is told
pub record SinkTold : Type 0 where
  pub written : Option (List ℕ)
  pub faults : ℕ
  pub room : Option ℕ

-- it is told that the file is there and that no read of it is to fail
abbrev pub IsReadable : FilesTold → List ℕ → Type 0
IsReadable shelf name = (shelf.is_reliable ≡ true) × IsSomeAnd shelf.folder (λ folder. IsSome (folder name))

-- it is told that so many bytes can be put
abbrev pub HasSpace : SinkTold → ℕ → Type 0
HasSpace paper count = IsSomeAnd paper.room (λ room. count ≤ room)

-- the count has risen, or stands at its type's end
abbrev pub Rose : ℕ → ℕ → Type 0
Rose before now = min (before + 1) (2 ^ 64 - 1) ≤ now

-- The first n bytes of the slice are the file's from `at` on; there is none only where the slice is empty or the file has no more.
pub record Piece (folder : List ℕ → Option (List ℕ)) (name : List ℕ) (at n : ℕ) (into : List ℕ) : Type 0 where
  pub bytes : List ℕ
  pub named : folder name ≡ Some bytes
  pub copied : take n into ≡ take n (drop at bytes)
  pub within : n ≤ length bytes - at
  pub ended : n ≡ 0 → (length into ≡ 0) ⊎ (length bytes ≤ at)

-- these bytes were written after what was written before
abbrev pub wrote : Option (List ℕ) → List ℕ → Option (List ℕ)
wrote written bytes = option_map (λ w. w ++ bytes) written

-- a prefix of the bytes was written; where nothing is told of what was written, nothing is told
abbrev pub Puts : Option (List ℕ) → List ℕ → Option (List ℕ) → Type 0
Puts (Some w) bytes new = (n : ℕ) × (new ≡ Some (w ++ take n bytes))
Puts None bytes new = new ≡ None

-- a read of this file failed, of which it isn't told that it could be read
pub record FailsToRead (name : List ℕ) (old new : FilesTold) : Type 0 where
  pub rose : Rose old.faults new.faults
  pub unreadable : IsReadable old name → ⊥

-- reads leave the folder, and what is told of failing, and forget no fault
pub record AreRead (old new : FilesTold) : Type 0 where
  pub folder : new.folder ≡ old.folder
  pub reliable : new.is_reliable ≡ old.is_reliable
  pub later : old.faults ≤ new.faults

-- a write of this text failed, for which no room was told
pub record FailsToPut (text : List ℕ) (old new : SinkTold) : Type 0 where
  pub rose : Rose old.faults new.faults
  pub part : Puts old.written text new.written
  pub full : HasSpace old (length text) → ⊥
