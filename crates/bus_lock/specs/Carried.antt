-- What contracts see of a lock, of a pass and of a seat at the lock's table.
use Rattle.std.specs.Prelude.{◌≡◌, ℕ, List, [], ◌∷◌}
use Rattle.atomic_table.specs.Seated.{TableId}
use Rattle.bus_lock.specs.declared.view.View.{View}
use Rattle.bus_lock.specs.Views.{spent}

-- a lock: its table, and the vCPUs and the input of the host that it was opened with
pub record Opened : Type 0 where
  pub table : TableId
  pub vcpus : ℕ
  pub input : List ℕ

-- a pass: the table that it is of, its number there, and what it knows
pub record Carried : Type 0 where
  pub table : TableId
  pub id : ℕ
  pub view : View

-- the view of a badge
abbrev pub view_in : List View → View
view_in [] = spent
view_in (v ∷ vs) = v

-- `new` or `split` of this lock gave the pass
abbrev pub IsOf : Opened → Carried → Type 0
IsOf lock pass = (pass.table ≡ lock.table) × (pass.view.vcpus ≡ lock.vcpus) × (pass.view.input ≡ lock.input)

-- the table of a lock: two words and one slot
abbrev pub IsBoard : TableId → Type 0
IsBoard table = (table.words ≡ 2) × (table.slots ≡ 1)

-- a seat is of a lock's table
abbrev pub IsAt : TableId → TableId → Type 0
IsAt seat table = (seat ≡ table) × IsBoard table
