-- Facts of a row that may not be there.
use Rattle.std.proofs.Common.{◌≡◌, Bool, true, false, cond, Option, Some, None, subst}
use Rattle.x86_base.specs.declared.row.Row.{Row}

-- a fact of the row, if there is one
abbrev pub OnRow : (Row → Type 0) → Option Row → Type 0
OnRow P None = Unit {0}
OnRow P (Some r) = P r

pub OnRow-cond : (P : Row → Type 0) (t : Bool) (x y : Option Row) → OnRow P x → OnRow P y → OnRow P (cond t x y)
OnRow-cond P true x y p q = p
OnRow-cond P false x y p q = q

pub OnRow-some : (P : Row → Type 0) (o : Option Row) (r : Row) → OnRow P o → o ≡ Some r → P r
OnRow-some P o r p e = let Q : Option Row → Type 0 = OnRow P in let f : Q (Some r) = subst Q e p in f
