-- Tests, without opening what they test.
use Rattle.std.proofs.Common.{◌≡◌, Bool, true, false, cond, refl, inl, inr}
use Rattle.std.specs.Prelude.{◌⊎◌}

pub bool_cases : (t : Bool) → (t ≡ true) ⊎ (t ≡ false)
bool_cases true = inl refl
bool_cases false = inr refl

-- past a test of a mark. (A rewrite by c.rep ≡ false would open c into its fields.)
pub past : {A : Type 0} (t : Bool) (x y z : A) → t ≡ false → y ≡ z → cond t x y ≡ z
past true x y z e h = absurd cc
past false x y z e h = h

pub passed : {A : Type 0} (t : Bool) (x y z : A) → t ≡ false → cond t x y ≡ z → y ≡ z
passed true x y z e h = absurd cc
passed false x y z e h = h

pub stopped : {A : Type 0} (t : Bool) (x y z : A) → t ≡ true → cond t x y ≡ z → x ≡ z
stopped true x y z e h = h
stopped false x y z e h = absurd cc

pub stops : {A : Type 0} (t : Bool) (x y z : A) → t ≡ true → x ≡ z → cond t x y ≡ z
stops true x y z e h = h
stops false x y z e h = absurd cc
