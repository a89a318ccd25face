-- What is read from a page, one load or reading of the MSR after another.
use Rattle.std.specs.Prelude.{ℕ}

-- A program comes to a value, or loads a word or reads the MSR and goes on with what came.
pub data Program (X : Type 0) : Type 0 where
  pure : X → Program X
  loading : ℕ → (ℕ → Program X) → Program X
  reading : (ℕ → Program X) → Program X

-- one program, and then the next with its value
infixl 10 ◌>>=◌
unfoldable pub ◌>>=◌ : {X Y : Type 0} → Program X → (X → Program Y) → Program Y
(pure x) >>= g = g x
(loading n next) >>= g = loading n (λ v. next v >>= g)
(reading next) >>= g = reading (λ v. next v >>= g)

abbrev pub load : ℕ → Program ℕ
load n = loading n (λ v. pure v)

abbrev pub read_msr : Program ℕ
read_msr = reading (λ v. pure v)

-- what a program comes to over a page that stands still, by its words and its MSR word
abbrev pub found : {X : Type 0} → Program X → (ℕ → ℕ) → ℕ → X
found (pure x) word msr = x
found (loading n next) word msr = found (next (word n)) word msr
found (reading next) word msr = found (next msr) word msr
