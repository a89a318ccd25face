-- Parts that are appended one after another.
use Rattle.std.proofs.Common.{◌≡◌, ◌∙◌, ap, List, ℕ, ◌++◌, append_assoc}
use Rattle.show_text.specs.Number.{labelled}

-- a labelled number is appended, which is this one
pub numbered : (old new label : List ℕ) (n m : ℕ) → new ≡ old ++ labelled label n → n ≡ m → new ≡ old ++ labelled label m
numbered old new label n m pushed is = pushed ∙ ap (λ (k : ℕ). old ++ labelled label k) is

pub then : (old mid new a b : List ℕ) → mid ≡ old ++ a → new ≡ mid ++ b → new ≡ old ++ (a ++ b)
then old mid new a b first second = second ∙ ap (λ (xs : List ℕ). xs ++ b) first ∙ append_assoc old a b
