-- The stores of a change that are left, one step on.
use Rattle.std.proofs.Common.{◌≡◌, ℕ, zero, suc, ◌-◌, [], ◌∷◌, refl, arith}
use Rattle.image_file.specs.Made.{step_of}
use Rattle.hostile_host.specs.declared.changes.Store.{Store}
use Rattle.hostile_host.specs.Live.{store_chosen_by, stores_from}

-- none is left
pub stores_none : (left number : ℕ) → left ≡ 0 → stores_from left number ≡ []
unfolding stores_from
stores_none zero number e = refl
stores_none (suc left) number e = cc

-- one is left
stores_next : (left rest number : ℕ) → left ≡ suc rest →
    stores_from left number ≡ store_chosen_by (step_of number) ∷ stores_from rest (step_of number)
unfolding stores_from
stores_next left rest number e = rw e refl

-- one is given: the first of those that were left
pub stores_more : (left number next : ℕ) (given : Store) → (left ≡ 0 → ⊥) → next ≡ step_of number
    → given ≡ store_chosen_by next → stores_from left number ≡ given ∷ stores_from (left - 1) next
stores_more left number next given some step chosen =
    let one = stores_next left (left - 1) number (omega (arith, some)) in
    rw (chosen, step) one
