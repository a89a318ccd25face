-- Blocks, one element or one word after another.
use Rattle.std.proofs.Common.{◌≡◌, ℕ, zero, suc, ◌+◌, ◌-◌, ◌/◌, ◌%◌, ◌^◌, ◌≤◌, ◌⊎◌, inl, inr, Bool, true, false, nat_le, min, List, [], ◌∷◌, ◌++◌, take, refl, ap, sym, ◌∙◌, subst, arith}
use Rattle.std.proofs.lemmas.Bool.Decides.{nat_tests}
use Rattle.std.proofs.lemmas.Grind.{common_steps}
use Rattle.std.specs.Prelude.{map}
use Rattle.std.proofs.lemmas.Option.{same_Some}
use Rattle.page_words.specs.declared.item.Item.{Item}
use Rattle.page_words.specs.Told.{Told, Kept, Makes, keeping, kept_after, kept_after_all, store}
use Rattle.page_words.proofs.Making.{kept-after_all}
use Rattle.event_table.specs.Buffer.{bytes_from}
use Rattle.host_events.specs.Reading.{words_on}
use Rattle.event_table.specs.Elements.{bytes_of}

-- the first bytes of a number and of what follows it
pub take_bytes : (here n left w : ℕ) (rest : List ℕ) → here ≤ left → here ≤ n → (here ≡ left) ⊎ (here ≡ n) →
    take left (bytes_of n w ++ rest) ≡ bytes_of here w ++ take (left - here) rest
take_bytes zero n left w rest a b (inl is) = subst (λ k. take k (bytes_of n w ++ rest) ≡ take (k - 0) rest) is refl
take_bytes zero n left w rest a b (inr is) =
    let all : left ≡ left - 0 = omega arith in
    subst (λ k. take left (bytes_of k w ++ rest) ≡ take left rest) is refl ∙ ap (λ k. take k rest) all
take_bytes (suc here) zero left w rest a b is = absurd (omega arith)
take_bytes (suc here) (suc n) zero w rest a b is = absurd (omega arith)
take_bytes (suc here) (suc n) (suc left) w rest a b (inl is) =
    let less : left - here ≡ suc left - suc here = omega arith in
    ap (λ (xs : List ℕ). w % 2 ^ 8 ∷ xs)
    (take_bytes here n left (w / 2 ^ 8) rest (omega arith) (omega arith) (inl (omega arith)) ∙ ap (λ k. bytes_of here (w / 2 ^ 8) ++ take k rest) less)
take_bytes (suc here) (suc n) (suc left) w rest a b (inr is) =
    let less : left - here ≡ suc left - suc here = omega arith in
    ap (λ (xs : List ℕ). w % 2 ^ 8 ∷ xs)
    (take_bytes here n left (w / 2 ^ 8) rest (omega arith) (omega arith) (inr (omega arith)) ∙ ap (λ k. bytes_of here (w / 2 ^ 8) ++ take k rest) less)

-- one word more of the buffer
pub words_more : (word : ℕ → ℕ) (n m number number2 here left : ℕ) → n ≡ suc m → number2 ≡ number + 1 → here ≤ left → here ≤ 8 →
    (here ≡ left) ⊎ (here ≡ 8) →
    take left (bytes_from (words_on word n number)) ≡ bytes_of here (word number) ++ take (left - here) (bytes_from (words_on word m number2))
words_more word n m number number2 here left e after a b is =
    ap (λ k. take left (bytes_from (words_on word k number))) e
    ∙ take_bytes here 8 left (word number) (bytes_from (words_on word m (number + 1))) a b is
    ∙ ap (λ k. bytes_of here (word number) ++ take (left - here) (bytes_from (words_on word m k))) (sym after)

-- at most eight bytes of those that are left
min_by : (t : Bool) (here left : ℕ) → nat_le left 8 ≡ t → here ≡ min left 8 → (here ≡ left) ⊎ (here ≡ 8)
min_by true here left is e = inl (grind (arith, nat_tests, common_steps))
min_by false here left is e = inr (grind (arith, nat_tests, common_steps))

pub min_cases : (here left : ℕ) → here ≡ min left 8 → (here ≡ left) ⊎ (here ≡ 8)
min_cases here left e = min_by (nat_le left 8) here left refl e

-- a page that keeps its words, after items
pub makes_kept : (before page : Kept) (items : List Item) → Makes (keeping before) items (keeping page) → page ≡ kept_after_all before items
makes_kept before page items makes =
    same_Some _ _ (ap (λ (t : Told). t.kept) makes.leaves ∙ kept-after_all (keeping before) items before refl)

-- words that are stored one after another
pub stored_append : (page : Kept) (xs ys : List (ℕ × ℕ)) →
    kept_after_all page (map store (xs ++ ys)) ≡ kept_after_all (kept_after_all page (map store xs)) (map store ys)
stored_append page [] ys = refl
stored_append page (x ∷ xs) ys = stored_append (kept_after page (store x)) xs ys
