-- Totals, lists of numbers, and what lists begin with.
use Rattle.std.proofs.Common.{◌≡◌, ℕ, zero, suc, ◌+◌, ◌≤◌, ◌<◌, List, [], ◌∷◌, ◌++◌, length, set, refl, ap, sym, ◌∙◌, arith, append_assoc, length-append}
use Rattle.std.proofs.lemmas.List.{append-nil}
use Rattle.std.proofs.lemmas.Bool.Decides.{nat_tests}
use mathlib.Core.Logic.{dite}
use native.Mathlib.Decide.{dec_le}
use mathlib.Core.Option.{some, some-injective, some-ne-none}
use lib.ListN.{get_elem?}
use Rattle.bus_lock.specs.Lists.{total, times, once_below, joined_up, StartsWith, AllBelow}

module _ {A : Type 0} (f : A → ℕ) where
  -- the total after a change of one item
  pub total_set : (l : List A) (i : ℕ) (v w : A) → get_elem? l i ≡ some v → total f (set l i w) + f v ≡ total f l + f w
  total_set [] i v w at = absurd (some-ne-none v (sym at))
  total_set (x ∷ xs) zero v w at = let e = ap f (some-injective x v at) in omega arith
  total_set (x ∷ xs) (suc i) v w at = let e = total_set xs i v w at in omega arith

  -- and after a change that leaves what the item adds
  pub total_same : (l : List A) (i : ℕ) (v w : A) → get_elem? l i ≡ some v → f w ≡ f v → total f (set l i w) ≡ total f l
  total_same l i v w at e = let t = total_set l i v w at in omega arith

  pub total_snoc : (l : List A) (w : A) → total f (l ++ w ∷ []) ≡ total f l + f w
  total_snoc [] w = omega arith
  total_snoc (x ∷ xs) w = let e = total_snoc xs w in omega arith

  -- one item is at most the total
  pub total_at : (l : List A) (i : ℕ) (v : A) → get_elem? l i ≡ some v → f v ≤ total f l
  total_at [] i v at = absurd (some-ne-none v (sym at))
  total_at (x ∷ xs) zero v at = let e = ap f (some-injective x v at) in omega arith
  total_at (x ∷ xs) (suc i) v at = let e = total_at xs i v at in omega arith

  -- two items are together at most the total
  pub total_two : (l : List A) (i j : ℕ) (v w : A) → (i ≡ j → ⊥) → get_elem? l i ≡ some v → get_elem? l j ≡ some w →
      f v + f w ≤ total f l
  total_two [] i j v w n at there = absurd (some-ne-none v (sym at))
  total_two (x ∷ xs) zero zero v w n at there = absurd (n refl)
  total_two (x ∷ xs) zero (suc j) v w n at there =
      let e = ap f (some-injective x v at) in let h = total_at xs j w there in omega arith
  total_two (x ∷ xs) (suc i) zero v w n at there =
      let e = ap f (some-injective x w there) in let h = total_at xs i v at in omega arith
  total_two (x ∷ xs) (suc i) (suc j) v w n at there =
      let h = total_two xs i j v w (λ e. n (ap suc e)) at there in omega arith

  -- a total that isn't 0 has an item that isn't
  pub total_some : (l : List A) → 0 < total f l → (i : ℕ) × (v : A) × (get_elem? l i ≡ some v) × (0 < f v)
  total_some [] p = absurd (omega arith)
  total_some (x ∷ xs) p = dite (dec_le 1 (f x))
      (λ some_part. (zero, x, refl, some_part))
      (λ none. let t = total_some xs (omega arith) in (suc t.0, t.1, t.2, t.3))

-- where one item has all of g, and f is 0 of each item that has none of g, it has all of f
module _ {A : Type 0} (f g : A → ℕ) where
  none_left : (l : List A) → total g l ≡ 0 →
      ((i : ℕ) (v : A) → get_elem? l i ≡ some v → g v ≡ 0 → f v ≡ 0) → total f l ≡ 0
  none_left [] e h = refl
  none_left (x ∷ xs) e h =
      let a : f x ≡ 0 = h 0 x refl (omega arith) in
      let b : total f xs ≡ 0 = none_left xs (omega arith) (λ i. h (suc i)) in omega arith

  pub all_of_it : (l : List A) (i : ℕ) (v : A) → get_elem? l i ≡ some v → total g l ≡ g v →
      ((j : ℕ) (w : A) → get_elem? l j ≡ some w → g w ≡ 0 → f w ≡ 0) → total f l ≡ f v
  all_of_it [] i v at e h = absurd (some-ne-none v (sym at))
  all_of_it (x ∷ xs) zero v at e h =
      let s = some-injective x v at in let a = ap g s in let b = ap f s in
      let c : total f xs ≡ 0 = none_left xs (omega arith) (λ i. h (suc i)) in omega arith
  all_of_it (x ∷ xs) (suc i) v at e h =
      let small = total_at g xs i v at in let a : f x ≡ 0 = h 0 x refl (omega arith) in
      let b : total f xs ≡ f v = all_of_it xs i v at (omega arith) (λ j. h (suc j)) in omega arith

pub times_append : (k : ℕ) (xs ys : List ℕ) → times k (xs ++ ys) ≡ times k xs + times k ys
times_append k [] ys = omega arith
times_append k (x ∷ xs) ys = let e = times_append k xs ys in omega arith

pub joined_append : (a b : List (List ℕ)) → joined_up (a ++ b) ≡ joined_up a ++ joined_up b
joined_append [] b = refl
joined_append (l ∷ ls) b = ap (λ z. l ++ z) (joined_append ls b) ∙ sym (append_assoc l (joined_up ls) (joined_up b))

-- one number more
pub once_more : (k n : ℕ) → once_below k n + times k (n ∷ []) ≡ once_below k (n + 1)
once_more k n = grind (arith, nat_tests)

pub once_in : (k n : ℕ) → k < n → once_below k n ≡ 1
once_in k n p = grind (arith, nat_tests)

pub once_out : (k n : ℕ) → n ≤ k → once_below k n ≡ 0
once_out k n p = grind (arith, nat_tests)

pub below_append : (n : ℕ) (xs ys : List ℕ) → AllBelow n xs → AllBelow n ys → AllBelow n (xs ++ ys)
below_append n [] ys a b = b
below_append n (x ∷ xs) ys a b = (a.0, below_append n xs ys a.1 b)

pub below_front : (n : ℕ) (xs ys : List ℕ) → AllBelow n (xs ++ ys) → AllBelow n xs
below_front n [] ys a = tt
below_front n (x ∷ xs) ys a = (a.0, below_front n xs ys a.1)

pub below_back : (n : ℕ) (xs ys : List ℕ) → AllBelow n (xs ++ ys) → AllBelow n ys
below_back n [] ys a = a
below_back n (x ∷ xs) ys a = below_back n xs ys a.1

pub below_more : (n m : ℕ) (xs : List ℕ) → n ≤ m → AllBelow n xs → AllBelow m xs
below_more n m [] le a = tt
below_more n m (x ∷ xs) le a = let h = a.0 in (omega arith, below_more n m xs le a.1)

module _ {A : Type 0} where
  pub set_at : (l : List A) (i : ℕ) (v w : A) → get_elem? l i ≡ some v → get_elem? (set l i w) i ≡ some w
  set_at [] i v w at = absurd (some-ne-none v (sym at))
  set_at (x ∷ xs) zero v w at = refl
  set_at (x ∷ xs) (suc i) v w at = set_at xs i v w at

  pub starts_self : (xs : List A) → StartsWith xs xs
  starts_self xs = ([], sym (append-nil xs))

  pub starts_longer : (list items more : List A) → StartsWith list items → StartsWith (list ++ more) items
  starts_longer list items more s = (s.0 ++ more, ap (λ l. l ++ more) s.1 ∙ append_assoc items s.0 more)

  -- of two beginnings of one list the shorter begins the longer
  pub starts_shorter : (list a b : List A) → StartsWith list a → StartsWith list b → length a ≤ length b →
      StartsWith b a
  starts_shorter list [] b p q le = (b, refl)
  starts_shorter list (x ∷ xs) [] p q le = absurd (omega arith)
  starts_shorter [] (x ∷ xs) (y ∷ ys) p q le = absurd (let e = p.1 in cc e)
  starts_shorter (z ∷ zs) (x ∷ xs) (y ∷ ys) p q le =
      let e = p.1 in let f = q.1 in let heads : y ≡ x = cc (e, f) in
      let rest = starts_shorter zs xs ys (p.0, cc e) (q.0, cc f) (omega arith) in
      (rest.0, let g = rest.1 in cc (heads, g))

  pub starts_length : (list items : List A) → StartsWith list items → length items ≤ length list
  starts_length list items s = omega (arith, ap length s.1, length-append items s.0)
