-- Items one after another.
use Rattle.std.proofs.Common.{◌≡◌, List, [], ◌∷◌, ◌++◌, Some, refl, ap, sym, ◌∙◌, subst}
use Rattle.page_words.specs.declared.item.Item.{Item}
use Rattle.page_words.specs.declared.item.Item.TheVariants.{Store, Exit, Load, Msr}
use Rattle.page_words.specs.Told.{Told, Kept, told_after, told_after_all, kept_after, kept_after_all, GivesAll, Makes}

after_all-append : (t : Told) (xs ys : List Item) → told_after_all t (xs ++ ys) ≡ told_after_all (told_after_all t xs) ys
after_all-append t [] ys = refl
after_all-append t (x ∷ xs) ys = after_all-append (told_after t x) xs ys

GivesAll-append : (t : Told) (xs ys : List Item) → GivesAll t xs → GivesAll (told_after_all t xs) ys → GivesAll t (xs ++ ys)
GivesAll-append t [] ys first second = second
GivesAll-append t (x ∷ xs) ys first second = (first.0, GivesAll-append (told_after t x) xs ys first.1 second)

pub makes_none : (t : Told) → Makes t [] t
makes_none t = record { leaves = refl; gives = tt }

pub makes_then : (t u v : Told) (xs ys : List Item) → Makes t xs u → Makes u ys v → Makes t (xs ++ ys) v
makes_then t u v xs ys first second = record {
  leaves = second.leaves ∙ ap (λ w. told_after_all w ys) first.leaves ∙ sym (after_all-append t xs ys);
  gives = GivesAll-append t xs ys first.gives (subst (λ w. GivesAll w ys) first.leaves second.gives);
}

kept-after : (t : Told) (item : Item) (k : Kept) → t.kept ≡ Some k → (told_after t item).kept ≡ Some (kept_after k item)
kept-after t (Store word value) k told = rw told refl
kept-after t (Exit value) k told = rw told refl
kept-after t (Load word value) k told = told
kept-after t (Msr value) k told = told

-- words that are told are changed by the items alone
pub kept-after_all : (t : Told) (items : List Item) (k : Kept) → t.kept ≡ Some k → (told_after_all t items).kept ≡ Some (kept_after_all k items)
kept-after_all t [] k told = told
kept-after_all t (x ∷ xs) k told = kept-after_all (told_after t x) xs (kept_after k x) (kept-after t x k told)
