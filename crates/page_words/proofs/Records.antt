-- Items over a page that is recorded, and the first items of a dialogue.
use Rattle.std.proofs.Common.{◌≡◌, ℕ, List, [], ◌∷◌, ◌++◌, Some, refl, ap, sym, ◌∙◌, subst, append_assoc}
use Rattle.std.specs.Prelude.{drop}
use Rattle.std.proofs.lemmas.List.{append-nil}
use Rattle.page_words.specs.declared.item.Item.{Item}
use Rattle.page_words.specs.declared.item.Item.TheVariants.{Store, Exit, Load, Msr}
use Rattle.page_words.specs.Told.{Told, told_after, told_after_all, Gives, GivesAll, Makes}
use Rattle.page_words.specs.Dialogue.{Dialogue, over, saying, asking, hearing, Runs, FollowsPart, values_of, IsPrefix, answered_by}
use Rattle.page_words.specs.Recording.{roomless}

roomless-after : (t : Told) (item : Item) → roomless (told_after t item) ≡ told_after (roomless t) item
roomless-after t (Store word value) = refl
roomless-after t (Exit value) = refl
roomless-after t (Load word value) = refl
roomless-after t (Msr value) = refl

roomless-after_all : (t : Told) (items : List Item) → roomless (told_after_all t items) ≡ told_after_all (roomless t) items
roomless-after_all t [] = refl
roomless-after_all t (x ∷ xs) = roomless-after_all (told_after t x) xs ∙ ap (λ w. told_after_all w xs) (roomless-after t x)

gives_roomless : (t : Told) (item : Item) → Gives t item → Gives (roomless t) item
gives_roomless t (Store word value) gives = gives
gives_roomless t (Exit value) gives = gives
gives_roomless t (Load word value) gives = gives
gives_roomless t (Msr value) gives = gives

GivesAll-roomless : (t : Told) (items : List Item) → GivesAll t items → GivesAll (roomless t) items
GivesAll-roomless t [] gives = tt
GivesAll-roomless t (x ∷ xs) gives =
    (gives_roomless t x gives.0, subst (λ w. GivesAll w xs) (roomless-after t x) (GivesAll-roomless (told_after t x) xs gives.1))

-- the same items, whatever room there is
pub makes_roomless : (t u : Told) (items : List Item) → Makes t items u → Makes (roomless t) items (roomless u)
makes_roomless t u items makes = record {
  leaves = ap roomless makes.leaves ∙ roomless-after_all t items;
  gives = GivesAll-roomless t items makes.gives;
}

pub runs_roomless : {X : Type 0} (d : Dialogue X) (x : X) (t u : Told) → Runs d x t u → Runs d x (roomless t) (roomless u)
runs_roomless d x t u runs = record { items = runs.items; makes = makes_roomless t u runs.items runs.makes; goes = runs.goes }

trace-after : (t : Told) (item : Item) (before : List Item) → t.trace ≡ Some before → (told_after t item).trace ≡ Some (before ++ item ∷ [])
trace-after t (Store word value) before told = rw told refl
trace-after t (Exit value) before told = rw told refl
trace-after t (Load word value) before told = rw told refl
trace-after t (Msr value) before told = rw told refl

-- a trace that is told gets exactly these items
pub trace-after_all : (t : Told) (items before : List Item) → t.trace ≡ Some before → (told_after_all t items).trace ≡ Some (before ++ items)
trace-after_all t [] before told = told ∙ ap Some (sym (append-nil before))
trace-after_all t (x ∷ xs) before told =
    trace-after_all (told_after t x) xs (before ++ x ∷ []) (trace-after t x before told) ∙ ap Some (append_assoc before (x ∷ []) xs)

-- the first items of what a dialogue takes of words that begin with their values
pub opens_taken : {X : Type 0} (d : Dialogue X) (items : List Item) (words : List ℕ) → FollowsPart d items → IsPrefix (values_of items) words →
    (more : List Item) × ((answered_by d words).items ≡ items ++ more)
opens_taken d [] words opens begins = ((answered_by d words).items, refl)
opens_taken (over z) (_ ∷ _) words opens begins = absurd opens
opens_taken (saying said rest) (Store n v ∷ items) words opens begins =
    let more = opens_taken rest items words opens.1 begins in
    (more.0, ap (λ (is : List Item). said ∷ is) more.1 ∙ ap (λ (i : Item). i ∷ (items ++ more.0)) opens.0)
opens_taken (saying said rest) (Exit v ∷ items) words opens begins =
    let more = opens_taken rest items words opens.1 begins in
    (more.0, ap (λ (is : List Item). said ∷ is) more.1 ∙ ap (λ (i : Item). i ∷ (items ++ more.0)) opens.0)
opens_taken (saying said rest) (Load n v ∷ items) words opens begins = absurd opens
opens_taken (saying said rest) (Msr v ∷ items) words opens begins = absurd opens
opens_taken (asking n next) (Store m v ∷ items) words opens begins = absurd opens
opens_taken (asking n next) (Exit v ∷ items) words opens begins = absurd opens
opens_taken (asking n next) (Load m v ∷ items) words opens begins =
    let more = opens_taken (next v) items (drop 1 words) opens.1 begins.1 in (
      more.0,
      ap (λ w. Load n w ∷ (answered_by (next w) (drop 1 words)).items) (sym begins.0)
          ∙ ap (λ (is : List Item). Load n v ∷ is) more.1
          ∙ ap (λ k. Load k v ∷ (items ++ more.0)) opens.0,
    )
opens_taken (asking n next) (Msr v ∷ items) words opens begins = absurd opens
opens_taken (hearing next) (Store m v ∷ items) words opens begins = absurd opens
opens_taken (hearing next) (Exit v ∷ items) words opens begins = absurd opens
opens_taken (hearing next) (Load m v ∷ items) words opens begins = absurd opens
opens_taken (hearing next) (Msr v ∷ items) words opens begins =
    let more = opens_taken (next v) items (drop 1 words) opens begins.1 in (
      more.0,
      ap (λ w. Msr w ∷ (answered_by (next w) (drop 1 words)).items) (sym begins.0) ∙ ap (λ (is : List Item). Msr v ∷ is) more.1,
    )
