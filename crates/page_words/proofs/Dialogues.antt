-- Dialogues, one after another, and what they come to over a page that tells its words.
use Rattle.std.proofs.Common.{◌≡◌, ℕ, List, [], ◌∷◌, ◌++◌, Some, refl, sym, ap, ◌∙◌, subst, rules}
use Rattle.std.specs.Prelude.{IfSome, drop, slice_index, option_map}
use Rattle.page_words.specs.declared.item.Item.{Item}
use Rattle.page_words.specs.declared.item.Item.TheVariants.{Store, Exit, Load, Msr}
use Rattle.page_words.specs.Told.{Told, Kept, Makes, GivesAll, told_after, told_after_all, kept_after}
use Rattle.page_words.specs.Programs.{Program, pure, loading, reading, found}
use Rattle.page_words.specs.Dialogue.{Dialogue, over, saying, asking, hearing, say, listen, ◌>>=◌, Follows, Runs, Reads, FollowsPart, RunsPart, values_of, IsPrefix, Taken, first, answered_by}
use Rattle.page_words.proofs.Same.{listen_then}
use Rattle.page_words.proofs.Making.{makes_then, makes_none}

-- what a dialogue leaves: its value, and the page
pub record Left (X : Type 0) : Type 0 where
  pub value : X
  pub page : Kept

-- what it leaves of a page that keeps its words, and that nobody else changes
abbrev pub found_in : {X : Type 0} → Dialogue X → Kept → Left X
found_in (over x) k = record { value = x; page = k }
found_in (saying item rest) k = found_in rest (kept_after k item)
found_in (asking n next) k = found_in (next (slice_index k.words n)) k
found_in (hearing next) k = found_in (next k.msr) k

-- the words that are left when the values have come out
abbrev pub left_after : List ℕ → List ℕ → List ℕ
left_after [] words = words
left_after (value ∷ values) words = left_after values (drop 1 words)

-- what goes on after a dialogue
goes_then : {X Y : Type 0} (f : Dialogue X) (g : X → Dialogue Y) (xs ys : List Item) (x : X) (y : Y) → Follows f xs x → Follows (g x) ys y → Follows (f >>= g) (xs ++ ys) y
unfolding ◌>>=◌
goes_then (over z) g [] ys x y one two = subst (λ w. Follows (g w) ys y) (sym one) two
goes_then (over z) g (_ ∷ _) ys x y one two = absurd one
goes_then (saying said rest) g [] ys x y one two = absurd one
goes_then (saying said rest) g (Store n v ∷ xs) ys x y one two = (one.0, goes_then rest g xs ys x y one.1 two)
goes_then (saying said rest) g (Exit v ∷ xs) ys x y one two = (one.0, goes_then rest g xs ys x y one.1 two)
goes_then (saying said rest) g (Load m v ∷ xs) ys x y one two = absurd one
goes_then (saying said rest) g (Msr v ∷ xs) ys x y one two = absurd one
goes_then (asking n next) g [] ys x y one two = absurd one
goes_then (asking n next) g (Store m v ∷ xs) ys x y one two = absurd one
goes_then (asking n next) g (Exit v ∷ xs) ys x y one two = absurd one
goes_then (asking n next) g (Load m v ∷ xs) ys x y one two = (one.0, goes_then (next v) g xs ys x y one.1 two)
goes_then (asking n next) g (Msr v ∷ xs) ys x y one two = absurd one
goes_then (hearing next) g [] ys x y one two = absurd one
goes_then (hearing next) g (Store m v ∷ xs) ys x y one two = absurd one
goes_then (hearing next) g (Exit v ∷ xs) ys x y one two = absurd one
goes_then (hearing next) g (Load m v ∷ xs) ys x y one two = absurd one
goes_then (hearing next) g (Msr v ∷ xs) ys x y one two = goes_then (next v) g xs ys x y one two

goes_say : {X : Type 0} (said items : List Item) (rest : Dialogue X) (x : X) → values_of said ≡ [] → Follows rest items x → Follows (say said rest) (said ++ items) x
unfolding say
goes_say [] items rest x silent goes = goes
goes_say (Store n v ∷ said) items rest x silent goes = (refl, goes_say said items rest x silent goes)
goes_say (Exit v ∷ said) items rest x silent goes = (refl, goes_say said items rest x silent goes)
goes_say (Load n v ∷ said) items rest x silent goes = cc
goes_say (Msr v ∷ said) items rest x silent goes = cc

pub runs_over : {X : Type 0} (x : X) (t : Told) → Runs (over x) x t t
runs_over x t = record { items = []; makes = makes_none t; goes = refl }

-- stores and exits, from which nothing comes out, and then the rest
pub runs_say : {X : Type 0} (said : List Item) (rest : Dialogue X) (x : X) (t u v : Told) → values_of said ≡ [] → Makes t said u → Runs rest x u v → Runs (say said rest) x t v
runs_say said rest x t u v silent makes runs = record {
  items = said ++ runs.items;
  makes = makes_then t u v said runs.items makes runs.makes;
  goes = goes_say said runs.items rest x silent runs.goes;
}

pub runs_then : {X Y : Type 0} (f : Dialogue X) (g : X → Dialogue Y) (x : X) (y : Y) (t u v : Told) → Runs f x t u → Runs (g x) y u v → Runs (f >>= g) y t v
runs_then f g x y t u v one two = record {
  items = one.items ++ two.items;
  makes = makes_then t u v one.items two.items one.makes two.makes;
  goes = goes_then f g one.items two.items x y one.goes two.goes;
}

-- a program, and then what its value leads to, is the program as a dialogue and then that
listen_over : {X Y : Type 0} (p : Program X) (g : X → Dialogue Y) → listen p (λ x. over x) >>= g ≡ listen p g
unfolding ◌>>=◌
listen_over p g = listen_then p (λ x. over x) g

-- a program is read, and then the rest with its value
pub runs_listen : {X Y : Type 0} (p : Program X) (g : X → Dialogue Y) (x : X) (y : Y) (t u v : Told) → Reads p x t u → Runs (g x) y u v → Runs (listen p g) y t v
runs_listen p g x y t u v reads runs = subst (λ (d : Dialogue _). Runs d y t v) (listen_over p g) (runs_then (listen p (λ x. over x)) g x y t u v reads runs)

-- a first part of one dialogue, and one whole with a first part of the next
opens_within : {X Y : Type 0} (f : Dialogue X) (g : X → Dialogue Y) (xs : List Item) → FollowsPart f xs → FollowsPart (f >>= g) xs
unfolding ◌>>=◌
opens_within f g [] opens = tt
opens_within (over z) g (_ ∷ _) opens = absurd opens
opens_within (saying said rest) g (Store n v ∷ xs) opens = (opens.0, opens_within rest g xs opens.1)
opens_within (saying said rest) g (Exit v ∷ xs) opens = (opens.0, opens_within rest g xs opens.1)
opens_within (saying said rest) g (Load m v ∷ xs) opens = absurd opens
opens_within (saying said rest) g (Msr v ∷ xs) opens = absurd opens
opens_within (asking n next) g (Store m v ∷ xs) opens = absurd opens
opens_within (asking n next) g (Exit v ∷ xs) opens = absurd opens
opens_within (asking n next) g (Load m v ∷ xs) opens = (opens.0, opens_within (next v) g xs opens.1)
opens_within (asking n next) g (Msr v ∷ xs) opens = absurd opens
opens_within (hearing next) g (Store m v ∷ xs) opens = absurd opens
opens_within (hearing next) g (Exit v ∷ xs) opens = absurd opens
opens_within (hearing next) g (Load m v ∷ xs) opens = absurd opens
opens_within (hearing next) g (Msr v ∷ xs) opens = opens_within (next v) g xs opens

opens_after : {X Y : Type 0} (f : Dialogue X) (g : X → Dialogue Y) (xs ys : List Item) (x : X) → Follows f xs x → FollowsPart (g x) ys → FollowsPart (f >>= g) (xs ++ ys)
unfolding ◌>>=◌
opens_after (over z) g [] ys x one two = subst (λ w. FollowsPart (g w) ys) (sym one) two
opens_after (over z) g (_ ∷ _) ys x one two = absurd one
opens_after (saying said rest) g [] ys x one two = absurd one
opens_after (saying said rest) g (Store n v ∷ xs) ys x one two = (one.0, opens_after rest g xs ys x one.1 two)
opens_after (saying said rest) g (Exit v ∷ xs) ys x one two = (one.0, opens_after rest g xs ys x one.1 two)
opens_after (saying said rest) g (Load m v ∷ xs) ys x one two = absurd one
opens_after (saying said rest) g (Msr v ∷ xs) ys x one two = absurd one
opens_after (asking n next) g [] ys x one two = absurd one
opens_after (asking n next) g (Store m v ∷ xs) ys x one two = absurd one
opens_after (asking n next) g (Exit v ∷ xs) ys x one two = absurd one
opens_after (asking n next) g (Load m v ∷ xs) ys x one two = (one.0, opens_after (next v) g xs ys x one.1 two)
opens_after (asking n next) g (Msr v ∷ xs) ys x one two = absurd one
opens_after (hearing next) g [] ys x one two = absurd one
opens_after (hearing next) g (Store m v ∷ xs) ys x one two = absurd one
opens_after (hearing next) g (Exit v ∷ xs) ys x one two = absurd one
opens_after (hearing next) g (Load m v ∷ xs) ys x one two = absurd one
opens_after (hearing next) g (Msr v ∷ xs) ys x one two = opens_after (next v) g xs ys x one two

opens_say : {X : Type 0} (said items : List Item) (rest : Dialogue X) → values_of said ≡ [] → FollowsPart rest items → FollowsPart (say said rest) (said ++ items)
unfolding say
opens_say [] items rest silent opens = opens
opens_say (Store n v ∷ said) items rest silent opens = (refl, opens_say said items rest silent opens)
opens_say (Exit v ∷ said) items rest silent opens = (refl, opens_say said items rest silent opens)
opens_say (Load n v ∷ said) items rest silent opens = cc
opens_say (Msr v ∷ said) items rest silent opens = cc

-- nothing is made yet
pub begins_none : {X : Type 0} (f : Dialogue X) (t : Told) → RunsPart f t t
begins_none f t = record { items = []; makes = makes_none t; opens = tt }

pub begins_within : {X Y : Type 0} (f : Dialogue X) (g : X → Dialogue Y) (t u : Told) → RunsPart f t u → RunsPart (f >>= g) t u
begins_within f g t u begun = record { items = begun.items; makes = begun.makes; opens = opens_within f g begun.items begun.opens }

pub begins_after : {X Y : Type 0} (f : Dialogue X) (g : X → Dialogue Y) (x : X) (t u v : Told) → Runs f x t u → RunsPart (g x) u v → RunsPart (f >>= g) t v
begins_after f g x t u v one two = record {
  items = one.items ++ two.items;
  makes = makes_then t u v one.items two.items one.makes two.makes;
  opens = opens_after f g one.items two.items x one.goes two.opens;
}

pub begins_say : {X : Type 0} (said : List Item) (rest : Dialogue X) (t u v : Told) → values_of said ≡ [] → Makes t said u → RunsPart rest u v → RunsPart (say said rest) t v
begins_say said rest t u v silent makes begun = record {
  items = said ++ begun.items;
  makes = makes_then t u v said begun.items makes begun.makes;
  opens = opens_say said begun.items rest silent begun.opens;
}

-- values begin with themselves
pub begins_self : (values : List ℕ) → IsPrefix values values
begins_self [] = tt
begins_self (v ∷ vs) = (refl, begins_self vs)

abbrev done : {X : Type 0} → List Item → X → List ℕ → Taken X
done items x words = record { items = items; value = x; rest = left_after (values_of items) words }

-- What was said and heard is what the dialogue takes of any words that begin with the values that came out.
pub goes_taken : {X : Type 0} (d : Dialogue X) (items : List Item) (x : X) (words : List ℕ) → Follows d items x → IsPrefix (values_of items) words →
    answered_by d words ≡ record { items = items; value = x; rest = left_after (values_of items) words }
goes_taken (over z) [] x words goes begins = ap (λ y. done [] y words) goes
goes_taken (over z) (_ ∷ _) x words goes begins = absurd goes
goes_taken (saying said rest) [] x words goes begins = absurd goes
goes_taken (saying said rest) (Store n v ∷ items) x words goes begins =
    ap (λ (t : Taken _). first said t) (goes_taken rest items x words goes.1 begins) ∙ ap (λ (i : Item). first i (done items x words)) goes.0
goes_taken (saying said rest) (Exit v ∷ items) x words goes begins =
    ap (λ (t : Taken _). first said t) (goes_taken rest items x words goes.1 begins) ∙ ap (λ (i : Item). first i (done items x words)) goes.0
goes_taken (saying said rest) (Load m v ∷ items) x words goes begins = absurd goes
goes_taken (saying said rest) (Msr v ∷ items) x words goes begins = absurd goes
goes_taken (asking n next) [] x words goes begins = absurd goes
goes_taken (asking n next) (Store m v ∷ items) x words goes begins = absurd goes
goes_taken (asking n next) (Exit v ∷ items) x words goes begins = absurd goes
goes_taken (asking n next) (Load m v ∷ items) x words goes begins =
    ap (λ w. first (Load n w) (answered_by (next w) (drop 1 words))) (sym begins.0)
    ∙ ap (λ (t : Taken _). first (Load n v) t) (goes_taken (next v) items x (drop 1 words) goes.1 begins.1)
    ∙ ap (λ k. first (Load k v) (done items x (drop 1 words))) goes.0
goes_taken (asking n next) (Msr v ∷ items) x words goes begins = absurd goes
goes_taken (hearing next) [] x words goes begins = absurd goes
goes_taken (hearing next) (Store m v ∷ items) x words goes begins = absurd goes
goes_taken (hearing next) (Exit v ∷ items) x words goes begins = absurd goes
goes_taken (hearing next) (Load m v ∷ items) x words goes begins = absurd goes
goes_taken (hearing next) (Msr v ∷ items) x words goes begins =
    ap (λ w. first (Msr w) (answered_by (next w) (drop 1 words))) (sym begins.0)
    ∙ ap (λ (t : Taken _). first (Msr v) t) (goes_taken (next v) items x (drop 1 words) goes begins.1)

-- what a page that tells what is ahead gives, what is ahead begins with
pub begins_ahead : (t : Told) (items : List Item) (words : List ℕ) → t.ahead ≡ Some words → GivesAll t items → IsPrefix (values_of items) words
begins_ahead t [] words ahead gives = tt
begins_ahead t (Store word value ∷ items) words ahead gives = begins_ahead (told_after t (Store word value)) items words ahead gives.1
begins_ahead t (Exit value ∷ items) words ahead gives = begins_ahead (told_after t (Exit value)) items words ahead gives.1
begins_ahead t (Load word value ∷ items) words ahead gives =
    (subst (λ o. IfSome o (λ ws. value ≡ slice_index ws 0)) ahead gives.0.1, begins_ahead (told_after t (Load word value)) items (drop 1 words) (search (rules, ahead)) gives.1)
begins_ahead t (Msr value ∷ items) words ahead gives =
    (subst (λ o. IfSome o (λ ws. value ≡ slice_index ws 0)) ahead gives.0.1, begins_ahead (told_after t (Msr value)) items (drop 1 words) (search (rules, ahead)) gives.1)

-- Where the page tells which words are ahead, the dialogue was held on these, and the words that it left are ahead.
pub record On_ahead {X : Type 0} (d : Dialogue X) (x : X) (t u : Told) (words : List ℕ) (items : List Item) : Type 0 where
  pub all : answered_by d words ≡ record { items = items; value = x; rest = left_after (values_of items) words }
  pub made : items ≡ (answered_by d words).items
  pub value : x ≡ (answered_by d words).value
  pub left : u.ahead ≡ Some (answered_by d words).rest

found_goes : {X : Type 0} (d : Dialogue X) (items : List Item) (x : X) (t : Told) (k : Kept) → t.kept ≡ Some k → GivesAll t items → Follows d items x →
    (x ≡ (found_in d k).value) × ((told_after_all t items).kept ≡ Some (found_in d k).page)
found_goes (over z) [] x t k kept gives goes = (sym goes, kept)
found_goes (over z) (_ ∷ _) x t k kept gives goes = absurd goes
found_goes (saying said rest) [] x t k kept gives goes = absurd goes
found_goes (saying said rest) (Store n v ∷ items) x t k kept gives goes =
    let stored : (told_after t (Store n v)).kept ≡ Some (kept_after k said) =
    ap (λ o. option_map (λ (p : Kept). kept_after p (Store n v)) o) kept ∙ ap (λ (i : Item). Some (kept_after k i)) (sym goes.0) in
    found_goes rest items x (told_after t (Store n v)) (kept_after k said) stored gives.1 goes.1
found_goes (saying said rest) (Exit v ∷ items) x t k kept gives goes =
    let stored : (told_after t (Exit v)).kept ≡ Some (kept_after k said) =
    ap (λ o. option_map (λ (p : Kept). kept_after p (Exit v)) o) kept ∙ ap (λ (i : Item). Some (kept_after k i)) (sym goes.0) in
    found_goes rest items x (told_after t (Exit v)) (kept_after k said) stored gives.1 goes.1
found_goes (saying said rest) (Load m v ∷ items) x t k kept gives goes = absurd goes
found_goes (saying said rest) (Msr v ∷ items) x t k kept gives goes = absurd goes
found_goes (asking n next) [] x t k kept gives goes = absurd goes
found_goes (asking n next) (Store m v ∷ items) x t k kept gives goes = absurd goes
found_goes (asking n next) (Exit v ∷ items) x t k kept gives goes = absurd goes
found_goes (asking n next) (Load m v ∷ items) x t k kept gives goes =
    let read : v ≡ slice_index k.words m = subst (λ o. IfSome o (λ (p : Kept). v ≡ slice_index p.words m)) kept gives.0.0 in
    let here : v ≡ slice_index k.words n = read ∙ ap (λ j. slice_index k.words j) (sym goes.0) in
    subst (λ w. (x ≡ (found_in (next w) k).value) × ((told_after_all (told_after t (Load m v)) items).kept ≡ Some (found_in (next w) k).page)) here
    (found_goes (next v) items x (told_after t (Load m v)) k kept gives.1 goes.1)
found_goes (asking n next) (Msr v ∷ items) x t k kept gives goes = absurd goes
found_goes (hearing next) [] x t k kept gives goes = absurd goes
found_goes (hearing next) (Store m v ∷ items) x t k kept gives goes = absurd goes
found_goes (hearing next) (Exit v ∷ items) x t k kept gives goes = absurd goes
found_goes (hearing next) (Load m v ∷ items) x t k kept gives goes = absurd goes
found_goes (hearing next) (Msr v ∷ items) x t k kept gives goes =
    let here : v ≡ k.msr = subst (λ o. IfSome o (λ (p : Kept). v ≡ p.msr)) kept gives.0.0 in
    subst (λ w. (x ≡ (found_in (next w) k).value) × ((told_after_all (told_after t (Msr v)) items).kept ≡ Some (found_in (next w) k).page)) here
    (found_goes (next v) items x (told_after t (Msr v)) k kept gives.1 goes)

-- Where the page tells its words, the dialogue came to what it finds there, and left the page so.
pub runs_kept : {X : Type 0} (d : Dialogue X) (x : X) (t u : Told) (k : Kept) → t.kept ≡ Some k → Runs d x t u → (x ≡ (found_in d k).value) × (u.kept ≡ Some (found_in d k).page)
runs_kept d x t u k kept runs =
    let found = found_goes d runs.items x t k kept runs.makes.gives runs.goes in
    (found.0, ap (λ (w : Told). w.kept) runs.makes.leaves ∙ found.1)

-- a program is read of a page that keeps its words as it stands
pub found_listen : {X Y : Type 0} (p : Program X) (g : X → Dialogue Y) (k : Kept) → found_in (listen p g) k ≡ found_in (g (found p (λ n. slice_index k.words n) k.msr)) k
unfolding listen
found_listen (pure x) g k = refl
found_listen (loading n next) g k = found_listen (next (slice_index k.words n)) g k
found_listen (reading next) g k = found_listen (next k.msr) g k
