-- When two dialogues are the same, and what holds of every value that one may come to.
use Rattle.std.proofs.Common.{◌≡◌, ℕ, List, [], ◌∷◌, refl, ap, subst}
use Rattle.page_words.specs.declared.item.Item.{Item}
use Rattle.page_words.specs.declared.item.Item.TheVariants.{Store, Exit, Load, Msr}
use Rattle.page_words.specs.Programs.{Program, pure, loading, reading}
use Rattle.page_words.specs.Dialogue.{Dialogue, over, saying, asking, hearing, say, listen, ◌>>=◌, Follows}

-- functions with the same values are the same
pub same_function : {A B : Type 0} (f g : A → B) → ((x : A) → f x ≡ g x) → f ≡ g
same_function f g same = λ i x. same x i

pub say_then : {X Y : Type 0} (said : List Item) (d : Dialogue X) (g : X → Dialogue Y) → say said d >>= g ≡ say said (d >>= g)
unfolding say ◌>>=◌
say_then [] d g = refl
say_then (item ∷ said) d g = ap (λ (r : Dialogue _). saying item r) (say_then said d g)

pub listen_then : {X Y Z : Type 0} (p : Program X) (f : X → Dialogue Y) (g : Y → Dialogue Z) → listen p f >>= g ≡ listen p (λ x. f x >>= g)
unfolding listen ◌>>=◌
listen_then (pure x) f g = refl
listen_then (loading n next) f g = ap (λ (h : ℕ → Dialogue _). asking n h) (same_function _ _ (λ v. listen_then (next v) f g))
listen_then (reading next) f g = ap (λ (h : ℕ → Dialogue _). hearing h) (same_function _ _ (λ v. listen_then (next v) f g))

pub listen_same : {X Y : Type 0} (p : Program X) (f g : X → Dialogue Y) → ((x : X) → f x ≡ g x) → listen p f ≡ listen p g
listen_same p f g same = ap (λ (h : _ → Dialogue _). listen p h) (same_function f g same)

-- it holds of every value that the dialogue may come to
abbrev pub AllOf : {X : Type 0} → (X → Type 0) → Dialogue X → Type 0
AllOf P (over x) = P x
AllOf P (saying item rest) = AllOf P rest
AllOf P (asking n next) = (v : ℕ) → AllOf P (next v)
AllOf P (hearing next) = (v : ℕ) → AllOf P (next v)

pub all_say : {X : Type 0} (P : X → Type 0) (said : List Item) (d : Dialogue X) → AllOf P d → AllOf P (say said d)
unfolding say
all_say P [] d all = all
all_say P (item ∷ said) d all = all_say P said d all

pub all_listen : {X Y : Type 0} (P : Y → Type 0) (p : Program X) (f : X → Dialogue Y) → ((x : X) → AllOf P (f x)) → AllOf P (listen p f)
unfolding listen
all_listen P (pure x) f all = all x
all_listen P (loading n next) f all = λ v. all_listen P (next v) f all
all_listen P (reading next) f all = λ v. all_listen P (next v) f all

pub goes_all : {X : Type 0} (P : X → Type 0) (d : Dialogue X) (items : List Item) (x : X) → AllOf P d → Follows d items x → P x
goes_all P (over z) [] x all goes = subst P goes all
goes_all P (over z) (_ ∷ _) x all goes = absurd goes
goes_all P (saying said rest) [] x all goes = absurd goes
goes_all P (saying said rest) (Store n v ∷ items) x all goes = goes_all P rest items x all goes.1
goes_all P (saying said rest) (Exit v ∷ items) x all goes = goes_all P rest items x all goes.1
goes_all P (saying said rest) (Load n v ∷ items) x all goes = absurd goes
goes_all P (saying said rest) (Msr v ∷ items) x all goes = absurd goes
goes_all P (asking n next) [] x all goes = absurd goes
goes_all P (asking n next) (Store m v ∷ items) x all goes = absurd goes
goes_all P (asking n next) (Exit v ∷ items) x all goes = absurd goes
goes_all P (asking n next) (Load m v ∷ items) x all goes = goes_all P (next v) items x (all v) goes.1
goes_all P (asking n next) (Msr v ∷ items) x all goes = absurd goes
goes_all P (hearing next) [] x all goes = absurd goes
goes_all P (hearing next) (Store m v ∷ items) x all goes = absurd goes
goes_all P (hearing next) (Exit v ∷ items) x all goes = absurd goes
goes_all P (hearing next) (Load m v ∷ items) x all goes = absurd goes
goes_all P (hearing next) (Msr v ∷ items) x all goes = goes_all P (next v) items x (all v) goes
