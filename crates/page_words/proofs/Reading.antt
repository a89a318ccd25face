-- Programs, one after another.
use Rattle.std.proofs.Common.{◌≡◌, ℕ, Bool, true, false, [], ◌∷◌, Some, refl, ap, ◌∙◌, subst}
use Rattle.std.specs.Prelude.{if◌then◌else◌, slice_index}
use Rattle.page_words.specs.declared.item.Item.TheVariants.{Load}
use Rattle.page_words.specs.Told.{Told, Kept, Makes}
use Rattle.page_words.specs.Programs.{Program, pure, loading, reading, load, found, ◌>>=◌}
use Rattle.page_words.specs.Dialogue.{Dialogue, Reads, Runs, over, asking, hearing, listen}
use Rattle.page_words.proofs.Dialogues.{Left, runs_over, runs_listen, runs_kept, found_listen}
use Rattle.page_words.proofs.Same.{same_function}

pub reads_pure : {X : Type 0} (x : X) (t : Told) → Reads (pure x) x t t
unfolding listen
reads_pure x t = runs_over x t

pub reads_load : (n v : ℕ) (t u : Told) → Makes t (Load n v ∷ []) u → Reads (load n) v t u
unfolding listen
reads_load n v t u makes = record { items = _; makes = makes; goes = (refl, refl) }

-- one program and then the next, as dialogues
pub listen_both : {X Y Z : Type 0} (f : Program X) (g : X → Program Y) (h : Y → Dialogue Z) → listen f (λ x. listen (g x) h) ≡ listen (f >>= g) h
unfolding listen ◌>>=◌
listen_both (pure x) g h = refl
listen_both (loading n next) g h = ap (λ (k : ℕ → Dialogue _). asking n k) (same_function _ _ (λ v. listen_both (next v) g h))
listen_both (reading next) g h = ap (λ (k : ℕ → Dialogue _). hearing k) (same_function _ _ (λ v. listen_both (next v) g h))

pub reads_then : {X Y : Type 0} (f : Program X) (g : X → Program Y) (x : X) (y : Y) (t u v : Told) → Reads f x t u → Reads (g x) y u v → Reads (f >>= g) y t v
reads_then f g x y t u v first second =
    subst (λ (d : Dialogue _). Runs d y t v) (listen_both f g (λ z. over z)) (runs_listen f (λ z. listen (g z) (λ w. over w)) x y t u v first second)

pub reads_true : {X : Type 0} (b : Bool) (f g : Program X) (x : X) (t u : Told) → b ≡ true → Reads f x t u → Reads (if b then f else g) x t u
reads_true b f g x t u is reads = rw is reads

pub reads_false : {X : Type 0} (b : Bool) (f g : Program X) (x : X) (t u : Told) → b ≡ false → Reads g x t u → Reads (if b then f else g) x t u
reads_false b f g x t u is reads = rw is reads

-- what is read from a page that tells its words, is what the program finds there
pub reads_found : {X : Type 0} (p : Program X) (x : X) (t u : Told) (page : Kept) → t.kept ≡ Some page → Reads p x t u → x ≡ found p (λ k. slice_index page.words k) page.msr
reads_found p x t u page kept reads = (runs_kept (listen p (λ y. over y)) x t u page kept reads).0 ∙ ap (λ (l : Left _). l.value) (found_listen p (λ y. over y) page)
