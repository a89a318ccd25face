-- Words of the shared buffer, one after another.
use Rattle.std.proofs.Common.{◌≡◌, ℕ, zero, suc, ◌+◌, List, [], ◌∷◌, ◌++◌, drop, take, ap, sym, ◌∙◌, subst, append_assoc, append-nil, add-zero}
use Rattle.std.specs.Prelude.{map}
use Rattle.image_file.specs.Number.{number_at}
use Rattle.page_words.specs.Programs.{Program, pure, loading, load, ◌>>=◌}
use Rattle.page_words.specs.Dialogue.{Reads}
use Rattle.page_words.specs.Told.{Told, Makes, store}
use Rattle.page_words.proofs.Making.{makes_none, makes_then}
use Rattle.page_words.proofs.Reading.{reads_then, reads_pure}
use Rattle.event_table.specs.Buffer.{bytes_from, numbered}
use Rattle.event_table.specs.Elements.{numbers_in}
use Rattle.event_table.specs.Elements.{bytes_of}
use Rattle.string_io.specs.Buffers.{loading_words}
use Rattle.string_io.proofs.Whole.{number_drop, numbers_more}

-- one word more is stored, and none
pub stored_more : (t u w : Told) (k m from next x number number2 : ℕ) (bytes : List ℕ) → k ≡ suc m → x ≡ number_at 8 from bytes → next ≡ from + 8 → number2 ≡ number + 1 →
    Makes t (map store ((number, x) ∷ [])) u → Makes u (map store (numbered number2 (numbers_in 8 m (drop next bytes)))) w → Makes t (map store (numbered number (numbers_in 8 k (drop from bytes)))) w
stored_more t u w k m from next x number number2 bytes e value along after first rest =
    let here : number_at 8 0 (drop from bytes) ≡ x = number_drop 8 0 from bytes ∙ ap (λ n. number_at 8 n bytes) (add-zero from) ∙ sym value in
    let more = numbers_more k m 8 from next x bytes e here along in
    let then = subst (λ n. Makes u (map store (numbered n (numbers_in 8 m (drop next bytes)))) w) after rest in
    subst (λ (ws : List ℕ). Makes t (map store (numbered number ws)) w) (sym more)
    (makes_then t u w (map store ((number, x) ∷ [])) (map store (numbered (number + 1) (numbers_in 8 m (drop next bytes)))) first then)

pub stored_none : (t : Told) (k number : ℕ) (bytes : List ℕ) → k ≡ zero → Makes t (map store (numbered number (numbers_in 8 k bytes))) t
stored_none t k number bytes e = rw e (makes_none t)

reads_first : {X : Type 0} (n v : ℕ) (next : ℕ → Program X) (x : X) (t u w : Told) → Reads (load n) v t u → Reads (next v) x u w → Reads (loading n next) x t w
unfolding ◌>>=◌
reads_first n v next x t u w first rest = reads_then (load n) next v x t u w first rest

-- one word more is loaded, and none
pub loaded_more : (t u w : Told) (back k m number number2 v : ℕ) (bytes x : List ℕ) → k ≡ suc m → number2 ≡ number + 1 → Reads (load number) v t u →
    Reads (loading_words m number2 (λ words. pure (take back ((bytes ++ bytes_of 8 v) ++ bytes_from words)))) x u w →
    Reads (loading_words k number (λ words. pure (take back (bytes ++ bytes_from words)))) x t w
loaded_more t u w back k m number number2 v bytes x e after first rest =
    let along : (λ (words : List ℕ). pure (take back ((bytes ++ bytes_of 8 v) ++ bytes_from words))) ≡ (λ (words : List ℕ). pure (take back (bytes ++ (bytes_of 8 v ++ bytes_from words)))) = simp append_assoc in
    let here = subst (λ (more : List ℕ → Program (List ℕ)). Reads (loading_words m (number + 1) more) x u w) along (subst (λ n. Reads (loading_words m n (λ words. pure (take back ((bytes ++ bytes_of 8 v) ++ bytes_from words)))) x u w) after rest) in
    rw e (reads_first number v (λ word. loading_words m (number + 1) (λ words. pure (take back (bytes ++ (bytes_of 8 word ++ bytes_from words))))) x t u w first here)

pub loaded_none : (t : Told) (back k number : ℕ) (bytes : List ℕ) → k ≡ zero → Reads (loading_words k number (λ words. pure (take back (bytes ++ bytes_from words)))) (take back bytes) t t
loaded_none t back k number bytes e =
    subst (λ k. Reads (loading_words k number (λ words. pure (take back (bytes ++ bytes_from words)))) (take back bytes) t t) (sym e)
    (subst (λ (ys : List ℕ). Reads (pure (take back ys)) (take back bytes) t t) (sym (append-nil bytes)) (reads_pure (take back bytes) t))
