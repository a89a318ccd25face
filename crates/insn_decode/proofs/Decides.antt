-- A reader decides a part of a grammar: what it reads from the front is spelled so, what is spelled so is read,
-- it asks for more bytes only where more bytes complete a spelling, and a refusal stands whatever follows.
use Rattle.std.proofs.Common.{◌≡◌, ℕ, List, [], ◌∷◌, ◌++◌, Result, Ok, Err, refl, sym, ap, ◌∙◌, inl, inr, append_assoc}
use Rattle.std.specs.Prelude.{◌⊎◌, ◌≢◌, ◌&&◌, Bool, true, false}
use Rattle.std.specs.List.{list_all}
use Rattle.std.proofs.lemmas.List.Folds.{list_all-append}
use Rattle.x86_base.specs.Spelling.{is_byte, AreBytes}
use Rattle.std.proofs.lemmas.List.{append-nil}
use Rattle.insn_decode.specs.declared.reader.Refusal.{Refusal}
use Rattle.insn_decode.specs.declared.reader.Refusal.TheVariants.{End, Never}
use Rattle.insn_decode.specs.Reading.{◌>>=◌}

pub bytes-append : (a b : List ℕ) → AreBytes a → AreBytes b → AreBytes (a ++ b)
bytes-append a b h k = rw (list_all-append is_byte a b, h, k) refl

pub front_bytes : (a b : List ℕ) → AreBytes (a ++ b) → AreBytes a
front_bytes a b h = both (list_all is_byte a) (list_all is_byte b) (sym (list_all-append is_byte a b) ∙ h)
  where
    both : (x y : Bool) → (x && y) ≡ true → x ≡ true
    both true y e = refl
    both false y e = absurd cc

-- a spelling of x stands at the front
pub record Front {A : Type 0} (P : List ℕ → A → Type 0) (bytes : List ℕ) (x : A) (rest : List ℕ) : Type 0 where
  pub front : List ℕ
  pub split : bytes ≡ front ++ rest
  pub spelled : P front x

-- more bytes complete a spelling
pub record Longer {A : Type 0} (P : List ℕ → A → Type 0) (bytes : List ℕ) : Type 0 where
  pub more : List ℕ
  pub are_bytes : AreBytes more
  pub value : A
  pub spelled : P (bytes ++ more) value

pub record Decides {A : Type 0} (P : List ℕ → A → Type 0) (p : List ℕ → Result (A × List ℕ) Refusal) : Type 0 where
  pub sound : (bytes rest : List ℕ) (x : A) → p bytes ≡ Ok (x, rest) → Front P bytes x rest
  pub complete : (front rest : List ℕ) (x : A) → P front x → p (front ++ rest) ≡ Ok (x, rest)
  pub ends : (bytes : List ℕ) → p bytes ≡ Err End → Longer P bytes
  pub never : (bytes more : List ℕ) → p bytes ≡ Err Never → p (bytes ++ more) ≡ Err Never

pub bind_ok : {A B : Type 0} (r : Result A Refusal) (f : A → Result B Refusal) (y : B) → (r >>= f) ≡ Ok y → (x : A) × (r ≡ Ok x) × (f x ≡ Ok y)
bind_ok (Ok x) f y e = (x, refl, e)
bind_ok (Err d) f y e = absurd cc

pub bind_err : {A B : Type 0} (r : Result A Refusal) (f : A → Result B Refusal) (d : Refusal) → (r >>= f) ≡ Err d → (r ≡ Err d) ⊎ ((x : A) × (r ≡ Ok x) × (f x ≡ Err d))
bind_err (Ok x) f d e = inr (x, refl, e)
bind_err (Err c) f d e = inl cc

abbrev done : {A : Type 0} → A → Result A Refusal
done x = Ok x

pub ok_is : {A : Type 0} (x y : A) → done x ≡ done y → x ≡ y
ok_is x y e = cc

pub ok_pair : {A B : Type 0} (a c : A) (b d : B) → done {A = A × B} (a, b) ≡ done {A = A × B} (c, d) → (a ≡ c) × (b ≡ d)
ok_pair {A} {B} a c b d e =
    let p = ok_is (a, b) (c, d) e in
    (ap (λ (x : A × B). x.0) p, ap (λ (x : A × B). x.1) p)

-- what was read is read again with more bytes behind it
pub Decides-extend : {A : Type 0} (P : List ℕ → A → Type 0) (p : List ℕ → Result (A × List ℕ) Refusal) → Decides P p →
    (bytes rest more : List ℕ) (x : A) → p bytes ≡ Ok (x, rest) → p (bytes ++ more) ≡ Ok (x, rest ++ more)
Decides-extend P p d bytes rest more x e =
    let f = d.sound bytes rest x e in
    ap p (ap (λ (t : List ℕ). t ++ more) f.split ∙ append_assoc f.front rest more) ∙ d.complete f.front (rest ++ more) x f.spelled

-- a spelling and another behind it
pub record Then {A B : Type 0} (P : List ℕ → A → Type 0) (Q : A → List ℕ → B → Type 0) (bytes : List ℕ) (y : B) : Type 0 where
  pub left : List ℕ
  pub right : List ℕ
  pub value : A
  pub whole : bytes ≡ left ++ right
  pub first : P left value
  pub second : Q value right y

abbrev pub then_at : {A B : Type 0} → (List ℕ → Result (A × List ℕ) Refusal) → (A → List ℕ → Result (B × List ℕ) Refusal) → List ℕ → Result (B × List ℕ) Refusal
then_at p q bytes = p bytes >>= λ r. q r.0 r.1

pub then_decides : {A B : Type 0} (P : List ℕ → A → Type 0) (Q : A → List ℕ → B → Type 0) (p : List ℕ → Result (A × List ℕ) Refusal) (q : A → List ℕ → Result (B × List ℕ) Refusal) →
    Decides P p → ((x : A) → Decides (Q x) (q x)) → ((x : A) (s : List ℕ) → P s x → Longer (Q x) []) → Decides (Then P Q) (then_at p q)
then_decides {A} {B} P Q p q dp dq some = record {
  sound = λ bytes rest y e.
      let b = bind_ok (p bytes) (λ (r : A × List ℕ). q r.0 r.1) (y, rest) e in
      let f = dp.sound bytes b.0.1 b.0.0 b.1 in
      let g = (dq b.0.0).sound b.0.1 rest y b.2 in
      record {
        front = f.front ++ g.front;
        split = f.split ∙ ap (λ (t : List ℕ). f.front ++ t) g.split ∙ sym (append_assoc f.front g.front rest);
        spelled = record { left = f.front; right = g.front; value = b.0.0; whole = refl; first = f.spelled; second = g.spelled };
      };
  complete = λ front rest y t.
      let e : p (front ++ rest) ≡ Ok (t.value, t.right ++ rest) =
      ap p (ap (λ (s : List ℕ). s ++ rest) t.whole ∙ append_assoc t.left t.right rest) ∙ dp.complete t.left (t.right ++ rest) t.value t.first in
      ap (λ (r : Result (A × List ℕ) Refusal). r >>= λ (r : A × List ℕ). q r.0 r.1) e ∙ (dq t.value).complete t.right rest y t.second;
  ends = λ bytes e.
      elim (bind_err (p bytes) (λ (r : A × List ℕ). q r.0 r.1) End e) [
        | inl ended ↦
            let l = dp.ends bytes ended in
            let k = some l.value (bytes ++ l.more) l.spelled in
            record { more = l.more ++ k.more; are_bytes = bytes-append l.more k.more l.are_bytes k.are_bytes; value = k.value; spelled = record { left = bytes ++ l.more; right = k.more; value = l.value; whole = sym (append_assoc bytes l.more k.more); first = l.spelled; second = k.spelled } }
        | inr b ↦
            let f = dp.sound bytes b.0.1 b.0.0 b.1 in
            let k = (dq b.0.0).ends b.0.1 b.2 in
            record { more = k.more; are_bytes = k.are_bytes; value = k.value; spelled = record { left = f.front; right = b.0.1 ++ k.more; value = b.0.0; whole = ap (λ (s : List ℕ). s ++ k.more) f.split ∙ append_assoc f.front b.0.1 k.more; first = f.spelled; second = k.spelled } }
      ];
  never = λ bytes more e.
      elim (bind_err (p bytes) (λ (r : A × List ℕ). q r.0 r.1) Never e) [
        | inl never ↦ ap (λ (r : Result (A × List ℕ) Refusal). r >>= λ (r : A × List ℕ). q r.0 r.1) (dp.never bytes more never)
        | inr b ↦
            ap (λ (r : Result (A × List ℕ) Refusal). r >>= λ (r : A × List ℕ). q r.0 r.1) (Decides-extend P p dp bytes b.0.1 more b.0.0 b.1) ∙ (dq b.0.0).never b.0.1 more b.2
      ];
}

-- the value seen by f
pub record Mapped {A B : Type 0} (f : A → B) (P : List ℕ → A → Type 0) (s : List ℕ) (y : B) : Type 0 where
  pub value : A
  pub is : y ≡ f value
  pub spelled : P s value

abbrev pub mapped : {A B : Type 0} → (A → B) → (List ℕ → Result (A × List ℕ) Refusal) → List ℕ → Result (B × List ℕ) Refusal
mapped f p bytes = p bytes >>= λ t. Ok (f t.0, t.1)

pub mapped_decides : {A B : Type 0} (f : A → B) (P : List ℕ → A → Type 0) (p : List ℕ → Result (A × List ℕ) Refusal) → Decides P p → Decides (Mapped f P) (mapped f p)
mapped_decides {A} {B} f P p d = record {
  sound = λ bytes rest y e.
      let b = bind_ok (p bytes) (λ (t : A × List ℕ). Ok (f t.0, t.1)) (y, rest) e in
      let q = ok_pair (f b.0.0) y b.0.1 rest b.2 in
      let g = d.sound bytes b.0.1 b.0.0 b.1 in
      record { front = g.front; split = g.split ∙ ap (λ (t : List ℕ). g.front ++ t) q.1; spelled = record { value = b.0.0; is = sym q.0; spelled = g.spelled } };
  complete = λ front rest y h.
      ap (λ (r : Result (A × List ℕ) Refusal). r >>= λ (t : A × List ℕ). Ok (f t.0, t.1)) (d.complete front rest h.value h.spelled) ∙ ap (λ (z : B). Ok (z, rest)) (sym h.is);
  ends = λ bytes e.
      elim (bind_err (p bytes) (λ (t : A × List ℕ). Ok (f t.0, t.1)) End e) [
        | inl ended ↦ let k = d.ends bytes ended in record { more = k.more; are_bytes = k.are_bytes; value = f k.value; spelled = record { value = k.value; is = refl; spelled = k.spelled } }
        | inr b ↦ absurd (let k = b.2 in cc)
      ];
  never = λ bytes more e.
      elim (bind_err (p bytes) (λ (t : A × List ℕ). Ok (f t.0, t.1)) Never e) [
        | inl refused ↦ ap (λ (r : Result (A × List ℕ) Refusal). r >>= λ (t : A × List ℕ). Ok (f t.0, t.1)) (d.never bytes more refused)
        | inr b ↦ absurd (let k = b.2 in cc)
      ];
}

pub bind_assoc : {A B C : Type 0} (r : Result A Refusal) (f : A → Result B Refusal) (g : B → Result C Refusal) → ((r >>= f) >>= g) ≡ (r >>= λ x. f x >>= g)
bind_assoc (Ok x) f g = refl
bind_assoc (Err e) f g = refl

pub bind_same : {A B : Type 0} (r : Result A Refusal) (f g : A → Result B Refusal) → ((x : A) → f x ≡ g x) → (r >>= f) ≡ (r >>= g)
bind_same (Ok x) f g h = h x
bind_same (Err e) f g h = refl

-- an answer is one of the three
pub answer_cases : {A : Type 0} (r : Result A Refusal) → ((x : A) × (r ≡ Ok x)) ⊎ ((r ≡ Err End) ⊎ (r ≡ Err Never))
answer_cases (Ok x) = inl (x, refl)
answer_cases (Err End) = inr (inl refl)
answer_cases (Err Never) = inr (inr refl)

-- where more bytes complete a spelling, the reader asks for more
pub Decides-short : {A : Type 0} (P : List ℕ → A → Type 0) (p : List ℕ → Result (A × List ℕ) Refusal) → Decides P p →
    (bytes more : List ℕ) (x : A) → more ≢ [] → P (bytes ++ more) x → p bytes ≡ Err End
Decides-short P p d bytes more x some h =
    let whole : p (bytes ++ more) ≡ Ok (x, []) = ap p (sym (append-nil (bytes ++ more))) ∙ d.complete (bytes ++ more) [] x h in
    elim (answer_cases (p bytes)) [
      | inl a ↦
          let e = sym (Decides-extend P p d bytes a.0.1 more a.0.0 a.1) ∙ whole in
          let q = ok_pair a.0.0 x (a.0.1 ++ more) [] e in
          absurd (some (right_nil a.0.1 more q.1))
      | inr b ↦ elim b [
        | inl ended ↦ ended
        | inr refused ↦ absurd (let e = sym (d.never bytes more refused) ∙ whole in cc)
      ]
    ]
  where
    right_nil : (a b : List ℕ) → a ++ b ≡ [] → b ≡ []
    right_nil [] b e = e
    right_nil (x ∷ a) b e = absurd cc
