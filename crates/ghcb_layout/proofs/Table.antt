-- The field that is found at an offset.
use Rattle.std.proofs.Common.{◌≡◌, ℕ, ◌==◌, Bool, true, false, cond, List, [], ◌∷◌, Option, Some, None, Ok, refl}
use Rattle.std.proofs.lemmas.Bool.{eqb-true}
use Rattle.std.specs.List.{find}
use Rattle.std.specs.Option.{ok_or}
use Rattle.ghcb_layout.specs.declared.field.Field.{Field}
use Rattle.ghcb_layout.specs.declared.field.Field.TheVariants.{Cpl}
use Rattle.ghcb_layout.specs.declared.field.NotAField.{NotAField}
use Rattle.ghcb_layout.specs.Field.{offset_of, all_fields, field_from}

-- the test holds of what is found
found-from : {X : Type 0} (b : Bool) (test : X → Bool) (y x : X) (more : Option X)
    → test y ≡ b → cond b (Some y) more ≡ Some x → (more ≡ Some x → test x ≡ true) → test x ≡ true
found-from true test y x more is e later = cc
found-from false test y x more is e later = later e

found : {X : Type 0} (test : X → Bool) (xs : List X) (x : X) → find test xs ≡ Some x → test x ≡ true
found test [] x e = cc
found test (y ∷ ys) x e = found-from (test y) test y x (find test ys) refl e (found test ys x)

Ok-ok_or : {T E : Type 0} (o : Option T) (error : E) (x : T) → ok_or o error ≡ Ok x → o ≡ Some x
Ok-ok_or None error x e = cc
Ok-ok_or (Some y) error x e = cc

pub field_from-offset_of : (field : Field) → field_from (offset_of field) ≡ Ok field
field_from-offset_of Cpl = refl
field_from-offset_of _ = refl

pub offset_of-field_from : (offset : ℕ) (field : Field) → field_from offset ≡ Ok field → offset_of field ≡ offset
offset_of-field_from offset field e =
    let test : Field → Bool = λ f. offset_of f == offset in
    let error : NotAField = record {} in
    eqb-true (offset_of field) offset (found test all_fields field (Ok-ok_or (find test all_fields) error field e))
