-- What a file is, from what was read of it.
use Rattle.std.proofs.Common.{◌≡◌, ℕ, ◌+◌, ◌<◌, ◌≤◌, Bool, true, false, List, Option, Some, None, Result, Ok, Err, length, take, sym, ap, ◌∙◌, arith}
use Rattle.std.specs.Prelude.{IfSome, nat_lt, option_map, if◌then◌else◌, min}
use Rattle.std.proofs.lemmas.List.{length-take, take_all}
use Rattle.std.proofs.lemmas.Option.{same_Some}
use Rattle.std.proofs.lemmas.Grind.{common_steps}
use Rattle.run_io.specs.Reading.{IsRead}
use Rattle.ghcb_cli.specs.declared.text.Refused.{Refused}
use Rattle.ghcb_cli.specs.Files.{Folder, Holds, and_then, limited}

-- more than the limit was read, so the file is longer
longer : (limit : ℕ) (file bytes : List ℕ) → bytes ≡ take (limit + 1) file → limit < length bytes → nat_lt limit (length file) ≡ true
longer limit file bytes first over =
    let size : length bytes ≡ min (limit + 1) (length file) = ap length first ∙ length-take (limit + 1) file in
    grind (arith, common_steps)

-- no more than the limit was read, so that is the file
whole : (limit : ℕ) (file bytes : List ℕ) → bytes ≡ take (limit + 1) file → length bytes ≤ limit → (bytes ≡ file) × (nat_lt limit (length file) ≡ false)
whole limit file bytes first within =
    let size : length bytes ≡ min (limit + 1) (length file) = ap length first ∙ length-take (limit + 1) file in
    let short : length file ≤ limit = omega (arith, size, within) in
    (first ∙ take_all (limit + 1) file (omega (arith, short)), grind (arith, common_steps))

over : (folder : Folder) (name bytes : List ℕ) (limit : ℕ) (refused : Refused) → IsRead folder name limit bytes → limit < length bytes →
    option_map (limited limit refused) (folder name) ≡ Some (Err refused)
over folder name bytes limit refused read above =
    ap (λ o. option_map (limited limit refused) o) read.named
    ∙ ap (λ (b : Bool). Some (if b then Err refused else Ok read.file)) (longer limit read.file bytes read.first above)

under : (folder : Folder) (name bytes : List ℕ) (limit : ℕ) (refused : Refused) → IsRead folder name limit bytes → length bytes ≤ limit →
    option_map (limited limit refused) (folder name) ≡ Some (Ok bytes)
under folder name bytes limit refused read within =
    let fits = whole limit read.file bytes read.first within in
    ap (λ o. option_map (limited limit refused) o) read.named
    ∙ ap (λ (b : Bool). Some (if b then Err refused else Ok read.file)) fits.1
    ∙ ap (λ (x : List ℕ). Some (Ok x)) (sym fits.0)

-- the file breaks the limit
pub file_refused : (folder : Option Folder) (name bytes : List ℕ) (limit : ℕ) (refused : Refused) → IfSome folder (λ f. IsRead f name limit bytes) → limit < length bytes →
    Holds folder (limited limit refused) name (Err refused)
file_refused None name bytes limit refused read above = tt
file_refused (Some f) name bytes limit refused read above = over f name bytes limit refused read above

-- the file is within it
pub file_read : (folder : Option Folder) (name bytes : List ℕ) (limit : ℕ) (refused : Refused) → IfSome folder (λ f. IsRead f name limit bytes) → length bytes ≤ limit →
    Holds folder (limited limit refused) name (Ok bytes)
file_read None name bytes limit refused read within = tt
file_read (Some f) name bytes limit refused read within = under f name bytes limit refused read within

then_of : {X Y : Type 0} (part : List ℕ → Result X Refused) (make : X → Result Y Refused) (o : Option (List ℕ)) (r : Result X Refused) → option_map part o ≡ Some r →
    option_map (λ bytes. and_then make (part bytes)) o ≡ Some (and_then make r)
then_of part make None r is = cc
then_of part make (Some bytes) r is = ap (λ x. Some (and_then make x)) (same_Some _ _ is)

-- what is made of a part
pub holds_then : {X Y : Type 0} (folder : Option Folder) (part : List ℕ → Result X Refused) (make : X → Result Y Refused) (name : List ℕ) (r : Result X Refused) (made : Result Y Refused) →
    Holds folder part name r → and_then make r ≡ made → Holds folder (λ bytes. and_then make (part bytes)) name made
holds_then None part make name r made holds is = tt
holds_then (Some f) part make name r made holds is = then_of part make (f name) r holds ∙ ap Some is
