-- The stores of an event, part by part.
use Rattle.std.proofs.Common.{◌≡◌, ℕ, ◌+◌, Bool, true, List, [], ◌∷◌, ◌++◌, map, sym, ap, ◌∙◌, subst, append_assoc}
use Rattle.std.proofs.lemmas.List.{map-append}
use Rattle.page_words.specs.declared.item.Item.{Item}
use Rattle.page_words.specs.declared.item.Item.TheVariants.{Exit}
use Rattle.page_words.specs.Told.{Told, Makes, store}
use Rattle.page_words.proofs.Making.{makes_then}
use Rattle.ghcb_layout.specs.declared.field.Field.TheVariants.{Cpl, Rax, Rcx, Rdx, ExitCode, ExitInfo1, ExitInfo2, Scratch, Xcr0}
use Rattle.ghcb_layout.specs.declared.bitmap.Bitmap.{Bitmap}
use Rattle.ghcb_layout.specs.Bitmap.{bitmap_of, word_if}
use Rattle.event_table.specs.declared.row.Row.{Row}
use Rattle.event_table.specs.declared.row.Registers.{Registers}
use Rattle.event_table.specs.Rows.{shows_xcr0}
use Rattle.event_table.specs.Buffer.{buffer_of}
use Rattle.vc_handler.specs.Wire.{cleared_words, last_words, shown_words, wire_of}

stores_then : (t u v : Told) (xs ys : List (ℕ × ℕ)) → Makes t (map store xs) u → Makes u (map store ys) v → Makes t (map store (xs ++ ys)) v
stores_then t u v xs ys first second =
    subst (λ (items : List Item). Makes t items v) (sym (map-append store xs ys)) (makes_then t u v (map store xs) (map store ys) first second)

-- the words of a row, one after another
pub shown_made : (r : Row) (s : Registers) (ghcb : ℕ) (x : Bool) (t0 t1 t2 t3 t4 t5 t6 t7 t8 t9 : Told) → x ≡ shows_xcr0 r s.a →
    Makes t0 (map store (word_if Cpl r.shows.cpl 0)) t1 →
    Makes t1 (map store (word_if Rax r.shows.a s.a)) t2 →
    Makes t2 (map store (word_if Rcx r.shows.c s.c)) t3 →
    Makes t3 (map store (word_if Rdx r.shows.d s.d)) t4 →
    Makes t4 (map store (word_if ExitCode true r.code)) t5 →
    Makes t5 (map store (word_if ExitInfo1 true r.info)) t6 →
    Makes t6 (map store (word_if ExitInfo2 true r.count)) t7 →
    Makes t7 (map store (word_if Scratch r.scratch (ghcb + 0x800))) t8 →
    Makes t8 (map store (word_if Xcr0 x 1)) t9 →
    Makes t0 (map store (shown_words ghcb r s)) t9
shown_made r s ghcb x t0 t1 t2 t3 t4 t5 t6 t7 t8 t9 xcr m1 m2 m3 m4 m5 m6 m7 m8 m9 =
    let last = subst (λ (b : Bool). Makes t8 (map store (word_if Xcr0 b 1)) t9) xcr m9 in
    let buffer = word_if Scratch r.scratch (ghcb + 0x800) in
    let rest = word_if Xcr0 (shows_xcr0 r s.a) 1 in
    stores_then t0 t1 t9 (word_if Cpl r.shows.cpl 0) _ m1
    (stores_then t1 t2 t9 (word_if Rax r.shows.a s.a) _ m2
    (stores_then t2 t3 t9 (word_if Rcx r.shows.c s.c) _ m3
    (stores_then t3 t4 t9 (word_if Rdx r.shows.d s.d) ((114, r.code) ∷ (115, r.info) ∷ (116, r.count) ∷ (buffer ++ rest)) m4
    (stores_then t4 t5 t9 ((114, r.code) ∷ []) ((115, r.info) ∷ (116, r.count) ∷ (buffer ++ rest)) m5
    (stores_then t5 t6 t9 ((115, r.info) ∷ []) ((116, r.count) ∷ (buffer ++ rest)) m6
    (stores_then t6 t7 t9 ((116, r.count) ∷ []) (buffer ++ rest) m7
    (stores_then t7 t8 t9 buffer rest m8 last)))))))

-- stores, and then the rest of the items
stores_first : (t u v : Told) (xs ys : List (ℕ × ℕ)) (last : List Item) → Makes t (map store xs) u → Makes u (map store ys ++ last) v → Makes t (map store (xs ++ ys) ++ last) v
stores_first t u v xs ys last first rest =
    let same : map store (xs ++ ys) ++ last ≡ map store xs ++ (map store ys ++ last) =
    ap (λ (items : List Item). items ++ last) (map-append store xs ys) ∙ append_assoc (map store xs) (map store ys) last in
    subst (λ (items : List Item). Makes t items v) (sym same) (makes_then t u v (map store xs) (map store ys ++ last) first rest)

-- all stores of an event, and the exit
pub wire_made : (r : Row) (s : Registers) (bytes : List ℕ) (b : Bitmap) (e : ℕ) (t0 t1 t2 t3 t4 : Told) → b ≡ bitmap_of (shown_words e r s) →
    Makes t0 (map store cleared_words) t1 → Makes t1 (map store (shown_words e r s)) t2 → Makes t2 (map store (buffer_of bytes)) t3 → Makes t3 (map store (last_words b) ++ Exit e ∷ []) t4 →
    Makes t0 (wire_of e r s bytes) t4
wire_made r s bytes b e t0 t1 t2 t3 t4 is clears shows stores leaves =
    let all = bitmap_of (shown_words e r s) in
    let left = subst (λ (b : Bitmap). Makes t3 (map store (last_words b) ++ Exit e ∷ []) t4) is leaves in
    stores_first t0 t1 t4 cleared_words (shown_words e r s ++ (buffer_of bytes ++ last_words all)) (Exit e ∷ []) clears
    (stores_first t1 t2 t4 (shown_words e r s) (buffer_of bytes ++ last_words all) (Exit e ∷ []) shows
    (stores_first t2 t3 t4 (buffer_of bytes) (last_words all) (Exit e ∷ []) stores left))
