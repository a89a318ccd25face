-- A page in print (AMD 56421, "GHCB Layout"): its valid words, its protocol version and its usage.
use Rattle.std.specs.Prelude.{ℕ, ◌*◌, ◌/◌, ◌%◌, ◌^◌, if◌then◌else◌, List, [], ◌∷◌, ◌++◌, Option, Some, None, codes, slice_index}
use Rattle.std.specs.List.{flat_map, range_with_len}
use Rattle.std.specs.Option.{option_or}
use Rattle.std.specs.Result.{result_ok}
use Rattle.page_words.specs.Told.{Kept}
use Rattle.ghcb_layout.specs.Bitmap.{has_bit}
use Rattle.ghcb_layout.specs.Field.{name_of, field_from}
use Rattle.ghcb_layout.specs.Protocol.{version_in, usage_in}
use Rattle.ghcb_layout.specs.declared.bitmap.Bitmap.{Bitmap}
use Rattle.ghcb_layout.specs.declared.field.Field.{Field}
use Rattle.ghcb_layout.specs.declared.field.Field.TheVariants.{Cpl}
use Rattle.show_text.specs.Number.{three_digits, labelled, labelled_hex, line_end}

abbrev pub word_in : Kept → ℕ → ℕ
word_in page k = slice_index page.words k

-- the bitmap in words 126 and 127
abbrev pub bitmap_in : Kept → Bitmap
bitmap_in page = record { low = word_in page 126; high = word_in page 127 }

-- the first that is found, place after place
abbrev pub first_some : {X : Type 0} → (ℕ → Option X) → List ℕ → Option X
first_some at [] = None
first_some at (place ∷ places) = option_or (at place) (first_some at places)

unfoldable pub field_beginning : ℕ → Option Field
field_beginning offset = result_ok (field_from offset)

-- the field that begins in the eight bytes of word k
unfoldable pub field_in : ℕ → Option Field
field_in k = first_some field_beginning (range_with_len (8 * k) 8)

-- the field's name, or the word's number where it holds no field
abbrev pub word_name : ℕ → Option Field → List ℕ
word_name k (Some field) = name_of field
word_name k None = codes "word " ++ three_digits k

-- of its word, the privilege level is the byte in bits 31:24; each other field is the word
abbrev pub value_in : ℕ → Option Field → ℕ
value_in word (Some Cpl) = word / 2 ^ 24 % 2 ^ 8
value_in word _ = word

-- the line of word k with this value
abbrev pub word_line : ℕ → ℕ → List ℕ
word_line k word = word_name k (field_in k) ++ labelled_hex (codes " ") (value_in word (field_in k)) ++ line_end

-- the line of word k where its bit is set
unfoldable pub valid_line : Kept → ℕ → List ℕ
valid_line page k = if has_bit (bitmap_in page) k then word_line k (word_in page k) else []

-- the lines of the protocol version and the usage in word 511
abbrev pub protocol_lines : ℕ → List ℕ
protocol_lines word =
    labelled (codes "version ") (version_in word) ++ line_end ++ labelled (codes "usage ") (usage_in word) ++ line_end

-- a line for each word whose bit is set, from word 0 on, and two for the protocol
abbrev pub page_text : Kept → List ℕ
page_text page = flat_map (valid_line page) (range_with_len 0 128) ++ protocol_lines (word_in page 511)
