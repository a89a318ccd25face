-- The table by which a reply is accepted, over a list of words (AMD 56421, "GHCB Layout", SW_EXITINFO1, SW_EXITINFO2
-- and VALID_BITMAP).
use Rattle.std.specs.Prelude.{ℕ, zero, suc, ◌+◌, ◌%◌, ◌^◌, ◌==◌, Bool, ◌||◌, nat_le, if◌then◌else◌, List, [], ◌∷◌, ◌++◌, length, drop, take, slice_index}
use Rattle.std.specs.List.{list_all}
use Rattle.page_words.specs.declared.item.Item.{Item}
use Rattle.page_words.specs.declared.item.Item.TheVariants.{Store, Exit, Load, Msr}
use Rattle.page_words.specs.Dialogue.{Taken, listen, over, answered_by}
use Rattle.ghcb_layout.specs.declared.bitmap.Bitmap.{Bitmap}
use Rattle.ghcb_layout.specs.declared.field.Field.TheVariants.{Rax, Rcx, Rdx, Rbx, ExitInfo1}
use Rattle.ghcb_layout.specs.Bitmap.{bitmap_low, bitmap_high, has_bit}
use Rattle.ghcb_layout.specs.Field.{word_number}
use Rattle.event_table.specs.declared.access.Values.{Values}
use Rattle.event_table.specs.declared.end.Reason.TheVariants.{MissingResult}
use Rattle.event_table.specs.declared.event.Event.{Event}
use Rattle.event_table.specs.declared.outcome.Outcome.{Outcome}
use Rattle.event_table.specs.declared.outcome.Outcome.TheVariants.{Terminate}
use Rattle.event_table.specs.declared.row.Results.{Results}
use Rattle.event_table.specs.Buffer.{bytes_from, first_word, words_for}
use Rattle.event_table.specs.Rows.{bytes_back, event_row, kind_of_event}
use Rattle.vc_handler.specs.Accept.{accepting, event_done}

-- what the acceptance of an event's reply comes to where its loads give these words, and zeros after them: the loads,
-- the outcome, and the words that are left
abbrev pub acceptance : Event → List ℕ → Taken Outcome
acceptance event words = answered_by (listen (accepting event) (λ outcome. over outcome)) words

-- the loads of the words with these numbers, in order: each takes the next of these words, and 0 after their end
abbrev pub loads : List ℕ → List ℕ → List Item
loads [] words = []
loads (number ∷ numbers) words = Load number (slice_index words 0) ∷ loads numbers (drop 1 words)

-- exactly these words are loaded, and the outcome is what the loads give
abbrev pub taken_by : List ℕ → (List Item → Outcome) → List ℕ → Taken Outcome
taken_by numbers outcome words = record {
  items = loads numbers words;
  value = outcome (loads numbers words);
  rest = drop (length numbers) words;
}

-- the value that the load of a word gave, and 0 where it wasn't loaded
abbrev pub value_loaded : ℕ → List Item → ℕ
value_loaded number [] = 0
value_loaded number (Load other value ∷ items) = if other == number then value else value_loaded number items
value_loaded number (Store other value ∷ items) = value_loaded number items
value_loaded number (Exit value ∷ items) = value_loaded number items
value_loaded number (Msr value ∷ items) = value_loaded number items

-- the low 32 bits of the first word, which is SW_EXITINFO1
abbrev pub status_of : List ℕ → ℕ
status_of words = slice_index words 0 % 2 ^ 32

abbrev pub results_of_event : Event → Results
results_of_event event = (event_row (kind_of_event event)).results

-- how many bytes come back in the shared buffer: those of an input block or of an MMIO read
abbrev pub bytes_of_event : Event → ℕ
bytes_of_event event = bytes_back (kind_of_event event)

-- a number, where it is wanted
abbrev pub number_if : Bool → ℕ → List ℕ
number_if wanted number = if wanted then number ∷ [] else []

-- the words of the results, ascending
abbrev pub result_words : Results → List ℕ
result_words r =
    number_if r.a (word_number Rax) ++ (number_if r.c (word_number Rcx)
    ++ (number_if r.d (word_number Rdx) ++ number_if r.b (word_number Rbx)))

-- the words of the valid bitmap: the lower where RAX is a result, and the upper where RCX, RDX or RBX is one
abbrev pub bitmap_words : Results → List ℕ
bitmap_words r = number_if r.a bitmap_low ++ number_if (r.c || r.d || r.b) bitmap_high

-- the valid bitmap that was loaded
abbrev pub bitmap_loaded : List Item → Bitmap
bitmap_loaded items = record { low = value_loaded bitmap_low items; high = value_loaded bitmap_high items }

-- SW_EXITINFO1, and the words of the bitmap
abbrev pub up_to_bitmap : Event → List ℕ
up_to_bitmap event = word_number ExitInfo1 ∷ bitmap_words (results_of_event event)

-- and the words of the results
abbrev pub up_to_results : Event → List ℕ
up_to_results event = up_to_bitmap event ++ result_words (results_of_event event)

-- so many numbers from one on
abbrev pub count_from : ℕ → ℕ → List ℕ
count_from number zero = []
count_from number (suc n) = number ∷ count_from (number + 1) n

-- and the words of the shared buffer that have these bytes
abbrev pub up_to_bytes : Event → List ℕ
up_to_bytes event = up_to_results event ++ count_from first_word (words_for (bytes_of_event event))

-- all result bits are set in the bitmap that these words give
abbrev pub has_results : Event → List ℕ → Bool
has_results event words =
    list_all (λ number. has_bit (bitmap_loaded (loads (up_to_bitmap event) words)) number)
    (result_words (results_of_event event))

-- the values that the loads of the shared buffer's words gave, in order
abbrev pub buffer_loaded : List Item → List ℕ
buffer_loaded [] = []
buffer_loaded (Load number value ∷ items) = if nat_le first_word number then value ∷ buffer_loaded items else buffer_loaded items
buffer_loaded (Store number value ∷ items) = buffer_loaded items
buffer_loaded (Exit value ∷ items) = buffer_loaded items
buffer_loaded (Msr value ∷ items) = buffer_loaded items

-- the results that were loaded
abbrev pub values_loaded : List Item → Values
values_loaded items = record {
  a = value_loaded (word_number Rax) items;
  c = value_loaded (word_number Rcx) items;
  d = value_loaded (word_number Rdx) items;
  b = value_loaded (word_number Rbx) items;
}

-- with so many bytes of the shared buffer, and what these come to
abbrev pub results_with : ℕ → (Values → List ℕ → Outcome) → List Item → Outcome
results_with count done items = done (values_loaded items) (take count (bytes_from (buffer_loaded items)))

abbrev pub results_loaded : Event → List Item → Outcome
results_loaded event items = results_with (bytes_of_event event) (event_done event) items

-- the result bits that are clear, by the bitmap's words
abbrev pub missing_loaded : List Item → Outcome
missing_loaded items = Terminate (MissingResult (value_loaded bitmap_low items) (value_loaded bitmap_high items))
