-- What was made on a page, in print.
use Rattle.std.specs.Prelude.{ℕ, List, [], ◌∷◌, ◌++◌, codes}
use Rattle.page_words.specs.declared.item.Item.{Item}
use Rattle.page_words.specs.declared.item.Item.TheVariants.{Store, Exit, Load, Msr}
use Rattle.event_table.specs.declared.end.End.{End}
use Rattle.show_text.specs.Number.{labelled_hex, line_end, three_digits}
use Rattle.trace_text.specs.End.{end_line}

-- a word of the page by its three decimal digits, and its value
abbrev pub word_text : List ℕ → ℕ → ℕ → List ℕ
word_text label word value = (label ++ three_digits word) ++ labelled_hex (codes " ") value

abbrev pub item_text : Item → List ℕ
item_text (Store word value) = word_text (codes "store ") word value
item_text (Exit value) = labelled_hex (codes "exit ") value
item_text (Load word value) = word_text (codes "load ") word value
item_text (Msr value) = labelled_hex (codes "msr ") value

abbrev pub item_line : Item → List ℕ
item_line item = item_text item ++ line_end

abbrev pub lines_of : List Item → List ℕ
lines_of [] = []
lines_of (item ∷ items) = item_line item ++ lines_of items

-- a line for each item, and the line of the vCPU's end
abbrev pub trace_text : List Item → End → ℕ → List ℕ
trace_text items end steps = lines_of items ++ end_line end steps
