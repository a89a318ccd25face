-- The summary of a run of the image that a number makes.
use Rattle.std.specs.Prelude.{ℕ, List, ◌++◌, codes, length, sum}
use Rattle.show_text.specs.Number.{labelled, line_end}

-- the number, how many bytes of code the image has, how many turns there were, how many bytes were put out, and their sum
abbrev pub summary_text : ℕ → ℕ → ℕ → List ℕ → List ℕ
summary_text number code_len turns console =
    labelled (codes "make ") number
    ++ (labelled (codes " code ") code_len
    ++ (labelled (codes " turns ") turns
    ++ (labelled (codes " console ") (length console) ++ (labelled (codes " sum ") (sum console) ++ line_end))))
