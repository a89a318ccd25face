-- A script file as lines of 17 bytes: sixteen hexadecimal digits in either case, and LF.
use Rattle.std.specs.Prelude.{◌≡◌, ℕ, ◌+◌, ◌*◌, ◌==◌, if◌then◌else◌, List, length, map, take, drop, slice_index, Option, Some, None, Result, Ok, Err}
use Rattle.std.specs.Int.{div_ceil}
use Rattle.std.specs.List.{filter_map, position_from, range_with_len}
use Rattle.std.specs.Option.{is_none}
use Rattle.show_text.specs.Digits.{word_of_digits}
use Rattle.script_file.specs.declared.script.ScriptError.{ScriptError}
use Rattle.script_file.specs.declared.script.ScriptError.TheVariants.{Line, OutOfMemory}

-- how many lines a file has: a rest of fewer bytes is one too
abbrev pub lines_in : List ℕ → ℕ
lines_in bytes = div_ceil (length bytes) 17

-- the word of line k, from 0: the digits from byte 17k on, where LF stands after sixteen of them
abbrev pub word_of_line : List ℕ → ℕ → Option ℕ
word_of_line bytes k =
    if slice_index bytes (17 * k + 16) == 10 then word_of_digits (take 16 (drop (17 * k) bytes)) else None

-- the words of all lines, in order, where a line has one
abbrev pub line_words : List ℕ → List (Option ℕ)
line_words bytes = map (word_of_line bytes) (range_with_len 0 (lines_in bytes))

abbrev pub script_by : Option ℕ → List (Option ℕ) → Result (List ℕ) ℕ
script_by (Some fault) lines = Err fault
script_by None lines = Ok (filter_map (λ word. word) lines)

-- The words of a file, a line each in order; or the number, from 1, of the first line that isn't so.
abbrev pub script_of : List ℕ → Result (List ℕ) ℕ
script_of bytes = script_by (position_from is_none 1 (line_words bytes)) (line_words bytes)

-- why a script can't be read: its first line that isn't so; or memory is out, which may come of any file
abbrev pub IsScriptRefusal : Result (List ℕ) ℕ → ScriptError → Type 0
IsScriptRefusal script (Line fault) = script ≡ Err fault
IsScriptRefusal script OutOfMemory = Unit {0}
