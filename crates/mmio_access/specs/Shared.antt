-- What an MMIO access has in the shared buffer of a page (AMD 56421, section 4, MMIO Access).
use Rattle.std.specs.Prelude.{ℕ, ◌*◌, ◌%◌, ◌^◌, List, []}
use Rattle.page_words.specs.Programs.{Program, pure, load, ◌>>=◌}
use Rattle.event_table.specs.declared.access.Access.{Access}
use Rattle.event_table.specs.declared.access.Access.TheVariants.{MmioWrite}
use Rattle.event_table.specs.Buffer.{first_word}
use Rattle.event_table.specs.Elements.{bytes_of}

-- the bytes that an access shows: those of an MMIO write
abbrev pub bytes_written : Access → List ℕ
bytes_written (MmioWrite at len value) = bytes_of len value
bytes_written _ = []

-- the number of so many bytes that an MMIO read gives: the low bytes of the buffer's first word
abbrev pub loaded_number : ℕ → Program ℕ
loaded_number len = do
  word ← load first_word
  pure (word % 2 ^ (8 * len))
