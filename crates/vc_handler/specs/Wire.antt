-- What a guest shows of an event: its wire form (AMD 56421, "GHCB Layout", and section 4, the state of each
-- non-automatic exit).
use Rattle.std.specs.Prelude.{ℕ, ◌+◌, List, [], ◌∷◌, ◌++◌, map}
use Rattle.page_words.specs.declared.item.Item.{Item}
use Rattle.page_words.specs.declared.item.Item.TheVariants.{Exit}
use Rattle.page_words.specs.Told.{store}
use Rattle.ghcb_layout.specs.declared.field.Field.TheVariants.{Cpl, Rax, Rcx, Rdx, ExitCode, ExitInfo1, ExitInfo2, Scratch, Xcr0}
use Rattle.ghcb_layout.specs.declared.bitmap.Bitmap.{Bitmap}
use Rattle.ghcb_layout.specs.Address.{ghcb_of}
use Rattle.ghcb_layout.specs.Bitmap.{bitmap_low, bitmap_high, word_if, bitmap_of}
use Rattle.ghcb_layout.specs.Field.{word_number}
use Rattle.ghcb_layout.specs.Protocol.{last_word, word_with}
use Rattle.event_table.specs.declared.event.Event.{Event}
use Rattle.event_table.specs.declared.event.Event.TheVariants.{One, Many}
use Rattle.event_table.specs.declared.row.Row.{Row}
use Rattle.event_table.specs.declared.row.Registers.{Registers}
use Rattle.event_table.specs.Buffer.{buffer_of}
use Rattle.event_table.specs.Rows.{event_row, kind_of_event, registers, registers_of, shows_xcr0}
use Rattle.mmio_access.specs.Shared.{bytes_written}

-- the registers that an event shows: an access has some, and a block has none
abbrev pub registers_shown : Event → Registers
registers_shown (One access) = registers_of access
registers_shown (Many block) = registers 0 0 0

-- the bytes that an event shows in the shared buffer: those of an MMIO write, or of an output block
abbrev pub bytes_shown : Event → List ℕ
bytes_shown (One access) = bytes_written access
bytes_shown (Many block) = block.bytes

-- the words that are shown by a row of a page at an address, each with its value, in the order of the page; SW_SCRATCH
-- is the address of the shared buffer
abbrev pub shown_words : ℕ → Row → Registers → List (ℕ × ℕ)
shown_words ghcb r s =
    word_if Cpl r.shows.cpl 0 ++ (word_if Rax r.shows.a s.a ++ (word_if Rcx r.shows.c s.c ++ (word_if Rdx r.shows.d s.d
    ++ ((word_number ExitCode, r.code) ∷ (word_number ExitInfo1, r.info) ∷ (word_number ExitInfo2, r.count)
    ∷ (word_if Scratch r.scratch (ghcb + 0x800) ++ word_if Xcr0 (shows_xcr0 r s.a) 1)))))

-- the old bitmap goes first
abbrev pub cleared_words : List (ℕ × ℕ)
cleared_words = (bitmap_low, 0) ∷ (bitmap_high, 0) ∷ []

-- the bitmap of the words that are shown, and version 1 with usage 0
abbrev pub last_words : Bitmap → List (ℕ × ℕ)
last_words bitmap = (bitmap_low, bitmap.low) ∷ (bitmap_high, bitmap.high) ∷ (last_word, word_with 1 0) ∷ []

-- all words that are stored, in order: the old bitmap goes, the words come, then those of the shared buffer, then the
-- bitmap of the words below it, and version 1 with usage 0
abbrev pub stored_words : ℕ → Row → Registers → List ℕ → List (ℕ × ℕ)
stored_words ghcb r s bytes =
    cleared_words ++ (shown_words ghcb r s ++ (buffer_of bytes ++ last_words (bitmap_of (shown_words ghcb r s))))

abbrev pub wire_of : ℕ → Row → Registers → List ℕ → List Item
wire_of ghcb r s bytes = map store (stored_words ghcb r s bytes) ++ Exit ghcb ∷ []

-- an event on the page at an address: it is stored by its row, and the exit names the page
abbrev pub event_wire : ℕ → Event → List Item
event_wire ghcb event = wire_of ghcb (event_row (kind_of_event event)) (registers_shown event) (bytes_shown event)

-- The wire form of an event on the page of a vCPU.
abbrev pub wire : ℕ → Event → List Item
wire vcpu event = event_wire (ghcb_of vcpu) event
