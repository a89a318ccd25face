-- What passes in the shared buffer of a page (AMD 56421, "GHCB Layout").
use Rattle.std.specs.Prelude.{ℕ, zero, suc, ◌+◌, ◌^◌, List, [], ◌∷◌, map, take, unwrap_or}
use Rattle.page_words.specs.declared.item.Item.{Item}
use Rattle.page_words.specs.Programs.{Program, pure, loading}
use Rattle.page_words.specs.Told.{Told, store}
use Rattle.event_table.specs.Buffer.{buffer_of, bytes_from, first_word, words_for}

-- how many items there is room for: where no limit is told, more than any event makes
abbrev pub room_of : Told → ℕ
room_of t = unwrap_or t.spare (2 ^ 64)

-- bytes are stored in the buffer
abbrev pub buffer_shown : List ℕ → List Item
buffer_shown bytes = map store (buffer_of bytes)

-- so many words are loaded, from a number on, and then it goes on with them
abbrev pub loading_words : {X : Type 0} → ℕ → ℕ → (List ℕ → Program X) → Program X
loading_words zero number more = more []
loading_words (suc n) number more = loading number (λ word. loading_words n (number + 1) (λ words. more (word ∷ words)))

-- so many bytes that come back in the buffer, each word loaded once
abbrev pub loaded_bytes : ℕ → Program (List ℕ)
loaded_bytes count = loading_words (words_for count) first_word (λ words. pure (take count (bytes_from words)))
