-- A page that another thread changes: the stores that the thread makes, and what an exit of the guest leaves.
--
-- Each store of the thread is chosen by a number of a generator: the word, and the value that is stored there. Where a
-- guest looks for the end of its event (AMD 56421, "GHCB Layout") the value is one that it can take:
--
--     115         SW_EXITINFO1, the status: by one half of all numbers 0, and the event is over; by the other half 1,
--                 and the guest is to take an exception
--     116         SW_EXITINFO2, the exception: a #GP with the error code 0
--     126, 127    the valid bitmap: every word counts as given
--
-- Every other word takes the number itself. An exit with an event stores the status 0 and then the whole bitmap, so an
-- exception comes only where the thread stores the status 1 between that 0 and the guest's load of it.
use Rattle.std.specs.Prelude.{ℕ, ◌/◌, ◌%◌, ◌^◌, ◌-◌, zero, suc, ◌||◌, ◌==◌, if◌then◌else◌, List, [], ◌∷◌, Option, Some, None}
use Rattle.page_words.specs.Told.{Told}
use Rattle.image_file.specs.Made.{step_of}
use Rattle.hostile_host.specs.declared.changes.Store.{Store}

-- a word's number, and the value that is stored there
abbrev pub store : ℕ → ℕ → Store
store word value = record { word = word; value = value }

-- all 64 bits
abbrev pub all_ones : ℕ
all_ones = 2 ^ 64 - 1

-- the word that a number of the generator chooses: its bits 41:33
abbrev pub word_chosen_by : ℕ → ℕ
word_chosen_by number = number / 2 ^ 33 % 512

-- what is stored at a word by a number that chose it: as the status its bit 50, as the exception a #GP, in the bitmap
-- all ones, and everywhere else the number itself
abbrev pub value_stored : ℕ → ℕ → ℕ
value_stored word number =
    if word == 115 then number / 2 ^ 50 % 2 else
    (if word == 116 then 0x80000B0D else (if word == 126 || word == 127 then all_ones else number))

-- the store that a number chooses
abbrev pub store_chosen_by : ℕ → Store
store_chosen_by number = store (word_chosen_by number) (value_stored (word_chosen_by number) number)

-- the stores of so many steps from a number
unfoldable pub stores_from : ℕ → ℕ → List Store
stores_from zero number = []
stores_from (suc steps) number = let next = step_of number in store_chosen_by next ∷ stores_from steps next

-- all stores of a change: 1,048,576 steps from the seed
abbrev pub stores_of : ℕ → List Store
stores_of seed = stores_from 1048576 seed

-- What the page's host stores at an exit. Bits 11:0 of the MSR are 0 where it has the GHCB's address, which is so at an
-- event: then the status is 0, and the whole bitmap is ones. At any other exit it stores nothing.
abbrev pub reply_to : ℕ → Option (List Store)
reply_to msr =
    if msr % 2 ^ 12 == 0 then Some (store 115 0 ∷ store 126 all_ones ∷ store 127 all_ones ∷ []) else None

-- the MSR word: version 1 is the greatest and the least, and the encryption bit is 51 (AMD 56421, "GHCB MSR Protocol",
-- SEV information)
abbrev pub live_msr : ℕ
live_msr = 0x0001000133000001

-- a page that tells nothing of itself
abbrev pub untold : Told
untold = record { trace = None; spare = None; kept = None; ahead = None }
