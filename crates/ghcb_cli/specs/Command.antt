-- The words of the program.
use Rattle.std.specs.Prelude.{ℕ, ◌+◌, ◌*◌, ◌-◌, ◌==◌, ◌&&◌, not, nat_le, nat_lt, if◌then◌else◌, Bool, true, false, List, [], ◌∷◌, codes, length, ◌^◌, Option, Some, None, option_map, option_and_then, slice_index, slice_index_or}
use Rattle.std.specs.Char.{is_ascii_digit}
use Rattle.std.specs.List.{list_all}
use Rattle.std.specs.Str.{bytes_eq}
use Rattle.ghcb_cli.specs.declared.command.Command.{Command}
use Rattle.ghcb_cli.specs.declared.command.Command.TheVariants.{Run, Plain, Hostile, Live, Secret, ShowPage, ShowMsr, ShowInfo, Make}
use Rattle.page_words.specs.Told.{Kept}
use Rattle.show_text.specs.Digits.{word_of_digits, page_of_digits}
use Rattle.show_text.specs.Info.{info_text}
use Rattle.show_text.specs.Msr.{msr_text}
use Rattle.show_text.specs.Page.{page_text}

abbrev pub are_digits : List ℕ → Bool
are_digits text = not (length text == 0) && list_all is_ascii_digit text

-- a zero before other digits
abbrev pub has_leading_zero : List ℕ → Bool
has_leading_zero text = nat_lt 1 (length text) && (slice_index text 0 == 48)

-- the number that digits write after what was read of it
abbrev pub value_after : ℕ → List ℕ → ℕ
value_after n [] = n
value_after n (digit ∷ digits) = value_after (10 * n + (digit - 48)) digits

-- the number that a text writes, where it is digits alone with no leading zero, and from `least` to `most`
abbrev pub decimal_of : ℕ → ℕ → List ℕ → Option ℕ
decimal_of least most text =
    if are_digits text && not (has_leading_zero text) && nat_le least (value_after 0 text) && nat_le (value_after 0 text) most then Some (value_after 0 text) else None

-- the most steps of a run over the host or of the plain machine, and of one against a script or a page that changes, with labels or without
abbrev pub most_steps : ℕ
most_steps = 2097152

abbrev pub most_hostile_steps : ℕ
most_hostile_steps = 65536

-- the greatest seed by which a page is changed
abbrev pub most_seed : ℕ
most_seed = 2 ^ 64 - 1

-- the greatest number of which an image is made
abbrev pub most_number : ℕ
most_number = 65535

-- a run over the host whose console is to be written, and one whose report is
abbrev pub run_command : ℕ → Command
run_command steps = Run steps false

abbrev pub report_command : ℕ → Command
report_command steps = Run steps true

abbrev pub plain_command : ℕ → Command
plain_command steps = Plain steps

abbrev pub hostile_command : ℕ → Command
hostile_command steps = Hostile steps

abbrev pub secret_command : ℕ → Command
secret_command steps = Secret steps

abbrev pub live_command : ℕ → ℕ → Command
live_command seed steps = Live seed steps

-- a run on a page that another thread changes, by its seed and its steps
abbrev pub live_by : List ℕ → List ℕ → Option Command
live_by seed steps =
    option_and_then (λ number. option_map (λ most. live_command number most) (decimal_of 1 most_hostile_steps steps))
    (decimal_of 0 most_seed seed)

-- a run by its name, the word after its image, and its steps
abbrev pub run_named : List ℕ → List ℕ → List ℕ → Option Command
run_named name second steps =
    if bytes_eq name (codes "run") then option_map run_command (decimal_of 1 most_steps steps)
    else if bytes_eq name (codes "plain") then option_map plain_command (decimal_of 1 most_steps steps)
    else if bytes_eq name (codes "hostile") then option_map hostile_command (decimal_of 1 most_hostile_steps steps)
    else if bytes_eq name (codes "live") then live_by second steps
    else if bytes_eq name (codes "secret") then option_map secret_command (decimal_of 1 most_hostile_steps steps)
    else None

-- a run by its four words
abbrev pub run_by : List ℕ → List ℕ → List ℕ → List ℕ → Option Command
run_by name image second steps = if not (length image == 0) && not (length second == 0) then run_named name second steps else None

-- a run with a report by its five words
abbrev pub report_by : List ℕ → List ℕ → List ℕ → List ℕ → List ℕ → Option Command
report_by name image input steps last =
    if bytes_eq name (codes "run") && bytes_eq last (codes "report") && not (length image == 0) && not (length input == 0)
    then option_map report_command (decimal_of 1 most_steps steps)
    else None

-- what is read of an MSR word, of an exit info and of a page
abbrev pub show_msr : ℕ → Command
show_msr word = ShowMsr word

abbrev pub show_info : ℕ → Command
show_info word = ShowInfo word

abbrev pub show_page : Kept → Command
show_page page = ShowPage

abbrev pub show_of : List ℕ → List ℕ → Option Command
show_of kind digits =
    if bytes_eq kind (codes "page") then option_map show_page (page_of_digits digits)
    else if bytes_eq kind (codes "msr") then option_map show_msr (word_of_digits digits)
    else if bytes_eq kind (codes "info") then option_map show_info (word_of_digits digits)
    else None

-- a reading by its three words
abbrev pub show_by : List ℕ → List ℕ → List ℕ → Option Command
show_by name kind digits = if bytes_eq name (codes "show") then show_of kind digits else None

abbrev pub make_command : ℕ → Command
make_command number = Make number

-- a made image by its two words
abbrev pub make_by : List ℕ → List ℕ → Option Command
make_by name number = if bytes_eq name (codes "make") then option_map make_command (decimal_of 0 most_number number) else None

-- The grammar: `run IMAGE INPUT STEPS`, `run IMAGE INPUT STEPS report` and `plain IMAGE INPUT STEPS` with names that aren't empty
-- and 1 to 2,097,152 steps; `hostile IMAGE SCRIPT STEPS`, `secret IMAGE SCRIPT STEPS` and `live IMAGE SEED STEPS` with 1 to 65,536
-- steps and a seed below 2^64;
-- `show page HEX`, `show msr HEX` and `show info HEX` with the digits of a page or of a word; and `make N` with a number up to 65,535.
abbrev pub command_of : List (List ℕ) → Option Command
command_of (name ∷ image ∷ second ∷ steps ∷ last ∷ []) = report_by name image second steps last
command_of (name ∷ image ∷ second ∷ steps ∷ []) = run_by name image second steps
command_of (name ∷ kind ∷ digits ∷ []) = show_by name kind digits
command_of (name ∷ number ∷ []) = make_by name number
command_of _ = None

-- a word by its place, or no bytes where there are fewer words
abbrev pub command_word : List (List ℕ) → ℕ → List ℕ
command_word words k = slice_index_or words k []

-- the reading that a command asks for, from the digits of a page
abbrev pub reading_by : List ℕ → Option Command → Option (List ℕ)
reading_by digits (Some ShowPage) = option_map page_text (page_of_digits digits)
reading_by digits (Some (ShowMsr word)) = Some (msr_text word)
reading_by digits (Some (ShowInfo word)) = Some (info_text word)
reading_by digits (Some (Run steps report)) = None
reading_by digits (Some (Plain steps)) = None
reading_by digits (Some (Hostile steps)) = None
reading_by digits (Some (Live seed steps)) = None
reading_by digits (Some (Secret steps)) = None
reading_by digits (Some (Make number)) = None
reading_by digits None = None

-- the reading that the words ask for, if they ask for one
abbrev pub reading_of : List (List ℕ) → Option (List ℕ)
reading_of words = reading_by (command_word words 2) (command_of words)

-- whether a command runs an image over the host
abbrev pub calls_host : Option Command → Bool
calls_host (Some (Run steps report)) = true
calls_host (Some (Make number)) = true
calls_host _ = false

-- whether a command hands back the words that came
abbrev pub hands_back : Option Command → Bool
hands_back (Some (Hostile steps)) = true
hands_back (Some (Live seed steps)) = true
hands_back _ = false
