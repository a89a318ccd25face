-- How a guest takes the reply to an event (AMD 56421, "GHCB Layout", SW_EXITINFO1, SW_EXITINFO2 and VALID_BITMAP).
use Rattle.std.specs.Prelude.{ℕ, ◌%◌, ◌^◌, ◌==◌, Bool, not, ◌&&◌, ◌||◌, if◌then◌else◌, List, [], Result, Ok, Err}
use Rattle.page_words.specs.Programs.{Program, pure, load, ◌>>=◌}
use Rattle.ghcb_layout.specs.declared.field.Field.TheVariants.{Rax, Rcx, Rdx, Rbx, ExitInfo1, ExitInfo2}
use Rattle.ghcb_layout.specs.declared.bitmap.Bitmap.{Bitmap}
use Rattle.ghcb_layout.specs.Bitmap.{bitmap_low, bitmap_high, has_bit}
use Rattle.ghcb_layout.specs.Field.{word_number}
use Rattle.exit_info.specs.declared.inject.Inject.{Inject}
use Rattle.exit_info.specs.declared.inject.BadInject.{BadInject}
use Rattle.exit_info.specs.Inject.{request_of}
use Rattle.image_file.specs.Number.{number_at}
use Rattle.event_table.specs.declared.access.Access.{Access}
use Rattle.event_table.specs.declared.access.Access.TheVariants.{MmioRead}
use Rattle.event_table.specs.declared.access.Values.{Values}
use Rattle.event_table.specs.declared.end.Reason.TheVariants.{BadStatus, BadException, MissingResult}
use Rattle.event_table.specs.declared.event.Event.{Event}
use Rattle.event_table.specs.declared.event.Event.TheVariants.{One, Many}
use Rattle.event_table.specs.declared.outcome.Outcome.{Outcome}
use Rattle.event_table.specs.declared.outcome.Outcome.TheVariants.{Done, Raise, Terminate}
use Rattle.event_table.specs.declared.outcome.Reply.{Reply}
use Rattle.event_table.specs.declared.row.Results.{Results}
use Rattle.event_table.specs.Rows.{bytes_back, event_row, kind_of_event}
use Rattle.string_io.specs.Buffers.{loaded_bytes}
use Rattle.vc_handler.specs.declared.accept.Answer.{Answer}
use Rattle.vc_handler.specs.declared.accept.Answer.TheVariants as answer

-- a word, where it is wanted, and else 0
abbrev pub load_if : Bool → ℕ → Program ℕ
load_if wanted word = if wanted then load word else pure 0

-- the upper word of the valid bitmap has a bit of a result
abbrev pub has_upper : Results → Bool
has_upper r = r.c || r.d || r.b

-- a register is a result
abbrev pub has_any : Results → Bool
has_any r = r.a || has_upper r

-- the words of the valid bitmap, each where a result has its bit there
abbrev pub bitmap : Results → Program Bitmap
bitmap r = do
  low ← load_if r.a bitmap_low
  high ← load_if (has_upper r) bitmap_high
  pure (record { low = low; high = high })

-- each result has its bit
abbrev pub has_all : Results → Bitmap → Bool
has_all r b =
    (not r.a || has_bit b (word_number Rax)) && (not r.c || has_bit b (word_number Rcx))
    && (not r.d || has_bit b (word_number Rdx)) && (not r.b || has_bit b (word_number Rbx))

-- whole words: they are cut to the row's width where they are placed
abbrev pub loaded_values : Results → Program Values
loaded_values r = do
  a ← load_if r.a (word_number Rax)
  c ← load_if r.c (word_number Rcx)
  d ← load_if r.d (word_number Rdx)
  b ← load_if r.b (word_number Rbx)
  pure (record { a = a; c = c; d = d; b = b })

abbrev pub reply_of : Values → List ℕ → Reply
reply_of v bytes = record { values = v; bytes = bytes }

-- of an event that has none
abbrev pub no_values : Values
no_values = record { a = 0; c = 0; d = 0; b = 0 }

abbrev pub outcome_done : Values → List ℕ → Outcome
outcome_done v bytes = Done (reply_of v bytes)

-- what the results and the bytes that came are: an MMIO read has its number in place of RAX's, and no bytes
abbrev pub access_done : Access → Values → List ℕ → Outcome
access_done (MmioRead at len) v bytes = outcome_done (record no_values { a = number_at len 0 bytes }) []
access_done _ v bytes = outcome_done v bytes

abbrev pub event_done : Event → Values → List ℕ → Outcome
event_done (One access) v bytes = access_done access v bytes
event_done (Many block) v bytes = outcome_done v bytes

-- the results and then so many bytes of the shared buffer, where all results have their bits
abbrev pub results_by : Results → ℕ → (Values → List ℕ → Outcome) → Bitmap → Program Outcome
results_by r count done b =
    if has_all r b then loaded_values r >>= (λ v. loaded_bytes count >>= (λ bytes. pure (done v bytes)))
    else pure (Terminate (MissingResult b.low b.high))

abbrev pub loaded_results : Results → ℕ → (Values → List ℕ → Outcome) → Program Outcome
loaded_results r count done = bitmap r >>= (λ b. results_by r count done b)

-- what comes back of an event, once the status says that it is there
abbrev pub loaded_reply : Event → Program Outcome
loaded_reply event =
    let k = kind_of_event event in
    loaded_results (event_row k).results (bytes_back k) (event_done event)

abbrev pub outcome_requested : ℕ → Result Inject BadInject → Outcome
outcome_requested word (Ok i) = Raise i.vector i.code
outcome_requested word (Err bad) = Terminate (BadException word)

-- the exception that is asked for
abbrev pub loaded_exception : Program Outcome
loaded_exception = do
  word ← load (word_number ExitInfo2)
  pure (outcome_requested word (request_of word))

abbrev pub by_status : Results → ℕ → (Values → List ℕ → Outcome) → ℕ → Program Outcome
by_status r count done status =
    if status % 2 ^ 32 == 0 then loaded_results r count done
    else if status % 2 ^ 32 == 1 then loaded_exception
    else pure (Terminate (BadStatus status))

-- a reply with these results, and so many bytes in the shared buffer
abbrev pub accepting_by : Results → ℕ → (Values → List ℕ → Outcome) → Program Outcome
accepting_by r count done = do
  status ← load (word_number ExitInfo1)
  by_status r count done status

-- The status is the low half of SW_EXITINFO1: 0 says done, and 1 asks for an exception; the guest terminates at any
-- other. A block and an MMIO read have no results in registers, so no word of the bitmap is loaded for them.
abbrev pub accepting : Event → Program Outcome
accepting event =
    let k = kind_of_event event in
    accepting_by (event_row k).results (bytes_back k) (event_done event)

-- the outcome by what the reply came to, where the reply itself stands in its place
abbrev pub outcome_in : Answer → Reply → Outcome
outcome_in answer.Done reply = Done reply
outcome_in (answer.Raise vector code) reply = Raise vector code
outcome_in (answer.Terminate reason) reply = Terminate reason
