-- What comes back of an event, once the status says that it is there.
use Rattle.std.proofs.Common.{◌≡◌, ℕ, Bool, true, false, List, [], refl, sym, ap, subst, arith}
use Rattle.std.proofs.lemmas.Bool.Decides.{nat_tests}
use Rattle.std.specs.Prelude.{if◌then◌else◌, ◌==◌, ◌||◌, IsTrue}
use Rattle.page_words.specs.Told.{Told}
use Rattle.page_words.specs.Programs.{Program, ◌>>=◌, loading, pure}
use Rattle.page_words.specs.Dialogue.{Reads}
use Rattle.page_words.proofs.Reading.{reads_pure, reads_then}
use Rattle.page_words.proofs.Same.{same_function}
use Rattle.image_file.specs.Number.{IsLength}
use Rattle.event_table.specs.declared.access.Access.{Access}
use Rattle.event_table.specs.declared.access.Access.TheVariants as access
use Rattle.event_table.specs.declared.access.Values.{Values}
use Rattle.event_table.specs.declared.block.Block.{Block}
use Rattle.event_table.specs.declared.event.Event.TheVariants.{One, Many}
use Rattle.event_table.specs.declared.outcome.Outcome.{Outcome}
use Rattle.event_table.specs.declared.row.Kind.TheVariants as kind
use Rattle.event_table.specs.declared.row.Results.{Results}
use Rattle.event_table.specs.Rows.{bytes_back, event_row, kind_of, kind_of_block}
use Rattle.mmio_access.specs.Shared.{loaded_number}
use Rattle.string_io.specs.Buffers.{loaded_bytes}
use Rattle.vc_handler.specs.Accept.{access_done, has_any, loaded_reply, loaded_results, no_values, outcome_done}

none_by : (a c d b : Bool) (count : ℕ) (done : Values → List ℕ → Outcome) (bytes : List ℕ) (t u : Told) → has_any (record { a = a; c = c; d = d; b = b }) ≡ false → Reads (loaded_bytes count) bytes t u →
    Reads (loaded_results (record { a = a; c = c; d = d; b = b }) count done) (done no_values bytes) t u
unfolding ◌>>=◌
none_by false false false false count done bytes t u none reads =
    reads_then (loaded_bytes count) (λ (back : List ℕ). pure (done no_values back)) bytes (done no_values bytes) t u u reads (reads_pure _ u)
none_by true c d b count done bytes t u none reads = cc
none_by false true d b count done bytes t u none reads = cc
none_by false false true b count done bytes t u none reads = cc
none_by false false false true count done bytes t u none reads = cc

-- without results in registers, the bytes are loaded alone
pub none_taken : (r : Results) (count : ℕ) (done : Values → List ℕ → Outcome) (bytes : List ℕ) (t u : Told) → has_any r ≡ false → Reads (loaded_bytes count) bytes t u →
    Reads (loaded_results r count done) (done no_values bytes) t u
none_taken r count done bytes t u none reads = none_by r.a r.c r.d r.b count done bytes t u none reads

none_in : (input rep : Bool) (port size count : ℕ) → has_any (event_row (if input then kind.Ins port size rep count else kind.Outs port size rep count)).results ≡ false
none_in true rep port size count = refl
none_in false rep port size count = refl

-- a block has no results in registers
pub block_taken : (block : Block) (bytes : List ℕ) (t u : Told) → Reads (loaded_bytes (bytes_back (kind_of_block block))) bytes t u →
    Reads (loaded_reply (Many block)) (outcome_done no_values bytes) t u
block_taken block bytes t u reads =
    none_taken (event_row (kind_of_block block)).results (bytes_back (kind_of_block block)) outcome_done bytes t u (none_in block.input block.rep block.port block.size block.count) reads

-- a length is one of four
by_length : (P : ℕ → Type 0) (len : ℕ) (a b c d : Bool) → (len == 1) ≡ a → (len == 2) ≡ b → (len == 4) ≡ c → (len == 8) ≡ d →
    IsTrue (a || b || c || d) → P 1 → P 2 → P 4 → P 8 → P len
by_length P len true b c d one two four eight is p1 p2 p4 p8 = (let same : 1 ≡ len = grind (arith, nat_tests, one) in subst P same p1)
by_length P len false true c d one two four eight is p1 p2 p4 p8 = (let same : 2 ≡ len = grind (arith, nat_tests, two) in subst P same p2)
by_length P len false false true d one two four eight is p1 p2 p4 p8 = (let same : 4 ≡ len = grind (arith, nat_tests, four) in subst P same p4)
by_length P len false false false true one two four eight is p1 p2 p4 p8 = (let same : 8 ≡ len = grind (arith, nat_tests, eight) in subst P same p8)
by_length P len false false false false one two four eight is p1 p2 p4 p8 = absurd (cc)

abbrev number_done : ℕ → Outcome
number_done number = outcome_done (record no_values { a = number }) []

-- an MMIO read takes its number and nothing else
abbrev Takes : ℕ → Type 0
Takes len = (at : ℕ) → (loaded_number len >>= (λ number. pure (number_done number))) ≡ loaded_reply (One (access.MmioRead at len))

takes_one : Takes 1
unfolding ◌>>=◌
takes_one at = ap (λ (k : ℕ → Program Outcome). loading 256 k) (same_function _ _ (λ word. ap (λ n. pure (number_done n)) (omega arith)))

takes_two : Takes 2
unfolding ◌>>=◌
takes_two at = ap (λ (k : ℕ → Program Outcome). loading 256 k) (same_function _ _ (λ word. ap (λ n. pure (number_done n)) (omega arith)))

takes_four : Takes 4
unfolding ◌>>=◌
takes_four at = ap (λ (k : ℕ → Program Outcome). loading 256 k) (same_function _ _ (λ word. ap (λ n. pure (number_done n)) (omega arith)))

takes_eight : Takes 8
unfolding ◌>>=◌
takes_eight at = ap (λ (k : ℕ → Program Outcome). loading 256 k) (same_function _ _ (λ word. ap (λ n. pure (number_done n)) (omega arith)))

pub number_taken : (at len number : ℕ) (t u : Told) → IsLength len → Reads (loaded_number len) number t u →
    Reads (loaded_reply (One (access.MmioRead at len))) (number_done number) t u
number_taken at len number t u is reads =
    let takes = by_length Takes len (len == 1) (len == 2) (len == 4) (len == 8) refl refl refl refl is takes_one takes_two takes_four takes_eight at in
    subst (λ (p : Program Outcome). Reads p (number_done number) t u) takes
    (reads_then (loaded_number len) (λ number. pure (number_done number)) number (number_done number) t u u reads (reads_pure _ u))

-- of any other access no bytes come back
abbrev pub IsNoRead : Access → Type 0
IsNoRead a = (at len : ℕ) → a ≡ access.MmioRead at len → ⊥

no_bytes : (a : Access) → IsNoRead a → bytes_back (kind_of a) ≡ 0
no_bytes (access.MmioRead at len) none = absurd (none at len refl)
no_bytes _ none = refl

same_done : (a : Access) → IsNoRead a → access_done a ≡ outcome_done
same_done (access.MmioRead at len) none = absurd (none at len refl)
same_done _ none = refl

pub access_taken : (a : Access) (outcome : Outcome) (t u : Told) → IsNoRead a → Reads (loaded_results (event_row (kind_of a)).results 0 outcome_done) outcome t u →
    Reads (loaded_reply (One a)) outcome t u
access_taken a outcome t u none reads =
    subst (λ (n : ℕ). Reads (loaded_results (event_row (kind_of a)).results n (access_done a)) outcome t u) (sym (no_bytes a none))
    (subst (λ (done : Values → List ℕ → Outcome). Reads (loaded_results (event_row (kind_of a)).results 0 done) outcome t u) (sym (same_done a none)) reads)
