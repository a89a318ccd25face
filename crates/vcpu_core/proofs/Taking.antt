-- An exception that a guest takes can be delivered.
use Rattle.std.proofs.Common.{◌≡◌, ℕ, Bool, true, false, List, Result, refl, subst, arith}
use Rattle.std.proofs.lemmas.Grind.{common_steps}
use Rattle.std.specs.Prelude.{◌==◌, ◌%◌, ◌^◌, ◌||◌, if◌then◌else◌}
use Rattle.page_words.specs.Told.{Told}
use Rattle.page_words.specs.Programs.{Program, ◌>>=◌}
use Rattle.page_words.specs.Dialogue.{Dialogue, Reads, listen, over}
use Rattle.page_words.proofs.Reading.{listen_both}
use Rattle.page_words.proofs.Same.{AllOf, all_listen, goes_all}
use Rattle.word_bits.specs.Bits.{number_in}
use Rattle.exit_info.specs.declared.inject.Inject.{Inject}
use Rattle.exit_info.specs.declared.inject.BadInject.{BadInject}
use Rattle.exit_info.specs.Inject.{exception_type as exception_type, layout, request_of}
use Rattle.event_table.specs.declared.access.Access.{Access}
use Rattle.event_table.specs.declared.access.Access.TheVariants as access
use Rattle.event_table.specs.declared.access.Values.{Values}
use Rattle.event_table.specs.declared.event.Event.{Event}
use Rattle.event_table.specs.declared.event.Event.TheVariants.{One, Many}
use Rattle.event_table.specs.declared.outcome.Outcome.{Outcome}
use Rattle.event_table.specs.declared.row.Results.{Results}
use Rattle.event_table.specs.Rows.{bytes_back, event_row, kind_of_event}
use Rattle.string_io.specs.Buffers.{loaded_bytes}
use Rattle.vc_handler.specs.Accept.{access_done, accepting, accepting_by, bitmap, event_done, has_all, outcome_requested, loaded_results, loaded_values}
use Rattle.event_table.specs.Raising.{IsRaisable}
use Rattle.vcpu_core.specs.Resuming.{IsTakable}

-- whatever is loaded, the program comes to such a value
abbrev Comes : {X : Type 0} → (X → Type 0) → Program X → Type 0
Comes P p = AllOf P (listen p (λ x. over x))

comes_then : {X Y : Type 0} (P : Y → Type 0) (f : Program X) (g : X → Program Y) → ((x : X) → Comes P (g x)) → Comes P (f >>= g)
comes_then P f g all = subst (λ (d : Dialogue _). AllOf P d) (listen_both f g (λ y. over y)) (all_listen P f (λ x. listen (g x) (λ y. over y)) all)

comes_either : {X : Type 0} (P : X → Type 0) (b : Bool) (f g : Program X) → Comes P f → Comes P g → Comes P (if b then f else g)
comes_either P true f g first second = first
comes_either P false f g first second = second

-- the vector of a word that asks for an exception
raisable : (vector : ℕ) → ((vector == 6) || (vector == 13)) ≡ true → IsRaisable vector
raisable vector is = grind (arith, common_steps)

requested_if : (word : ℕ) (b : Bool) (x y : Result Inject BadInject) → (b ≡ true → IsTakable (outcome_requested word x)) → IsTakable (outcome_requested word y) → IsTakable (outcome_requested word (if b then x else y))
requested_if word true x y first second = first refl
requested_if word false x y first second = second

takable_word : (word : ℕ) → IsTakable (outcome_requested word (request_of word))
takable_word word =
    let vector = number_in word layout.vector in
    requested_if word (number_in word layout.valid == 1) _ _
    (λ _. requested_if word (number_in word layout.type == exception_type) _ _
    (λ _. requested_if word ((vector == 6) || (vector == 13)) _ _ (λ is. raisable vector is) tt) tt) tt

results_come : (r : Results) (count : ℕ) (done : Values → List ℕ → Outcome) → ((v : Values) (bytes : List ℕ) → IsTakable (done v bytes)) → Comes IsTakable (loaded_results r count done)
unfolding listen
results_come r count done takes =
    comes_then IsTakable (bitmap r) _
    (λ b. comes_either IsTakable (has_all r b) _ _ (comes_then IsTakable (loaded_values r) _ (λ v. comes_then IsTakable (loaded_bytes count) _ (λ bytes. takes v bytes))) tt)

replies_come : (r : Results) (count : ℕ) (done : Values → List ℕ → Outcome) → ((v : Values) (bytes : List ℕ) → IsTakable (done v bytes)) → Comes IsTakable (accepting_by r count done)
unfolding listen ◌>>=◌
replies_come r count done takes = λ status.
    comes_either IsTakable (status % 2 ^ 32 == 0) _ _ (results_come r count done takes)
    (comes_either IsTakable (status % 2 ^ 32 == 1) _ _ (λ word. takable_word word) tt)

access_takable : (a : Access) (v : Values) (bytes : List ℕ) → IsTakable (access_done a v bytes)
access_takable (access.MmioRead at len) v bytes = tt
access_takable _ v bytes = tt

done_takable : (event : Event) (v : Values) (bytes : List ℕ) → IsTakable (event_done event v bytes)
done_takable (One a) v bytes = access_takable a v bytes
done_takable (Many block) v bytes = tt

accepts_takable : (event : Event) → Comes IsTakable (accepting event)
accepts_takable event =
    replies_come (event_row (kind_of_event event)).results (bytes_back (kind_of_event event)) (event_done event) (λ v bytes. done_takable event v bytes)

-- what is read of a reply can be taken
pub takable : (event : Event) (outcome : Outcome) (t u : Told) → Reads (accepting event) outcome t u → IsTakable outcome
takable event outcome t u reads = goes_all IsTakable (listen (accepting event) (λ o. over o)) reads.items outcome (accepts_takable event) reads.goes
