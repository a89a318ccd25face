-- A reply, as the guest takes it.
use Rattle.std.proofs.Common.{◌≡◌, ℕ, ◌^◌, ◌<◌, Bool, true, false, [], ap, ◌∙◌, lit<}
use Rattle.std.specs.Prelude.{◌==◌, ◌&&◌, if◌then◌else◌}
use Rattle.page_words.specs.Programs.{found, ◌>>=◌}
use Rattle.page_words.proofs.Keeping.{word_after_all}
use Rattle.event_table.specs.declared.access.Access.{Access}
use Rattle.event_table.specs.declared.access.Access.TheVariants as a
use Rattle.event_table.specs.declared.row.Results.{Results}
use Rattle.event_table.specs.declared.event.Event.TheVariants.{One}
use Rattle.event_table.specs.Lawful.{IsLawfulAccess}
use Rattle.event_table.specs.Rows.{results}
use Rattle.device_bus.specs.declared.answer.Answer.{Answer}
use Rattle.device_bus.specs.declared.answer.Answer.TheVariants.{Done}
use Rattle.device_bus.specs.Devices.{Devices, answer, raise_gp, is_data, is_status, is_mailbox, is_scratch_msr}
use Rattle.exit_info.specs.Inject.{request_of}
use Rattle.vc_handler.specs.Accept.{accepting, accepting_by}
use Rattle.vc_handler.specs.Accept as accept
use Rattle.both_ends.proofs.Back.{bits}
use Rattle.both_ends.proofs.Bytes.{by_status, values}
use Rattle.both_ends.proofs.Mmio.{read_taken}
use Rattle.host_events.specs.Served.{reply, reply_by}
use Rattle.both_ends.specs.BothEnds.{outcome_of}

-- of a page that was left with this reply the guest takes it
abbrev pub Takes : Results → Answer → Type 0
Takes r x = (word old : ℕ → ℕ) (msr : ℕ) → ((n : ℕ) → n < 512 → word n ≡ word_after_all (reply_by r x) n (old n)) → found (accepting_by r 0 accept.outcome_done) word msr ≡ outcome_of x

-- replies by the registers that have results
takes_none : Takes (results 0 0 0 0) (Done (values 0 0 0 0))
unfolding ◌>>=◌
takes_none word old msr at = by_status (results 0 0 0 0) 0 accept.outcome_done word msr 0 (at 115 (lit< tt))

takes_a : (a : ℕ) → Takes (results 1 0 0 0) (Done (values a 0 0 0))
unfolding ◌>>=◌
takes_a a word old msr at =
    let r = results 1 0 0 0 in
    by_status r 0 accept.outcome_done word msr 0 (at 115 (lit< tt))
    ∙ ap (λ low. found (accept.results_by r 0 accept.outcome_done (bits low 0)) word msr) (at 126 (lit< tt))
    ∙ ap (λ x. accept.outcome_done (values x 0 0 0) []) (at 63 (lit< tt))

takes_ad : (a d : ℕ) → Takes (results 1 0 1 0) (Done (values a 0 d 0))
unfolding ◌>>=◌
takes_ad a d word old msr at =
    let r = results 1 0 1 0 in
    by_status r 0 accept.outcome_done word msr 0 (at 115 (lit< tt))
    ∙ ap (λ low. found (accept.results_by r 0 accept.outcome_done (bits low (word 127))) word msr) (at 126 (lit< tt))
    ∙ ap (λ high. found (accept.results_by r 0 accept.outcome_done (bits (2 ^ 63) high)) word msr) (at 127 (lit< tt))
    ∙ ap (λ x. accept.outcome_done (values x 0 (word 98) 0) []) (at 63 (lit< tt))
    ∙ ap (λ x. accept.outcome_done (values a 0 x 0) []) (at 98 (lit< tt))

takes_acd : (a c d : ℕ) → Takes (results 1 1 1 0) (Done (values a c d 0))
unfolding ◌>>=◌
takes_acd a c d word old msr at =
    let r = results 1 1 1 0 in
    by_status r 0 accept.outcome_done word msr 0 (at 115 (lit< tt))
    ∙ ap (λ low. found (accept.results_by r 0 accept.outcome_done (bits low (word 127))) word msr) (at 126 (lit< tt))
    ∙ ap (λ high. found (accept.results_by r 0 accept.outcome_done (bits (2 ^ 63) high)) word msr) (at 127 (lit< tt))
    ∙ ap (λ x. accept.outcome_done (values x (word 97) (word 98) 0) []) (at 63 (lit< tt))
    ∙ ap (λ x. accept.outcome_done (values a x (word 98) 0) []) (at 97 (lit< tt))
    ∙ ap (λ x. accept.outcome_done (values a c x 0) []) (at 98 (lit< tt))

takes_all : (a c d b : ℕ) → Takes (results 1 1 1 1) (Done (values a c d b))
unfolding ◌>>=◌
takes_all a c d b word old msr at =
    let r = results 1 1 1 1 in
    by_status r 0 accept.outcome_done word msr 0 (at 115 (lit< tt))
    ∙ ap (λ low. found (accept.results_by r 0 accept.outcome_done (bits low (word 127))) word msr) (at 126 (lit< tt))
    ∙ ap (λ high. found (accept.results_by r 0 accept.outcome_done (bits (2 ^ 63) high)) word msr) (at 127 (lit< tt))
    ∙ ap (λ x. accept.outcome_done (values x (word 97) (word 98) (word 99)) []) (at 63 (lit< tt))
    ∙ ap (λ x. accept.outcome_done (values a x (word 98) (word 99)) []) (at 97 (lit< tt))
    ∙ ap (λ x. accept.outcome_done (values a c x (word 99)) []) (at 98 (lit< tt))
    ∙ ap (λ x. accept.outcome_done (values a c d x) []) (at 99 (lit< tt))

-- a general protection exception
takes_raise : (r : Results) → Takes r raise_gp
unfolding ◌>>=◌
takes_raise r word old msr at =
    by_status r 0 accept.outcome_done word msr 1 (at 115 (lit< tt))
    ∙ ap (λ w. accept.outcome_requested w (request_of w)) (at 116 (lit< tt))

-- an answer that depends on a test
either : (r : Results) (b : Bool) (x y : Answer) → Takes r x → Takes r y → Takes r (if b then x else y)
either r true x y first second = first
either r false x y first second = second

-- and one with the devices that it leaves
either_reply : (r : Results) (b : Bool) (x y : Answer × Devices) → Takes r x.0 → Takes r y.0 → Takes r (if b then x else y).0
either_reply r true x y first second = first
either_reply r false x y first second = second

-- each access has the results that its row says
pub takes : (d : Devices) (i : ℕ) (access : Access) → IsLawfulAccess access → (word old : ℕ → ℕ) (msr : ℕ) →
    ((n : ℕ) → n < 512 → word n ≡ word_after_all (reply d i (One access)) n (old n)) →
    found (accepting (One access)) word msr ≡ outcome_of (answer d i access)
takes d i (a.Out port size value) lawful = takes_none
takes d i (a.In port size) lawful =
    either_reply (results 1 0 0 0) (is_data port size) _ _ (takes_a _)
    (either_reply (results 1 0 0 0) (is_status port size) _ _ (takes_a _)
    (either_reply (results 1 0 0 0) (is_mailbox port size) _ _ (takes_a _) (takes_a _)))
takes d i (a.Cpuid leaf sub) lawful = takes_all _ _ _ _
takes d i (a.Rdmsr msr) lawful =
    either (results 1 0 1 0) (msr == 0x10) _ _ (takes_ad _ _)
    (either (results 1 0 1 0) (msr == 0xC0000103) _ _ (takes_ad _ _)
    (either (results 1 0 1 0) (is_scratch_msr msr) _ _ (takes_ad _ _) (takes_raise (results 1 0 1 0))))
takes d i (a.Wrmsr msr low high) lawful =
    either_reply (results 0 0 0 0) ((msr == 0xC0000103) && (high == 0)) _ _ takes_none
    (either_reply (results 0 0 0 0) (is_scratch_msr msr) _ _ takes_none (takes_raise (results 0 0 0 0)))
takes d i a.Rdtsc lawful = takes_ad _ _
takes d i a.Rdtscp lawful = takes_acd _ _ _
takes d i (a.Rdpmc index) lawful = either (results 1 0 1 0) (index == 0) _ _ (takes_ad _ _) (takes_raise (results 1 0 1 0))
takes d i a.Wbinvd lawful = takes_none
takes d i (a.Vmmcall rax) lawful = takes_a _
takes d i (a.MmioRead at len) lawful = read_taken d i at len lawful
takes d i (a.MmioWrite at len value) lawful = takes_none
