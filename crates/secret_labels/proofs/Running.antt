-- Whole runs of two vCPUs that differ at most where a label stands.
use Rattle.std.proofs.Common.{◌≡◌, ℕ, ◌+◌, ◌-◌, ◌<◌, ◌≤◌, zero, suc, Bool, true, false, List, [], ◌∷◌, drop, length, get_or, set, replicate, refl, sym, ◌∙◌, ap, subst, arith, inl, inr, Result, Ok, Err, get_or-set_same, length-set}
use Rattle.std.specs.Prelude.{slice_index}
use Rattle.std.proofs.lemmas.List.{get_or_past, get_or-replicate, length-replicate}
use Rattle.std.proofs.lemmas.Bool.{cases_eq, cases_lt}
use Rattle.std.proofs.lemmas.Grind.{common_steps}
use Rattle.page_words.specs.declared.item.Item.{Item}
use Rattle.page_words.specs.declared.item.Item.TheVariants.{Exit, Load, Msr}
use Rattle.page_words.specs.Dialogue.{Dialogue, say, listen, ◌>>=◌, Taken, first, answered_by}
use Rattle.page_words.specs.Programs.{Program, pure, loading, reading}
use Rattle.image_file.specs.Image.{Contents, opening_ram}
use Rattle.event_table.specs.declared.end.End.{End}
use Rattle.event_table.specs.declared.end.End.TheVariants.{Spent, Terminated}
use Rattle.event_table.specs.declared.end.Reason.{Reason}
use Rattle.event_table.specs.declared.event.Event.{Event}
use Rattle.event_table.specs.Lawful.{count_of}
use Rattle.event_table.specs.declared.outcome.Outcome.{Outcome}
use Rattle.event_table.specs.declared.outcome.Outcome.TheVariants.{Done, Raise, Terminate}
use Rattle.event_table.specs.Plan.{Stepped, Moved, Exits, Stops}
use Rattle.event_table.specs.Raising.{step_raised}
use Rattle.guest_interp.specs.Stepping.{Counted, at_count, counted, step_of, results_of, Standstill, Waits, Ended, stop_after, stop_answered, next_of, next_within, start_of}
use Rattle.vc_handler.specs.Accept.{accepting}
use Rattle.vc_handler.specs.Version.{negotiating, question, farewell}
use Rattle.vc_handler.specs.Wire.{wire}
use Rattle.hostile_host.specs.Answered.{Ran, stop_heard, events_of, run_agreed_from, run_on_words}
use Rattle.secret_labels.specs.declared.verdict.Verdict.{Verdict}
use Rattle.secret_labels.specs.declared.verdict.Verdict.TheVariants.{Clean, Flows}
use Rattle.secret_labels.specs.Following.{Met, Leaks, Stands, met_after, met_answered, met_of, met_within, met_heard, noted_step, noted_results, noted_raised, verdict_from, verdict_agreed, secret_of, labelled}
use Rattle.secret_labels.specs.Labels.{Labels, Noted, Uses, Quiet, set_bytes}
use Rattle.secret_labels.specs.TwoWorlds.{opened_with, run_with, DiffersInSecret, HasSecret, Opens, shown, HoldsOf, TwoWorlds, UpToUse}
use Rattle.secret_labels.specs.Worlds.{Worlds, Alike}
use Rattle.secret_labels.proofs.Stepped.{alike_step, alike_results, alike_raised, below_set, length-set_bytes}

-- WHERE THEY STOP

abbrev SameCount : ℕ → Labels → Counted → Counted → Type 0
SameCount code l c d = (c.steps ≡ d.steps) × Worlds code l c.vcpu d.vcpu

abbrev SameStop : ℕ → Labels → Standstill → Standstill → Type 0
SameStop code l (Waits e c) (Waits f d) = (e ≡ f) × SameCount code l c d
SameStop code l (Ended e c) (Ended f d) = (e ≡ f) × SameCount code l c d
SameStop code l _ _ = ⊥

-- where no label is used, the first stops as the labels tell, and the second alike
abbrev Comes : ℕ → Met → Standstill → Standstill → Type 0
Comes code met s t = (m : Labels) (stop : Standstill) → met ≡ Stands m stop → (s ≡ stop) × SameStop code m s t

abbrev GoAlike : ℕ → (Labels → Counted → Met) → (Counted → Standstill) → Type 0
GoAlike code met stop = (l : Labels) (c d : Counted) → SameCount code l c d → Comes code (met l c) (stop c) (stop d)

alike_after : (code n k : ℕ) (noted : Noted) (s t : Stepped) (met : Labels → Counted → Met) (stop : Counted → Standstill) →
    n ≡ k → ((m : Labels) → noted ≡ Quiet m → Alike code m s t) → GoAlike code met stop → Comes code (met_after n noted s met) (stop_after n s stop) (stop_after k t stop)
alike_after code n k (Uses kind) s t met stop e a g = λ m there q. absurd (cc)
alike_after code n k (Quiet l) (Moved v) (Moved w) met stop e a g = g l (at_count v (n + 1)) (at_count w (k + 1)) (ap (λ j. j + 1) e, a l refl)
alike_after code n k (Quiet l) (Exits x v) (Exits y w) met stop e a g = λ m there q.
    let same : l ≡ m = cc in
    let is : Waits x (at_count v n) ≡ there = cc in
    (is, ((a l refl).0, (e, subst (λ z. Worlds code z v w) same (a l refl).1)))
alike_after code n k (Quiet l) (Stops x v) (Stops y w) met stop e a g = λ m there q.
    let same : l ≡ m = cc in
    let is : Ended x (at_count v (counted x n)) ≡ there = cc in
    let one = (a l refl).0 in
    (is, (one, (ap (λ j. counted x j) e ∙ ap (λ (z : End). counted z k) one, subst (λ z. Worlds code z v w) same (a l refl).1)))
alike_after code n k (Quiet l) s t met stop e a g = absurd (a l refl)

alike_answered : (code n k j : ℕ) (noted : Noted) (s t : Stepped) (met : Labels → Counted → Met) (stop : Counted → Standstill) →
    n ≡ k → ((m : Labels) → noted ≡ Quiet m → Alike code m s t) → GoAlike code met stop → Comes code (met_answered j n noted s met) (stop_answered j n s stop) (stop_answered j k t stop)
alike_answered code n k j (Uses kind) s t met stop e a g = λ m there q. absurd (cc)
alike_answered code n k j (Quiet l) (Moved v) (Moved w) met stop e a g = g l (at_count v (n + j)) (at_count w (k + j)) (ap (λ i. i + j) e, a l refl)
alike_answered code n k j (Quiet l) (Exits x v) (Exits y w) met stop e a g = λ m there q.
    let same : l ≡ m = cc in
    let is : Waits x (at_count v (n + j)) ≡ there = cc in
    (is, ((a l refl).0, (ap (λ i. i + j) e, subst (λ z. Worlds code z v w) same (a l refl).1)))
alike_answered code n k j (Quiet l) (Stops x v) (Stops y w) met stop e a g = λ m there q.
    let same : l ≡ m = cc in
    let is : Ended x (at_count v (counted x n)) ≡ there = cc in
    let one = (a l refl).0 in
    (is, (one, (ap (λ j. counted x j) e ∙ ap (λ (z : End). counted z k) one, subst (λ z. Worlds code z v w) same (a l refl).1)))
alike_answered code n k j (Quiet l) s t met stop e a g = absurd (a l refl)

go_alike : (code left : ℕ) → GoAlike code (met_of left) (next_of left)
go_alike code zero l c d h = λ m there q.
    let same : l ≡ m = cc in
    let is : Ended Spent c ≡ there = cc in
    (is, (refl, (h.0, subst (λ z. Worlds code z c.vcpu d.vcpu) same h.1)))
go_alike code (suc left) l c d h =
    alike_after code c.steps d.steps (noted_step l c.vcpu) (step_of c.vcpu) (step_of d.vcpu) (met_of left) (next_of left) h.0
    (λ m q. alike_step code l m c.vcpu d.vcpu h.1 q) (go_alike code left)

go_within : (code budget : ℕ) → GoAlike code (met_within budget) (next_within budget)
go_within code budget l c d h =
    subst (λ n. Comes code (met_within budget l c) (next_within budget c) (next_of (budget - n) d)) h.0 (go_alike code (budget - c.steps) l c d h)

-- WHAT THEY SAY

abbrev Shows : Taken Verdict → Taken Ran → Taken Ran → Type 0
Shows verdict one other = HoldsOf verdict.value verdict.items one other

-- one more item in front
opens_first : (item : Item) (items trace : List Item) → Opens items trace → Opens (item ∷ items) (item ∷ trace)
opens_first item items trace h = (h.0, ap (λ (xs : List Item). item ∷ xs) h.1)

holds_first : (item : Item) (v : Verdict) (items : List Item) (one other : Taken Ran) → HoldsOf v items one other → HoldsOf v (item ∷ items) (first item one) (first item other)
holds_first item (Clean end steps) items one other h =
    record { trace = ap (λ (xs : List Item). item ∷ xs) h.trace; end_one = h.end_one; end_other = h.end_other; steps_one = h.steps_one; steps_other = h.steps_other }
holds_first item (Flows step what) items one other h =
    record { opens_one = opens_first item items one.items h.opens_one; opens_other = opens_first item items other.items h.opens_other }

shows_first : (item : Item) (verdict : Taken Verdict) (one other : Taken Ran) → Shows verdict one other → Shows (first item verdict) (first item one) (first item other)
shows_first item verdict one other h = holds_first item verdict.value verdict.items one other h

shows_say : (items : List Item) (verdict : Dialogue Verdict) (one other : Dialogue Ran) (words : List ℕ) →
    Shows (answered_by verdict words) (answered_by one words) (answered_by other words) → Shows (answered_by (say items verdict) words) (answered_by (say items one) words) (answered_by (say items other) words)
unfolding say
shows_say [] verdict one other words h = h
shows_say (item ∷ items) verdict one other words h =
    shows_first item (answered_by (say items verdict) words) (answered_by (say items one) words) (answered_by (say items other) words) (shows_say items verdict one other words h)

shows_listen : {X : Type 0} → (p : Program X) (verdict : X → Dialogue Verdict) (one other : X → Dialogue Ran) (words : List ℕ) →
    ((x : X) (left : List ℕ) → Shows (answered_by (verdict x) left) (answered_by (one x) left) (answered_by (other x) left)) →
    Shows (answered_by (listen p verdict) words) (answered_by (listen p one) words) (answered_by (listen p other) words)
unfolding listen
shows_listen (pure x) verdict one other words h = h x words
shows_listen (loading n next) verdict one other words h =
    let word = slice_index words 0 in
    shows_first (Load n word) (answered_by (listen (next word) verdict) (drop 1 words)) (answered_by (listen (next word) one) (drop 1 words)) (answered_by (listen (next word) other) (drop 1 words))
    (shows_listen (next word) verdict one other (drop 1 words) h)
shows_listen (reading next) verdict one other words h =
    let word = slice_index words 0 in
    shows_first (Msr word) (answered_by (listen (next word) verdict) (drop 1 words)) (answered_by (listen (next word) one) (drop 1 words)) (answered_by (listen (next word) other) (drop 1 words))
    (shows_listen (next word) verdict one other (drop 1 words) h)

-- AFTER EACH EVENT

abbrev EventsShow : ℕ → ℕ → Contents → ℕ → Type 0
EventsShow code events image budget = (met : Met) (s t : Standstill) → Comes code met s t → (words : List ℕ) →
    Shows (answered_by (verdict_from events image budget met) words) (answered_by (events_of events image budget s) words) (answered_by (events_of events image budget t) words)

ended_show : (code events : ℕ) (image : Contents) (budget : ℕ) (m : Labels) (e : End) (c : Counted) (t : Standstill) → SameStop code m (Ended e c) t → (words : List ℕ) →
    Shows (answered_by (verdict_from events image budget (Stands m (Ended e c))) words) (answered_by (events_of events image budget (Ended e c)) words) (answered_by (events_of events image budget t) words)
ended_show code events image budget m e c (Waits f d) h words = absurd h
ended_show code events image budget m e c (Ended f d) h words =
    record { trace = refl; end_one = refl; end_other = sym h.0; steps_one = refl; steps_other = sym h.1.0 }

spent_show : (code : ℕ) (image : Contents) (budget : ℕ) (m : Labels) (e : Event) (c : Counted) (t : Standstill) → SameStop code m (Waits e c) t → (words : List ℕ) →
    Shows (answered_by (verdict_from zero image budget (Stands m (Waits e c))) words) (answered_by (events_of zero image budget (Waits e c)) words) (answered_by (events_of zero image budget t) words)
spent_show code image budget m e c (Ended f d) h words = absurd h
spent_show code image budget m e c (Waits f d) h words =
    record { trace = refl; end_one = refl; end_other = refl; steps_one = refl; steps_other = sym h.1.0 }

-- the outcome of an event
outcome_show : (code events : ℕ) (image : Contents) (budget : ℕ) → EventsShow code events image budget → (event : Event) (m : Labels) (c d : Counted) → SameCount code m c d → (x : Outcome) (words : List ℕ) →
    Shows (answered_by (met_heard image budget m c event x >>= (λ met. verdict_from events image budget met)) words)
    (answered_by (stop_heard image budget c event x >>= (λ stop. events_of events image budget stop)) words) (answered_by (stop_heard image budget d event x >>= (λ stop. events_of events image budget stop)) words)
unfolding ◌>>=◌ say
outcome_show code events image budget rest event m c d h (Done reply) words =
    rest (met_answered (count_of event) c.steps (noted_results reply m c.vcpu) (results_of reply c.vcpu) (λ l gone. met_within budget l gone))
    (stop_answered (count_of event) c.steps (results_of reply c.vcpu) (λ gone. next_within budget gone)) (stop_answered (count_of event) d.steps (results_of reply d.vcpu) (λ gone. next_within budget gone))
    (alike_answered code c.steps d.steps (count_of event) (noted_results reply m c.vcpu) (results_of reply c.vcpu) (results_of reply d.vcpu) (met_within budget) (next_within budget) h.0
    (λ l q. alike_results code reply m l c.vcpu d.vcpu h.1 q) (go_within code budget)) words
outcome_show code events image budget rest event m c d h (Raise vector error) words =
    rest (met_answered 1 c.steps (noted_raised image vector error m c.vcpu) (step_raised image vector error c.vcpu) (λ l gone. met_within budget l gone))
    (stop_answered 1 c.steps (step_raised image vector error c.vcpu) (λ gone. next_within budget gone)) (stop_answered 1 d.steps (step_raised image vector error d.vcpu) (λ gone. next_within budget gone))
    (alike_answered code c.steps d.steps 1 (noted_raised image vector error m c.vcpu) (step_raised image vector error c.vcpu) (step_raised image vector error d.vcpu) (met_within budget) (next_within budget) h.0
    (λ l q. alike_raised code image vector error m l c.vcpu d.vcpu h.1 q) (go_within code budget)) words
outcome_show code events image budget rest event m c d h (Terminate reason) words =
    shows_first (Exit (farewell reason)) (answered_by (verdict_from events image budget (Stands m (Ended (Terminated reason) c))) words)
    (answered_by (events_of events image budget (Ended (Terminated reason) c)) words) (answered_by (events_of events image budget (Ended (Terminated reason) d)) words)
    (rest (Stands m (Ended (Terminated reason) c)) (Ended (Terminated reason) c) (Ended (Terminated reason) d)
    (λ l there q. let same : m ≡ l = cc in let is : Ended (Terminated reason) c ≡ there = cc in (is, (refl, (h.0, subst (λ z. Worlds code z c.vcpu d.vcpu) same h.1)))) words)

waits_show : (code events : ℕ) (image : Contents) (budget : ℕ) → EventsShow code events image budget → (m : Labels) (e : Event) (c : Counted) (t : Standstill) → SameStop code m (Waits e c) t → (words : List ℕ) →
    Shows (answered_by (verdict_from (suc events) image budget (Stands m (Waits e c))) words) (answered_by (events_of (suc events) image budget (Waits e c)) words) (answered_by (events_of (suc events) image budget t) words)
waits_show code events image budget rest m e c (Ended f d) h words = absurd h
waits_show code events image budget rest m e c (Waits f d) h words =
    let verdict = λ (x : Outcome). met_heard image budget m c e x >>= (λ met. verdict_from events image budget met) in
    let one = λ (x : Outcome). stop_heard image budget c e x >>= (λ stop. events_of events image budget stop) in
    let other = λ (y : Event) (x : Outcome). stop_heard image budget d y x >>= (λ stop. events_of events image budget stop) in
    subst (λ (y : Event). Shows (answered_by (say (wire 0 e) (listen (accepting e) verdict)) words) (answered_by (say (wire 0 e) (listen (accepting e) one)) words) (answered_by (say (wire 0 y) (listen (accepting y) (other y))) words)) h.0
    (shows_say (wire 0 e) (listen (accepting e) verdict) (listen (accepting e) one) (listen (accepting e) (other e)) words
    (shows_listen (accepting e) verdict one (other e) words (λ x left. outcome_show code events image budget rest e m c d h.1 x left)))

events_show : (code events : ℕ) (image : Contents) (budget : ℕ) → EventsShow code events image budget
events_show code events image budget (Leaks n kind) s t h words = record { opens_one = (_, refl); opens_other = (_, refl) }
events_show code events image budget (Stands m (Ended e c)) s t h words =
    let r = h m (Ended e c) refl in
    let back = sym r.0 in
    subst (λ (x : Standstill). Shows (answered_by (verdict_from events image budget (Stands m (Ended e c))) words) (answered_by (events_of events image budget x) words) (answered_by (events_of events image budget t) words)) back
    (ended_show code events image budget m e c t (subst (λ (x : Standstill). SameStop code m x t) r.0 r.1) words)
events_show code zero image budget (Stands m (Waits e c)) s t h words =
    let r = h m (Waits e c) refl in
    subst (λ (x : Standstill). Shows (answered_by (verdict_from zero image budget (Stands m (Waits e c))) words) (answered_by (events_of zero image budget x) words) (answered_by (events_of zero image budget t) words)) (sym r.0)
    (spent_show code image budget m e c t (subst (λ (x : Standstill). SameStop code m x t) r.0 r.1) words)
events_show code (suc events) image budget (Stands m (Waits e c)) s t h words =
    let r = h m (Waits e c) refl in
    subst (λ (x : Standstill). Shows (answered_by (verdict_from (suc events) image budget (Stands m (Waits e c))) words) (answered_by (events_of (suc events) image budget x) words) (answered_by (events_of (suc events) image budget t) words)) (sym r.0)
    (waits_show code events image budget (events_show code events image budget) m e c t (subst (λ (x : Standstill). SameStop code m x t) r.0 r.1) words)

-- THE OPENINGS

set_true : (ls : List Bool) (i k : ℕ) → get_or ls k false ≡ true → get_or (set ls i true) k false ≡ true
set_true ls i k h = grind (arith, common_steps, cases_eq k i)

stays_true : (n at k : ℕ) (ls : List Bool) → get_or ls k false ≡ true → get_or (set_bytes n at true ls) k false ≡ true
stays_true zero at k ls h = h
stays_true (suc n) at k ls h = stays_true n (at + 1) k (set ls at true) (set_true ls at k h)

inside_true : (n at k : ℕ) (ls : List Bool) → at ≤ k → k < at + n → k < length ls → get_or (set_bytes n at true ls) k false ≡ true
inside_true zero at k ls a b c = absurd (omega arith)
inside_true (suc n) at k ls a b c =
    elim (cases_eq k at) [
      | inl e ↦ stays_true n (at + 1) k (set ls at true) (ap (λ j. get_or (set ls at true) j false) e ∙ get_or-set_same ls at true false (omega arith))
      | inr e ↦ inside_true n (at + 1) k (set ls at true) (omega arith) (omega arith) (omega (arith, length-set ls at true))
    ]

same_outside : (image : Contents) (bytes : List ℕ) (k : ℕ) → HasSecret image → DiffersInSecret image bytes → get_or (secret_of image).ram k false ≡ false → get_or (opening_ram image).bytes k 0 ≡ get_or bytes k 0
same_outside image bytes k fits d u =
    let start = image.header.secret_start in
    let count = image.header.secret_len in
    let size = length (opening_ram image).bytes in
    elim (cases_lt k start) [
      | inl a ↦ d.outside k (inl a)
      | inr a ↦ elim (cases_lt k (start + count)) [
        | inl b ↦ (let fit = fits.inside in let there = inside_true count start k (replicate size false) a b (omega (arith, length-replicate size false)) in cc)
        | inr b ↦ d.outside k (inr b)
      ]
    ]

no_label : (size k : ℕ) → get_or (replicate size false) k false ≡ false
no_label size k = elim (cases_lt k size) [ inl a ↦ get_or-replicate size k false false a | inr a ↦ get_or_past (replicate size false) k false (omega (arith, length-replicate size false)) ]

free_below : (n at k code : ℕ) (size : ℕ) → (0 < at + n → code ≤ at) → k < code → get_or (set_bytes n at true (replicate size false)) k false ≡ false
free_below zero at k code size above lt = no_label size k
free_below (suc n) at k code size above lt =
    let least = above (omega arith) in
    below_set (suc n) at k true (replicate size false) (omega arith) ∙ no_label size k

open_alike : (image : Contents) (bytes : List ℕ) → HasSecret image → DiffersInSecret image bytes → Worlds (length image.code) (secret_of image) (start_of image 0).vcpu (opened_with image bytes).vcpu
open_alike image bytes fits d =
    let size = length (opening_ram image).bytes in
    let full : length (secret_of image).ram ≡ size = length-set_bytes image.header.secret_len image.header.secret_start true (replicate size false) ∙ length-replicate size false in
    record {
      same = record {
        gpr = record { left = refl; right = refl; same = λ k u. refl };
        ram = record { left = sym full; right = d.size ∙ sym full; same = λ k u. same_outside image bytes k fits d u };
        status = λ u. refl;
        df = refl;
        rip = refl;
        code = refl;
      };
      size = refl;
      free = λ k lt. free_below image.header.secret_len image.header.secret_start k (length image.code) size fits.above lt;
      small = (let s = fits.small in omega (arith, full));
    }

-- THE WHOLE RUN

agreed_show : (code : ℕ) (image : Contents) (budget : ℕ) (l : Labels) (c d : Counted) → SameCount code l c d → (r : Result ℕ Reason) (words : List ℕ) →
    Shows (answered_by (verdict_agreed l c image budget r) words) (answered_by (run_agreed_from c image budget r) words) (answered_by (run_agreed_from d image budget r) words)
unfolding say
agreed_show code image budget l c d h (Ok version) words =
    events_show code budget image budget (met_within budget l c) (next_within budget c) (next_within budget d) (go_within code budget l c d h) words
agreed_show code image budget l c d h (Err reason) words =
    record { trace = refl; end_one = refl; end_other = refl; steps_one = refl; steps_other = sym h.0 }

-- what the verdict says of both runs
pub whole_show : (image : Contents) (budget : ℕ) (words bytes : List ℕ) → HasSecret image → DiffersInSecret image bytes →
    HoldsOf (labelled image budget words) (shown image budget words) (run_on_words image budget words) (run_with image bytes budget words)
whole_show image budget words bytes fits d =
    let start = start_of image 0 in
    let there = opened_with image bytes in
    let l = secret_of image in
    let verdict = λ (r : Result ℕ Reason). verdict_agreed l start image budget r in
    let one = λ (r : Result ℕ Reason). run_agreed_from start image budget r in
    let other = λ (r : Result ℕ Reason). run_agreed_from there image budget r in
    shows_say (Exit question ∷ []) (listen negotiating verdict) (listen negotiating one) (listen negotiating other) words
    (shows_listen negotiating verdict one other words (λ r left.
    agreed_show (length image.code) image budget l start there (refl, open_alike image bytes fits d) r left))

pub two_worlds : TwoWorlds
two_worlds image budget words end steps fits q bytes d =
    subst (λ (v : Verdict). HoldsOf v (shown image budget words) (run_on_words image budget words) (run_with image bytes budget words)) q (whole_show image budget words bytes fits d)

pub up_to_use : UpToUse
up_to_use image budget words step what fits q bytes d =
    subst (λ (v : Verdict). HoldsOf v (shown image budget words) (run_on_words image budget words) (run_with image bytes budget words)) q (whole_show image budget words bytes fits d)
