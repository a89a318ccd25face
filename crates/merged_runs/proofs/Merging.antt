-- The plain run along a history.
use Rattle.std.proofs.Common.{◌≡◌, ◌≢◌, ◌⊎◌, ⊎_elim, ℕ, zero, suc, ◌+◌, ◌-◌, ◌<◌, Bool, List, [], ◌∷◌, ◌++◌, length, refl, ap, sym, ◌∙◌, subst, arith, append_assoc, append-nil, Option, Some, None}
use Rattle.std.specs.Prelude.{slice_get, slice_set, option_and_then, if◌then◌else◌}
use Rattle.std.proofs.lemmas.List.{length-set}
use Rattle.std.proofs.lemmas.Option.{slice_get_within}
use mathlib.Core.Logic.{dite}
use native.Mathlib.Decide.{ℕ_discrete}
use Rattle.image_file.specs.Image.{Contents}
use Rattle.event_table.specs.declared.event.Event.{Event}
use Rattle.event_table.specs.declared.turn.Entry.{Entry}
use Rattle.event_table.specs.Turns.{turns_of}
use Rattle.guest_interp.specs.Stepping.{Counted, Standstill, Waits, Ended, next_within, start_of}
use Rattle.device_bus.specs.Devices.{Devices, opening}
use Rattle.device_bus.specs.History.{after_event, after_history}
use Rattle.plain_machine.specs.Plain.{Machine, along, event_done, first_stops, item, machine_at_start, stop_after_event, where_ended}
use Rattle.plain_machine.specs.Single.{at_once}
use Rattle.plain_machine.proofs.Good.{IsGood, IsGoodWait, good_next, good_stop, item_at}
use Rattle.plain_machine.proofs.PlainRounds.{length-first_stops}
use Rattle.merged_runs.specs.Merge.{IsAmong, Made, MadeHistoriesRun, Passes, machine_of}
use Rattle.merged_runs.proofs.Passing.{passes_from, who_made}

get_set : {A : Type 0} (xs : List A) (k : ℕ) (x y : A) → slice_get xs k ≡ Some x → slice_get (slice_set xs k y) k ≡ Some y
get_set [] k x y at = absurd cc
get_set (z ∷ zs) zero x y at = refl
get_set (z ∷ zs) (suc k) x y at = get_set zs k x y at

get_else : {A : Type 0} (xs : List A) (j k : ℕ) (y : A) → j ≢ k → slice_get (slice_set xs k y) j ≡ slice_get xs j
get_else [] j k y ne = refl
get_else (z ∷ zs) zero zero y ne = absurd (ne refl)
get_else (z ∷ zs) zero (suc k) y ne = refl
get_else (z ∷ zs) (suc j) zero y ne = refl
get_else (z ∷ zs) (suc j) (suc k) y ne = get_else zs j k y (λ e. ne (ap suc e))

get_some : {A : Type 0} (xs : List A) (k : ℕ) → k < length xs → (x : A) × (slice_get xs k ≡ Some x)
get_some [] k less = absurd (omega arith)
get_some (x ∷ xs) zero less = (x, refl)
get_some (x ∷ xs) (suc k) less = get_some xs k (omega arith)

same_lists : {A : Type 0} (xs ys : List A) → length ys ≡ length xs → ((i : ℕ) (x y : A) → slice_get xs i ≡ Some x → slice_get ys i ≡ Some y → x ≡ y) → xs ≡ ys
same_lists [] [] long same = refl
same_lists [] (y ∷ ys) long same = absurd (omega arith)
same_lists (x ∷ xs) [] long same = absurd (omega arith)
same_lists (x ∷ xs) (y ∷ ys) long same = let one : x ≡ y = same 0 x y refl refl in let rest : xs ≡ ys = same_lists xs ys (omega arith) (λ i. same (suc i)) in λ t. one t ∷ rest t

-- each entry is of one of the first so many vCPUs
abbrev pub AllOf : ℕ → List Entry → Type 0
AllOf n [] = Unit {0}
AllOf n (x ∷ xs) = (x.vcpu < n) × AllOf n xs

-- each vCPU asks for what its step asks for
abbrev pub EachGood : ℕ → List Standstill → Type 0
EachGood budget stops = (i : ℕ) (s : Standstill) → slice_get stops i ≡ Some s → IsGood 0 budget s

-- each vCPU's way along the entries
abbrev pub AllPass : Contents → ℕ → Devices → List Entry → List Standstill → List Standstill → Type 0
AllPass image budget d log froms tos = (i : ℕ) (from to : Standstill) → slice_get froms i ≡ Some from → slice_get tos i ≡ Some to → Passes image budget i d log from to

good_lower : (low budget : ℕ) (s : Standstill) → IsGood (suc low) budget s → IsGood low budget s
good_lower low budget (Waits event c) good = let from = good.from in record { from = omega arith; under = good.under; exits = good.exits; full = good.full; some = good.some }
good_lower low budget (Ended end c) good = tt

-- a vCPU that went on is good, and the others are as before
good_set : (budget : ℕ) (stops : List Standstill) (k : ℕ) (from stop : Standstill) → slice_get stops k ≡ Some from → IsGood 0 budget stop → EachGood budget stops → EachGood budget (slice_set stops k stop)
good_set budget stops k from stop at good each i s there = dite (ℕ_discrete i k)
    (λ same.
    let here : slice_get (slice_set stops k stop) i ≡ Some stop = ap (λ j. slice_get (slice_set stops k stop) j) same ∙ get_set stops k from stop at in
    let is : stop ≡ s = cc (here, there) in
    subst (λ z. IsGood 0 budget z) is good)
    (λ other. each i s (sym (get_else stops i k stop other) ∙ there))

-- one vCPU's way goes on past an entry
further : (image : Contents) (budget : ℕ) (d : Devices) (x : Entry) (xs : List Entry) (stops last : List Standstill) (from : Standstill) (c : Counted) → slice_get stops x.vcpu ≡ Some from → from ≡ Waits x.event c →
    AllPass image budget d (x ∷ xs) stops last → AllPass image budget (after_event d x.vcpu x.event) xs (slice_set stops x.vcpu (stop_after_event image budget x.vcpu x.event c d)) last
further image budget d x xs stops last from c at waits all i from' to at' at_last =
    let d' : Devices = after_event d x.vcpu x.event in
    let stop : Standstill = stop_after_event image budget x.vcpu x.event c d in
    dite (ℕ_discrete i x.vcpu)
    (λ same.
    let now : slice_get last x.vcpu ≡ Some to = ap (λ j. slice_get last j) (sym same) ∙ at_last in
    let there : slice_get (slice_set stops x.vcpu stop) x.vcpu ≡ Some stop = get_set stops x.vcpu from stop at in
    let found : slice_get (slice_set stops x.vcpu stop) x.vcpu ≡ Some from' = ap (λ j. slice_get (slice_set stops x.vcpu stop) j) (sym same) ∙ at' in
    let is : stop ≡ from' = cc (there, found) in
    subst (λ (z : ℕ × Standstill). Passes image budget z.0 d' xs z.1 to) (λ t. (sym same t, is t))
    (⊎_elim
    (λ (p : (x.vcpu ≢ x.vcpu) × Passes image budget x.vcpu d' xs from to). absurd (p.0 refl))
    (λ (p : (x.vcpu ≡ x.vcpu) × (c' : Counted) × (from ≡ Waits x.event c') × Passes image budget x.vcpu d' xs (stop_after_event image budget x.vcpu x.event c' d) to).
    let count : p.1 ≡ c = let a = p.2 in let b : Waits x.event p.1 ≡ Waits x.event c = sym a ∙ waits in cc b in
    subst (λ (z : Counted). Passes image budget x.vcpu d' xs (stop_after_event image budget x.vcpu x.event z d) to) count p.3)
    (all x.vcpu from to at now)))
    (λ other.
    let same_place : slice_get stops i ≡ Some from' = sym (get_else stops i x.vcpu stop other) ∙ at' in
    ⊎_elim
    (λ (p : (x.vcpu ≢ i) × Passes image budget i d' xs from' to). p.1)
    (λ (p : (x.vcpu ≡ i) × (c' : Counted) × (from' ≡ Waits x.event c') × Passes image budget i d' xs (stop_after_event image budget i x.event c' d) to). absurd (other (sym p.0)))
    (all i from' to same_place at_last))

-- the vCPU of an entry waits for it
waits_for : (image : Contents) (budget : ℕ) (d : Devices) (x : Entry) (xs : List Entry) (from to : Standstill) → Passes image budget x.vcpu d (x ∷ xs) from to → (c : Counted) × (from ≡ Waits x.event c)
waits_for image budget d x xs from to = ⊎_elim
    (λ (p : (x.vcpu ≢ x.vcpu) × Passes image budget x.vcpu (after_event d x.vcpu x.event) xs from to). absurd (p.0 refl))
    (λ (p : (x.vcpu ≡ x.vcpu) × (c' : Counted) × (from ≡ Waits x.event c') × Passes image budget x.vcpu (after_event d x.vcpu x.event) xs (stop_after_event image budget x.vcpu x.event c' d) to). (p.1, p.2))

-- The order of the entries leads the machine to where the vCPUs' ways lead.
pub leads : (image : Contents) (budget : ℕ) (log : List Entry) (m : Machine) (last : List Standstill) → length last ≡ length m.stops → AllOf (length m.stops) log → EachGood budget m.stops → AllPass image budget m.devices log m.stops last →
    along image budget (turns_of log) m ≡ Some (record { stops = last; devices = after_history m.devices log; events = m.events ++ log })
leads image budget [] m last long known good all =
    let stops : m.stops ≡ last = same_lists m.stops last long (λ i from to at at_last. all i from to at at_last) in
    let events : m.events ≡ m.events ++ [] = sym (append-nil m.events) in
    λ t. Some (record { stops = stops t; devices = m.devices; events = events t })
leads image budget (x ∷ xs) m last long known good all =
    let i : ℕ = x.vcpu in
    let here = get_some m.stops i known.0 in
    let there = get_some last i (omega (arith, known.0)) in
    let waits = waits_for image budget m.devices x xs here.0 there.0 (all i here.0 there.0 here.1 there.1) in
    let c : Counted = waits.0 in
    let at : slice_get m.stops i ≡ Some (Waits x.event c) = here.1 ∙ ap Some waits.1 in
    let asks : IsGoodWait 0 budget x.event c = good i (Waits x.event c) at in
    let next : Machine = event_done budget i x.event c m (at_once image i x.event c.vcpu m.devices) in
    let stop : Standstill = stop_after_event image budget i x.event c m.devices in
    let many : length next.stops ≡ length m.stops = length-set m.stops i stop in
    let rest = leads image budget xs next last (long ∙ sym many) (subst (λ n. AllOf n xs) (sym many) known.1)
    (good_set budget m.stops i (Waits x.event c) stop at (good_lower 0 budget stop (good_stop image 0 budget i x.event c m.devices asks)) good)
    (further image budget m.devices x xs m.stops last here.0 c here.1 waits.1 all) in
    let events : next.events ++ xs ≡ m.events ++ x ∷ xs = append_assoc m.events (x ∷ []) xs in
    ap (λ (o : Option Machine). option_and_then (λ n. along image budget (turns_of xs) n) o) (item_at image budget 0 m x c at asks)
    ∙ rest
    ∙ (λ t. Some (record { stops = last; devices = after_history next.devices xs; events = events t }))

first_at : (image : Contents) (budget i n k : ℕ) (from : Standstill) → slice_get (first_stops image budget i n) k ≡ Some from → from ≡ next_within budget (start_of image (i + k))
first_at image budget i zero k from at = absurd cc
first_at image budget i (suc n) zero from at = let is : next_within budget (start_of image i) ≡ from = cc at in let none : i ≡ i + 0 = omega arith in sym is ∙ ap (λ j. next_within budget (start_of image j)) none
first_at image budget i (suc n) (suc k) from at = let one : i + 1 + k ≡ i + suc k = omega arith in first_at image budget (i + 1) n k from at ∙ ap (λ j. next_within budget (start_of image j)) one

first_good : (image : Contents) (budget n : ℕ) → EachGood budget (first_stops image budget 0 n)
first_good image budget n i s at =
    subst (λ z. IsGood 0 budget z) (sym (first_at image budget 0 n i s at)) (good_next 0 budget (budget - 0) (start_of image (0 + i)) (omega arith) refl refl)

all_of : (n : ℕ) (log : List Entry) → ((k : ℕ) (x : Entry) → slice_get log k ≡ Some x → x.vcpu < n) → AllOf n log
all_of n [] each = tt
all_of n (x ∷ xs) each = (each 0 x refl, all_of n xs (λ k. each (suc k)))

same_vcpu : (log : List Entry) (k : ℕ) (x y : Entry) (j : ℕ) → slice_get log k ≡ Some x → slice_get log k ≡ Some y → y.vcpu ≡ j → x.vcpu ≡ j
same_vcpu log k x y j at there is = let same : x ≡ y = cc in ap (λ (z : Entry). z.vcpu) same ∙ is

-- whose an entry is
owner : (image : Contents) (budget : ℕ) (input : List ℕ) (log : List Entry) (owns : List (List ℕ)) (last : List Standstill) → Made image budget input log owns last → (k : ℕ) (x : Entry) → slice_get log k ≡ Some x →
    (j : ℕ) × (own : List ℕ) × (slice_get owns j ≡ Some own) × IsAmong k own × (x.vcpu ≡ j)
owner image budget input log owns last made k x at =
    let f = made.each k (slice_get_within log k x at) in
    let small : f.0 < length owns = slice_get_within owns f.0 f.1 f.2 in
    let to = get_some last f.0 (omega (arith, made.owned, made.lasting, small)) in
    let w : (y : Entry) × (slice_get log k ≡ Some y) × (y.vcpu ≡ f.0) = who_made image budget (opening image.header.vcpus input) f.0 log 0 f.1 (next_within budget (start_of image f.0)) to.0 k (made.came f.0 f.1 to.0 f.2 to.1) f.3 in
    (f.0, f.1, f.2, f.3, same_vcpu log k x w.0 f.0 at w.1 w.2)

-- each vCPU's way along the whole history
each_passes : (image : Contents) (budget : ℕ) (input : List ℕ) (log : List Entry) (owns : List (List ℕ)) (last : List Standstill) → Made image budget input log owns last → (i : ℕ) (to : Standstill) →
    slice_get last i ≡ Some to → Passes image budget i (opening image.header.vcpus input) log (next_within budget (start_of image i)) to
each_passes image budget input log owns last made i to at =
    let d : Devices = opening image.header.vcpus input in
    let small : i < length last = slice_get_within last i to at in
    let mine = get_some owns i (omega (arith, made.owned, made.lasting, small)) in
    passes_from image budget d i [] log mine.0 (next_within budget (start_of image i)) to (made.came i mine.0 to mine.1 at)
    (λ k x low there none is.
    let o = owner image budget input log owns last made k x there in
    let same : o.0 ≡ i = sym o.4 ∙ is in
    let list : o.1 ≡ mine.0 = let a : slice_get owns i ≡ Some o.1 = ap (λ j. slice_get owns j) (sym same) ∙ o.2 in let b = mine.1 in cc (a, b) in
    none (subst (λ l. IsAmong k l) list o.3))

pub merges : MadeHistoriesRun
merges image budget input log owns last made =
    let start : Machine = machine_at_start image budget input in
    let many : length start.stops ≡ image.header.vcpus = length-first_stops image budget 0 image.header.vcpus in
    let each = each_passes image budget input log owns last made in
    let all : AllPass image budget start.devices log start.stops last = λ i from to at at_last.
    let is : from ≡ next_within budget (start_of image i) = first_at image budget 0 image.header.vcpus i from at ∙ (let zeroth : 0 + i ≡ i = omega arith in ap (λ j. next_within budget (start_of image j)) zeroth) in
    subst (λ s. Passes image budget i start.devices log s to) (sym is) (each i to at_last) in
    let of : AllOf (length start.stops) log = all_of (length start.stops) log (λ k x at.
    let o = owner image budget input log owns last made k x at in
    let small : o.0 < length owns = slice_get_within owns o.0 o.1 o.2 in
    omega (arith, o.4, small, made.owned, many)) in
    let end : Machine = machine_of image input log last in (
      ap (λ (o : Option Machine). option_and_then where_ended o) (leads image budget log start last (made.lasting ∙ sym many) of (first_good image budget image.header.vcpus) all)
          ∙ ap (λ (b : Bool). if b then Some end else None) made.over,
      each,
    )
