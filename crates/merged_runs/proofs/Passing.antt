-- A worker's vCPU along the whole history.
use Rattle.std.proofs.Common.{◌≡◌, ◌≢◌, ◌⊎◌, ⊎_elim, ℕ, ◌+◌, ◌<◌, ◌≤◌, List, [], ◌∷◌, ◌++◌, length, take, refl, ap, sym, ◌∙◌, subst, arith, inl, inr, append_assoc, length-append, Some}
use Rattle.std.specs.Prelude.{slice_get}
use Rattle.std.proofs.Math.Seq.{take-append_seam}
use Rattle.std.proofs.lemmas.Option.{slice_get_within}
use mathlib.Core.Logic.{dite}
use native.Mathlib.Decide.{ℕ_discrete}
use Rattle.image_file.specs.Image.{Contents}
use Rattle.event_table.specs.declared.turn.Entry.{Entry}
use Rattle.guest_interp.specs.Stepping.{Standstill, Waits}
use Rattle.device_bus.specs.Devices.{Devices}
use Rattle.device_bus.specs.History.{after_event, after_history}
use Rattle.device_bus.proofs.Histories.{after_history-append}
use Rattle.plain_machine.specs.Plain.{stop_after_event}
use Rattle.merged_runs.specs.Merge.{Comes, IsAmong, Passes}

-- numbers that rise from low on have none below
none_below : (image : Contents) (budget : ℕ) (d : Devices) (i : ℕ) (known : List Entry) (low : ℕ) (own : List ℕ) (from to : Standstill) (j : ℕ) →
    Comes image budget d i known low own from to → j < low → IsAmong j own → ⊥
none_below image budget d i known low [] from to j h less among = among
none_below image budget d i known low (k ∷ ks) from to j h less among =
    let a = h.0 in
    ⊎_elim
    (λ (same : j ≡ k). absurd (omega arith))
    (λ (rest : IsAmong j ks). none_below image budget d i known (k + 1) ks (stop_after_event image budget i h.1 h.2 (after_history d (take k known))) to j h.5 (omega arith) rest)
    among

-- what stands at a worker's number is its vCPU's
pub who_made : (image : Contents) (budget : ℕ) (d : Devices) (i : ℕ) (known : List Entry) (low : ℕ) (own : List ℕ) (from to : Standstill) (k : ℕ) →
    Comes image budget d i known low own from to → IsAmong k own → (x : Entry) × (slice_get known k ≡ Some x) × (x.vcpu ≡ i)
who_made image budget d i known low [] from to k h among = absurd among
who_made image budget d i known low (j ∷ js) from to k h among = ⊎_elim
    (λ (same : k ≡ j). (record { vcpu = i; event = h.1 }, ap (λ n. slice_get known n) same ∙ h.3, refl))
    (λ (rest : IsAmong k js). who_made image budget d i known (j + 1) js (stop_after_event image budget i h.1 h.2 (after_history d (take j known))) to k h.5 rest)
    among

get_front : (front : List Entry) (x : Entry) (xs : List Entry) → slice_get (front ++ x ∷ xs) (length front) ≡ Some x
get_front [] x xs = refl
get_front (y ∷ ys) x xs = get_front ys x xs

-- from a place on: what isn't among the numbers is another vCPU's
abbrev pub Others : ℕ → List Entry → ℕ → List ℕ → Type 0
Others i log low own = (k : ℕ) (x : Entry) → low ≤ k → slice_get log k ≡ Some x → (IsAmong k own → ⊥) → x.vcpu ≢ i

pub passes_from : (image : Contents) (budget : ℕ) (d : Devices) (i : ℕ) (front rest : List Entry) (own : List ℕ) (from to : Standstill) →
    Comes image budget d i (front ++ rest) (length front) own from to → Others i (front ++ rest) (length front) own → Passes image budget i (after_history d front) rest from to
passes_from image budget d i front [] [] from to h others = h
passes_from image budget d i front [] (k ∷ ks) from to h others =
    let low = h.0 in
    let within : k < length (front ++ []) = slice_get_within (front ++ []) k (record { vcpu = i; event = h.1 }) h.3 in
    absurd (omega (arith, length-append front []))
passes_from image budget d i front (x ∷ xs) own from to h others =
    let log : List Entry = front ++ x ∷ xs in
    let n : ℕ = length front in
    let here : slice_get log n ≡ Some x = get_front front x xs in
    let again : (front ++ x ∷ []) ++ xs ≡ log = append_assoc front (x ∷ []) xs in
    let longer : length (front ++ x ∷ []) ≡ n + 1 = length-append front (x ∷ []) in
    let seam : take n log ≡ front = take-append_seam front (x ∷ xs) in
    let devices : after_history d (front ++ x ∷ []) ≡ after_event (after_history d front) x.vcpu x.event = after_history-append d front (x ∷ []) in
    goes image budget d i front log n x xs own from to here seam h others
    (λ own' from' came out. subst (λ e. Passes image budget i e xs from' to) devices
    (passes_from image budget d i (front ++ x ∷ []) xs own' from' to
    (subst (λ (z : List Entry × ℕ). Comes image budget d i z.0 z.1 own' from' to) (λ t. (sym again t, sym longer t)) came)
    (subst (λ (z : List Entry × ℕ). Others i z.0 z.1 own') (λ t. (sym again t, sym longer t)) out)))
  where
    goes : (image : Contents) (budget : ℕ) (d : Devices) (i : ℕ) (front log : List Entry) (n : ℕ) (x : Entry) (xs : List Entry) (own : List ℕ) (from to : Standstill) →
        slice_get log n ≡ Some x → take n log ≡ front → Comes image budget d i log n own from to → Others i log n own →
        ((own' : List ℕ) (from' : Standstill) → Comes image budget d i log (n + 1) own' from' to → Others i log (n + 1) own' → Passes image budget i (after_event (after_history d front) x.vcpu x.event) xs from' to) →
        Passes image budget i (after_history d front) (x ∷ xs) from to
    goes image budget d i front log n x xs [] from to here seam h others next =
        inl (others n x (omega arith) here (λ among. among), next [] from h (λ k y low at none. others k y (omega arith) at none))
    goes image budget d i front log n x xs (k ∷ ks) from to here seam h others next = dite (ℕ_discrete k n)
        (λ same.
        let at : slice_get log n ≡ Some (record { vcpu = i; event = h.1 }) = ap (λ j. slice_get log j) (sym same) ∙ h.3 in
        let entry : Entry = record { vcpu = i; event = h.1 } in
        let is : entry ≡ x = cc (here, at) in
        let event : h.1 ≡ x.event = ap (λ (y : Entry). y.event) is in
        let before : take k log ≡ front = ap (λ j. take j log) same ∙ seam in
        let stop : stop_after_event image budget i h.1 h.2 (after_history d (take k log)) ≡ stop_after_event image budget i x.event h.2 (after_history d front) =
        λ t. stop_after_event image budget i (event t) h.2 (after_history d (before t)) in
        let came : Comes image budget d i log (n + 1) ks (stop_after_event image budget i x.event h.2 (after_history d front)) to =
        subst (λ (z : ℕ × Standstill). Comes image budget d i log (z.0 + 1) ks z.1 to) (λ t. (same t, stop t)) h.5 in
        inr (
          ap (λ (y : Entry). y.vcpu) (sym is),
          h.2,
          h.4 ∙ ap (λ e. Waits e h.2) event,
          next ks (stop_after_event image budget i x.event h.2 (after_history d front)) came
              (λ j y low at none. others j y (omega arith) at (λ among. ⊎_elim (λ (q : j ≡ k). absurd (omega arith)) none among)),
        ))
        (λ other.
        let a = h.0 in
        inl (
          others n x (omega arith) here (λ among. none_below image budget d i log (n + 1) (k ∷ ks) from to n (omega arith, h.1, h.2, h.3, h.4, h.5) (omega arith) among),
          next (k ∷ ks) from (omega arith, h.1, h.2, h.3, h.4, h.5) (λ j y low at none. others j y (omega arith) at none),
        ))
