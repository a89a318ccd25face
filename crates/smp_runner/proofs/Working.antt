-- What a worker knows, turn by turn.
use Rattle.std.proofs.Common.{◌≡◌, ℕ, ◌<◌, ◌≤◌, List, [], ◌∷◌, ◌++◌, length, take, Some, refl, sym, ap, ◌∙◌, subst, arith}
use Rattle.std.specs.Prelude.{slice_get}
use Rattle.std.specs.Option.{unwrap_or}
use Rattle.std.proofs.Math.Seq.{take-append_seam}
use Rattle.page_words.specs.Told.{Kept}
use Rattle.image_file.specs.Image.{Contents}
use Rattle.event_table.specs.declared.end.End.{End}
use Rattle.event_table.specs.declared.event.Event.{Event}
use Rattle.event_table.specs.declared.turn.Entry.{Entry}
use Rattle.guest_interp.specs.Stepping.{Counted, Standstill, Waits, Ended, next_within, start_of}
use Rattle.device_bus.specs.Devices.{Devices, opening}
use Rattle.device_bus.specs.History.{after_history}
use Rattle.host_events.specs.Served.{entries}
use Rattle.plain_machine.specs.Plain.{stop_after_event}
use Rattle.bus_lock.specs.declared.view.View.{View}
use Rattle.vcpu_core.specs.State.{State, end_in}
use Rattle.bus_lock.specs.Carried.{Opened, Carried}
use Rattle.bus_lock.specs.Lists.{AllBelow}
use Rattle.bus_lock.specs.Turns.{Learns, Books}
use Rattle.merged_runs.specs.Merge.{Comes}
use Rattle.smp_runner.proofs.Coming.{comes_longer, comes_on}
use Rattle.smp_runner.specs.Working.{HasEnded, IsSamePass, Works}
use Rattle.smp_runner.specs.Jobs.{IsFresh, IsFinished}

get_last : (front : List Entry) (x : Entry) → slice_get (front ++ x ∷ []) (length front) ≡ Some x
get_last [] x = refl
get_last (y ∷ ys) x = get_last ys x

below_longer : (n m : ℕ) (xs : List ℕ) → n ≤ m → AllBelow n xs → AllBelow m xs
below_longer n m [] le a = tt
below_longer n m (x ∷ xs) le a = let h = a.0 in (omega arith, below_longer n m xs le a.1)

below_more : (n : ℕ) (xs : List ℕ) (k : ℕ) → AllBelow n xs → k < n → AllBelow n (xs ++ k ∷ [])
below_more n [] k a h = (h, tt)
below_more n (x ∷ xs) k a h = (a.0, below_more n xs k a.1 h)

pub works_first : (image : Contents) (budget i : ℕ) (v : View) → v.own ≡ [] → Works image budget i v (next_within budget (start_of image i))
works_first image budget i v none =
    let first : Standstill = next_within budget (start_of image i) in
    record {
      came = subst (λ own. Comes image budget (opening v.vcpus v.input) i v.known 0 own first first) (sym none) refl;
      below = subst (λ own. AllBelow v.reached own) (sym none) tt;
    }

-- more of the history is known
came_longer : (image : Contents) (budget i : ℕ) (v w : View) (stop : Standstill) → Learns v w → Works image budget i v stop →
    Comes image budget (opening w.vcpus w.input) i w.known 0 v.own (next_within budget (start_of image i)) stop
came_longer image budget i v w stop learns works =
    subst (λ (z : ℕ × List ℕ). Comes image budget (opening z.0 z.1) i w.known 0 v.own (next_within budget (start_of image i)) stop) (λ t. (sym learns.vcpus t, sym learns.input t))
    (comes_longer image budget (opening v.vcpus v.input) i v.known w.known 0 v.own (next_within budget (start_of image i)) stop learns.known works.came)

-- a turn without an entry
pub works_same : (image : Contents) (budget i : ℕ) (v w : View) (stop : Standstill) → Learns v w → w.own ≡ v.own → Works image budget i v stop → Works image budget i w stop
works_same image budget i v w stop learns same works = record {
  came = subst (λ own. Comes image budget (opening w.vcpus w.input) i w.known 0 own (next_within budget (start_of image i)) stop) (sym same) (came_longer image budget i v w stop learns works);
  below = subst (λ own. AllBelow w.reached own) (sym same) (below_longer v.reached w.reached v.own learns.reached works.below);
}

abbrev entry_of : ℕ → Event → Entry
entry_of i event = record { vcpu = i; event = event }

-- a turn with the entry that the vCPU waited for
pub works_on : (image : Contents) (budget i : ℕ) (v w : View) (page after : Kept) (k : ℕ) (e : Event) (c : Counted) → Learns v w → (books : Books v i page k after w) → entries i page ≡ record { vcpu = i; event = e } ∷ [] →
    Works image budget i v (Waits e c) → Works image budget i w (stop_after_event image budget i e c (after_history (opening v.vcpus v.input) books.before))
works_on image budget i v w page after k e c learns books shown works =
    let d : Devices = opening v.vcpus v.input in
    let first : Standstill = next_within budget (start_of image i) in
    let event : books.event ≡ e = let a = books.is in let b : entry_of i books.event ∷ [] ≡ entry_of i e ∷ [] = sym a ∙ shown in let f : entry_of i books.event ≡ entry_of i e = cc b in ap (λ (x : Entry). x.event) f in
    let known : w.known ≡ books.before ++ entry_of i e ∷ [] = books.known ∙ ap (λ x. books.before ++ entry_of i x ∷ []) event in
    let at : slice_get w.known k ≡ Some (entry_of i e) = subst (λ n. slice_get w.known n ≡ Some (entry_of i e)) books.number (ap (λ l. slice_get l (length books.before)) known ∙ get_last books.before (entry_of i e)) in
    let before : take k w.known ≡ books.before = subst (λ n. take n w.known ≡ books.before) books.number (ap (λ l. take (length books.before) l) known ∙ take-append_seam books.before (entry_of i e ∷ [])) in
    let terms : opening w.vcpus w.input ≡ d = λ t. opening (learns.vcpus t) (learns.input t) in
    let below : AllBelow k v.own = below_longer v.reached k v.own books.least works.below in
    let came : Comes image budget (opening w.vcpus w.input) i w.known 0 (v.own ++ k ∷ []) first (stop_after_event image budget i e c (after_history (opening w.vcpus w.input) (take k w.known))) =
    comes_on image budget (opening w.vcpus w.input) i w.known 0 v.own first e c k k below (omega arith) (omega arith) at (came_longer image budget i v w (Waits e c) learns works) in
    let more : k < w.reached = omega (arith, books.reached) in
    let small : k ≤ w.reached = omega arith in
    record {
      came = subst (λ (z : List ℕ × Standstill). Comes image budget (opening w.vcpus w.input) i w.known 0 z.0 first z.1)
          (λ t. (sym books.own t, stop_after_event image budget i e c (after_history (terms t) (before t)))) came;
      below = subst (λ own. AllBelow w.reached own) (sym books.own) (below_more w.reached v.own k (below_longer k w.reached v.own small below) more);
    }

-- the pass that a turn was made with
pub same_learnt : (p q : Carried) → q.table ≡ p.table → Learns p.view q.view → IsSamePass p q
same_learnt p q table learns = record { table = table; vcpus = learns.vcpus; input = learns.input; share = learns.share; joined = learns.joined }

-- and turns one after another
pub same_on : (p q r : Carried) → IsSamePass p q → IsSamePass q r → IsSamePass p r
same_on p q r one two = record {
  table = two.table ∙ one.table;
  vcpus = two.vcpus ∙ one.vcpus;
  input = two.input ∙ one.input;
  share = two.share ∙ one.share;
  joined = two.joined ∙ one.joined;
}

-- what a worker gives back once its vCPU has ended
pub finished : (lock : Opened) (image : Contents) (budget i : ℕ) (p q : Carried) (v : State) (n : ℕ) (end other : End) → IsFresh lock p → IsSamePass p q → HasEnded image budget i q.view v →
    n ≡ v.cpu.steps → end ≡ unwrap_or (end_in v.phase) other → IsFinished lock image budget i (record { pass = q; steps = n; end = end })
finished lock image budget i p q v n end other fresh same ended steps is =
    let is_end : end ≡ ended.end = is ∙ ap (λ (s : State). unwrap_or (end_in s.phase) other) ended.stands in
    record {
      of = (same.table ∙ fresh.none.of.0, same.vcpus ∙ fresh.none.of.1, same.input ∙ fresh.none.of.2);
      share = same.share ∙ fresh.share;
      joined = same.joined ∙ fresh.none.joined;
      last = ended.last;
      works = subst (λ (e : End). Works image budget i q.view (Ended e ended.last)) (sym is_end) ended.works;
      steps = steps ∙ ap (λ (s : State). s.cpu.steps) ended.stands;
    }
