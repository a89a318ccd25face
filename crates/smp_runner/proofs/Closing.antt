-- What is handed back.
use Rattle.std.proofs.Common.{◌≡◌, ◌≢◌, ℕ, zero, suc, ◌+◌, ◌<◌, inl, inr, List, [], ◌∷◌, ◌++◌, length, take, Option, Some, None, refl, sym, ap, ◌∙◌, subst, arith}
use Rattle.std.specs.Prelude.{slice_get, option_map, IfSome, IsSome, map}
use Rattle.std.proofs.lemmas.Bool.Decides.{nat_tests}
use mathlib.Core.Logic.{dite}
use native.Mathlib.Decide.{ℕ_discrete}
use Rattle.image_file.specs.Image.{Contents}
use Rattle.event_table.specs.declared.end.End.{End}
use Rattle.event_table.specs.declared.turn.Entry.{Entry}
use Rattle.event_table.specs.declared.turn.Turn.{Turn}
use Rattle.event_table.specs.declared.turn.Finished.{Finished}
use Rattle.event_table.specs.Turns.{turn_of, turns_of}
use Rattle.guest_interp.specs.Stepping.{next_within, start_of}
use Rattle.device_bus.specs.Devices.{opening}
use Rattle.device_bus.specs.History.{after_history}
use Rattle.host_events.specs.Hosting.{Hosting, IsTelling, started}
use Rattle.plain_machine.specs.Plain.{plain_run}
use Rattle.bus_lock.specs.Lists.{StartsWith, times, once_below, joined_up}
use Rattle.bus_lock.specs.Rule.{IsOpened, input_of}
use Rattle.bus_lock.specs.Views.{numbers}
use Rattle.bus_lock.specs.Carried.{Opened, Carried}
use Rattle.merged_runs.specs.Merge.{Comes, IsAmong, Made, MadeHistoriesRun, machine_of}
use Rattle.smp_runner.specs.Jobs.{HasGathered}
use Rattle.smp_runner.specs.Ran.{IsLegalOrder, RanAlong}
use Rattle.smp_runner.proofs.Coming.{comes_longer}

take_more : {A : Type 0} (xs : List A) (k : ℕ) (x : A) → slice_get xs k ≡ Some x → take k xs ++ x ∷ [] ≡ take (suc k) xs
take_more [] k x at = absurd cc
take_more (y ∷ ys) zero x at = let is : y ≡ x = cc at in ap (λ z. z ∷ []) (sym is)
take_more (y ∷ ys) (suc k) x at = ap (λ l. y ∷ l) (take_more ys k x at)

some_below : {A : Type 0} (xs : List A) (k : ℕ) → k < length xs → IsSome (slice_get xs k)
some_below [] k less = absurd (omega arith)
some_below (x ∷ xs) zero less = refl
some_below (x ∷ xs) (suc k) less = some_below xs k (omega arith)

length-turns : (log : List Entry) → length (turns_of log) ≡ length log
length-turns [] = refl
length-turns (x ∷ xs) = ap (λ n. suc n) (length-turns xs)

-- a turn below their count is there
pub turn_there : (o : Option (List Entry)) (r : Option Turn) (n k : ℕ) → IsSome o → IfSome o (λ log. n ≡ length log) → k < n → IfSome o (λ log. r ≡ slice_get (map turn_of log) k) → IsSome r
turn_there None r n k some counts less is = cc
turn_there (Some log) r n k some counts less is = let same = length-turns log in subst IsSome (sym is) (some_below (turns_of log) k (omega (arith, counts, same)))

-- one more turn is read
pub turn_read : (o : Option (List Entry)) (log : List Entry) (r : Option Turn) (turn : Turn) (k k' : ℕ) (order order' : List Turn) → o ≡ Some log → IfSome o (λ log. r ≡ slice_get (map turn_of log) k) → r ≡ Some turn →
    order' ≡ order ++ turn ∷ [] → k' ≡ suc k → order ≡ take k (turns_of log) → order' ≡ take k' (turns_of log)
turn_read o log r turn k k' order order' told is there pushed one before =
    let at : r ≡ slice_get (turns_of log) k = subst (λ z. IfSome z (λ log. r ≡ slice_get (map turn_of log) k)) told is in
    pushed ∙ ap (λ l. l ++ turn ∷ []) before ∙ take_more (turns_of log) k turn (sym at ∙ there) ∙ ap (λ n. take n (turns_of log)) (sym one)

take_all : {A : Type 0} (xs : List A) (n : ℕ) → n ≡ length xs → take n xs ≡ xs
take_all [] zero is = refl
take_all [] (suc n) is = absurd (omega arith)
take_all (x ∷ xs) zero is = absurd (omega arith)
take_all (x ∷ xs) (suc n) is = ap (λ l. x ∷ l) (take_all xs n (omega arith))

-- all turns are read
pub turns_read : (o : Option (List Entry)) (log : List Entry) (n k : ℕ) (order : List Turn) → o ≡ Some log → IfSome o (λ log. n ≡ length log) → k ≡ n → order ≡ take k (turns_of log) → order ≡ turns_of log
turns_read o log n k order told counts end before =
    let many : n ≡ length log = subst (λ z. IfSome z (λ (log : List Entry). n ≡ length log)) told counts in
    before ∙ take_all (turns_of log) k (end ∙ many ∙ sym (length-turns log))

-- a host that was started is opened
pub starts_opened : (n : ℕ) (input : List ℕ) (h0 h1 : Hosting) → IsTelling h0 → h1 ≡ started n input h0 → IsOpened h1 × (input_of h1.devices ≡ input) × (h1.vcpus ≡ n)
starts_opened n input h0 h1 telling starts =
    let devices : h1.devices ≡ Some (opening n input) = ap (λ (h : Hosting). h.devices) starts ∙ told_some h0.devices (opening n input) telling.0 in
    let history : h1.history ≡ Some [] = ap (λ (h : Hosting). h.history) starts ∙ told_some h0.history [] telling.1 in
    let left : input_of h1.devices ≡ input = ap input_of devices in
    let vcpus : h1.vcpus ≡ n = ap (λ (h : Hosting). h.vcpus) starts in
    ((devices ∙ (λ t. Some (opening (sym vcpus t) (sym left t))), history), left, vcpus)
  where
    told_some : {X Y : Type 0} (o : Option X) (y : Y) → IsSome o → option_map (λ _. y) o ≡ Some y
    told_some None y some = cc
    told_some (Some x) y some = refl

times_append : (k : ℕ) (xs ys : List ℕ) → times k (xs ++ ys) ≡ times k xs + times k ys
times_append k [] ys = omega arith
times_append k (x ∷ xs) ys = let e = times_append k xs ys in omega arith

-- a number that stands in a list is among it
among : (k : ℕ) (xs : List ℕ) → times k xs ≢ 0 → IsAmong k xs
among k [] some = absurd (some refl)
among k (x ∷ xs) some = dite (ℕ_discrete k x)
    (λ same. inl same)
    (λ other. inr (among k xs (λ none. some (let none' : times k xs ≡ 0 = none in grind (arith, nat_tests, other, none')))))

-- a number of all lists stands in one of them
found_in : (k : ℕ) (ls : List (List ℕ)) → times k (joined_up ls) ≢ 0 → (j : ℕ) × (own : List ℕ) × (slice_get ls j ≡ Some own) × IsAmong k own
found_in k [] some = absurd (some refl)
found_in k (l ∷ ls) some = dite (ℕ_discrete (times k l) 0)
    (λ none. let t = found_in k ls (λ z. some (times_append k l (joined_up ls) ∙ (let g : times k l + times k (joined_up ls) ≡ 0 = omega arith in g))) in (suc t.0, t.1, t.2, t.3))
    (λ here. (0, l, refl, among k l here))

-- the history of the closed lock is made by the workers
made_of : (lock : Opened) (image : Contents) (budget : ℕ) (all : Carried) (counts : List ℕ) (overs : List End) (log : List Entry) → lock.vcpus ≡ image.header.vcpus →
    (has : HasGathered lock image budget image.header.vcpus all counts overs) → StartsWith log all.view.known → ((k : ℕ) → times k (numbers all.view) ≡ once_below k (length log)) →
    Made image budget lock.input log all.view.joined has.last
made_of lock image budget all counts overs log same has begins once = record {
  owned = has.joined;
  lasting = has.lasting;
  came = λ i own to at there.
      subst (λ n. Comes image budget (opening n lock.input) i log 0 own (next_within budget (start_of image i)) to) same
      (comes_longer image budget (opening lock.vcpus lock.input) i all.view.known log 0 own (next_within budget (start_of image i)) to begins (has.came i own to at there));
  over = has.over;
  each = λ k less.
      let one : once_below k (length log) ≡ 1 = grind (arith, nat_tests) in
      let is : times k (joined_up all.view.joined) ≡ 1 = ap (λ l. times k (l ++ joined_up all.view.joined)) (sym has.own) ∙ once k ∙ one in
      found_in k all.view.joined (λ z. omega arith);
}

-- what the closed lock's host tells
pub record Closed (lock : Opened) (all : Carried) (log : List Entry) (h : Hosting) : Type 0 where
  pub vcpus : h.vcpus ≡ lock.vcpus
  pub history : h.history ≡ Some log
  pub devices : h.devices ≡ Some (after_history (opening lock.vcpus lock.input) log)
  pub begins : StartsWith log all.view.known
  pub once : (k : ℕ) → times k (numbers all.view) ≡ once_below k (length log)

pub is_legal : (lock : Opened) (image : Contents) (all : Carried) (log : List Entry) (h : Hosting) (f : Finished) → lock.vcpus ≡ image.header.vcpus → Closed lock all log h → f.order.items ≡ turns_of log →
    IsLegalOrder image lock.input f h
is_legal lock image all log h f same closed order = record {
  vcpus = closed.vcpus ∙ same;
  log = log;
  history = closed.history;
  left = after_history (opening image.header.vcpus lock.input) log;
  devices = closed.devices ∙ ap (λ n. Some (after_history (opening n lock.input) log)) same;
  legal = refl;
  order = order;
}

pub ran_along : MadeHistoriesRun → (lock : Opened) (image : Contents) (budget : ℕ) (all : Carried) (counts : List ℕ) (overs : List End) (log : List Entry) (h : Hosting) (f : Finished) →
    lock.vcpus ≡ image.header.vcpus → HasGathered lock image budget image.header.vcpus all counts overs → Closed lock all log h →
    f.order.items ≡ turns_of log → f.steps.items ≡ counts → f.ends.items ≡ overs → RanAlong image budget lock.input f h
ran_along law lock image budget all counts overs log h f same has closed order steps ends =
    let merged = law image budget lock.input log all.view.joined has.last (made_of lock image budget all counts overs log same has closed.begins closed.once) in
    record {
      machine = machine_of image lock.input log has.last;
      plain = ap (λ o. plain_run image budget lock.input o) order ∙ merged.0;
      history = closed.history;
      devices = closed.devices ∙ ap (λ n. Some (after_history (opening n lock.input) log)) same;
      steps = steps ∙ has.steps;
      ends = ends ∙ has.ends;
      events = merged.1;
    }
