-- What the workers gave back, joined one after another.
use Rattle.std.proofs.Common.{◌≡◌, ℕ, zero, suc, ◌+◌, ◌<◌, ◌⊎◌, true, List, [], ◌∷◌, ◌++◌, length, Some, None, refl, sym, ap, ◌∙◌, subst, arith, inl, inr, ⊎_elim, length-append}
use Rattle.std.specs.Prelude.{slice_get}
use Rattle.image_file.specs.Image.{Contents}
use Rattle.event_table.specs.declared.end.End.{End}
use Rattle.event_table.specs.declared.turn.Entry.{Entry}
use Rattle.guest_interp.specs.Stepping.{Counted, Standstill, Waits, Ended, next_within, start_of}
use Rattle.device_bus.specs.Devices.{Devices, opening}
use Rattle.plain_machine.specs.Plain.{all_ended, steps_of, ends_of, vcpu_of}
use Rattle.bus_lock.specs.declared.view.View.{View}
use Rattle.bus_lock.specs.Lists.{StartsWith}
use Rattle.bus_lock.specs.Views.{both, settled}
use Rattle.bus_lock.specs.Carried.{Opened, Carried}
use Rattle.merged_runs.specs.Merge.{Comes}
use Rattle.smp_runner.specs.declared.job.Worked.{Worked}
use Rattle.smp_runner.specs.Jobs.{HasNoEntries, IsFinished, HasGathered}
use Rattle.smp_runner.proofs.Coming.{comes_longer}

-- an item of a list with one more at its end
snoc_cases : {A : Type 0} (xs : List A) (y z : A) (i : ℕ) → slice_get (xs ++ y ∷ []) i ≡ Some z → ((i < length xs) × (slice_get xs i ≡ Some z)) ⊎ ((i ≡ length xs) × (y ≡ z))
snoc_cases [] y z zero at = inr (refl, cc at)
snoc_cases [] y z (suc i) at = absurd cc
snoc_cases (x ∷ xs) y z zero at = inl (omega arith, at)
snoc_cases (x ∷ xs) y z (suc i) at = ⊎_elim
    (λ (t : (i < length xs) × (slice_get xs i ≡ Some z)). inl (let a = t.0 in omega arith, t.1))
    (λ (t : (i ≡ length xs) × (y ≡ z)). inr (let a = t.0 in omega arith, t.1))
    (snoc_cases xs y z i at)

ended_snoc : (stops : List Standstill) (end : End) (c : Counted) → all_ended stops ≡ true → all_ended (stops ++ Ended end c ∷ []) ≡ true
ended_snoc [] end c all = refl
ended_snoc (Waits e v ∷ stops) end c all = cc
ended_snoc (Ended e v ∷ stops) end c all = ended_snoc stops end c all

steps_snoc : (stops : List Standstill) (stop : Standstill) → steps_of (stops ++ stop ∷ []) ≡ steps_of stops ++ (vcpu_of stop).steps ∷ []
steps_snoc [] stop = refl
steps_snoc (x ∷ stops) stop = ap (λ ns. (vcpu_of x).steps ∷ ns) (steps_snoc stops stop)

ends_snoc : (stops : List Standstill) (end : End) (c : Counted) → ends_of (stops ++ Ended end c ∷ []) ≡ ends_of stops ++ end ∷ []
ends_snoc [] end c = refl
ends_snoc (Waits e v ∷ stops) end c = ends_snoc stops end c
ends_snoc (Ended e v ∷ stops) end c = ap (λ es. e ∷ es) (ends_snoc stops end c)

pub gathers_none : (lock : Opened) (image : Contents) (budget : ℕ) (all : Carried) (counts : List ℕ) (overs : List End) →
    HasNoEntries lock all → counts ≡ [] → overs ≡ [] → HasGathered lock image budget 0 all counts overs
gathers_none lock image budget all counts overs has none none' = record {
  of = has.of;
  own = has.own;
  joined = ap length has.joined;
  last = [];
  lasting = refl;
  came = λ i own to at there. absurd (let wrong : None ≡ Some to = there in cc wrong);
  over = refl;
  steps = none;
  ends = none';
}

-- one more pass is joined
pub gathers_one : (lock : Opened) (image : Contents) (budget n : ℕ) (all after : Carried) (w : Worked) (counts counts' : List ℕ) (overs overs' : List End) →
    HasGathered lock image budget n all counts overs → IsFinished lock image budget n w → after.table ≡ all.table → after.view ≡ settled (both all.view w.pass.view) →
    StartsWith after.view.known all.view.known → StartsWith after.view.known w.pass.view.known → counts' ≡ counts ++ w.steps ∷ [] → overs' ≡ overs ++ w.end ∷ [] →
    HasGathered lock image budget (n + 1) after counts' overs'
gathers_one lock image budget n all after w counts counts' overs overs' has done table view begins begins' counted ended =
    let d : Devices = opening lock.vcpus lock.input in
    let v : View = w.pass.view in
    let stop : Standstill = Ended w.end done.last in
    let lists : after.view.joined ≡ all.view.joined ++ v.own ∷ [] = ap (λ (z : View). z.joined) view ∙ ap (λ l. all.view.joined ++ v.own ∷ l) done.joined in
    let mine : Comes image budget d n v.known 0 v.own (next_within budget (start_of image n)) stop =
    subst (λ (z : ℕ × List ℕ). Comes image budget (opening z.0 z.1) n v.known 0 v.own (next_within budget (start_of image n)) stop) (λ t. (done.of.1 t, done.of.2 t)) done.works.came in
    let known : List Entry = after.view.known in
    record {
      of = (table ∙ has.of.0, ap (λ (z : View). z.vcpus) view ∙ has.of.1, ap (λ (z : View). z.input) view ∙ has.of.2);
      own = ap (λ (z : View). z.own) view ∙ has.own;
      joined = ap length lists ∙ length-append all.view.joined (v.own ∷ []) ∙ ap (λ m. m + 1) has.joined;
      last = has.last ++ stop ∷ [];
      lasting = length-append has.last (stop ∷ []) ∙ ap (λ m. m + 1) has.lasting;
      came = λ i own to at there.
          let at' : slice_get (all.view.joined ++ v.own ∷ []) i ≡ Some own = ap (λ l. slice_get l i) (sym lists) ∙ at in
          ⊎_elim
          (λ (t : (i < length all.view.joined) × (slice_get all.view.joined i ≡ Some own)).
          ⊎_elim
          (λ (s : (i < length has.last) × (slice_get has.last i ≡ Some to)). comes_longer image budget d i all.view.known known 0 own (next_within budget (start_of image i)) to begins (has.came i own to t.1 s.1))
          (λ (s : (i ≡ length has.last) × (stop ≡ to)). absurd (omega (arith, t.0, s.0, has.joined, has.lasting)))
          (snoc_cases has.last stop to i there))
          (λ (t : (i ≡ length all.view.joined) × (v.own ≡ own)).
          ⊎_elim
          (λ (s : (i < length has.last) × (slice_get has.last i ≡ Some to)). absurd (omega (arith, t.0, s.0, has.joined, has.lasting)))
          (λ (s : (i ≡ length has.last) × (stop ≡ to)).
          let here : n ≡ i = sym (t.0 ∙ has.joined) in
          subst (λ (z : ℕ × List ℕ × Standstill). Comes image budget d z.0 known 0 z.1 (next_within budget (start_of image z.0)) z.2) (λ u. (here u, t.1 u, s.1 u))
          (comes_longer image budget d n v.known known 0 v.own (next_within budget (start_of image n)) stop begins' mine))
          (snoc_cases has.last stop to i there))
          (snoc_cases all.view.joined v.own own i at');
      over = ended_snoc has.last w.end done.last has.over;
      steps = counted ∙ ap (λ ns. ns ++ w.steps ∷ []) has.steps ∙ ap (λ m. steps_of has.last ++ m ∷ []) done.steps ∙ sym (steps_snoc has.last stop);
      ends = ended ∙ ap (λ es. es ++ w.end ∷ []) has.ends ∙ sym (ends_snoc has.last w.end done.last);
    }
