use Rattle.std.proofs.Common.{rules, ◌≡◌, ℕ, ◌+◌, ◌<◌, ◌≤◌, arith, List, length, get_or, set, Option, Some, refl, subst, sym, ◌∙◌, length-set, get_or-set_other}
use Rattle.std.specs.Prelude.{IfSome}
use Rattle.smp_runner.specs.declared.job.Worked.{Worked}
use Rattle.smp_runner.specs.Jobs.{IsFinished}
use Rattle.smp_runner.proofs.Gathering.{gathers_none, gathers_one}
use Rattle.smp_runner.proofs.gather.gather.Goals as goal

later : (P : ℕ → Worked → Type 0) (done : List (Option Worked)) (i : ℕ) (x : Option Worked) → ((k : ℕ) (d : Option Worked) → i ≤ k → k < length done → IfSome (get_or done k d) (P k)) →
    (k : ℕ) (d : Option Worked) → i + 1 ≤ k → k < length (set done i x) → IfSome (get_or (set done i x) k d) (P k)
later P done i x h k d low less = let n = length-set done i x in subst (λ z. IfSome z (P k)) (sym (get_or-set_other done i k x d (λ e. omega arith))) (h k d (omega arith) (omega arith))

-- the one that is taken
taken : (P : ℕ → Worked → Type 0) (done : List (Option Worked)) (i : ℕ) (d : Option Worked) (w : Worked) → ((k : ℕ) (d : Option Worked) → i ≤ k → k < length done → IfSome (get_or done k d) (P k)) →
    i < length done → d ≡ get_or done i d → d ≡ Some w → P i w
taken P done i d w h less value is = subst (λ (z : Option Worked). IfSome z (P i)) (sym value ∙ is) (h i d (omega arith) less)

pub loop-i-init : goal.loop-i-init
loop-i-init g c = record {
  len = refl;
  done = c.requires.done;
  gathered = gathers_none c.args.lock.now c.args.image.now c.args.budget c.args.all.now c.new-steps.result.items c.new-ends.result.items c.requires.all c.new-steps.ensures.items c.new-ends.ensures.items;
  share = c.requires.share;
}

pub join-requires-clause-of : goal.join-requires-clause-of
join-requires-clause-of g c = c.loop-i.invariant.gathered.of

pub join-requires-clause-other : goal.join-requires-clause-other
join-requires-clause-other g c =
    let i : ℕ = c.loop-i.i in
    let d : Option Worked = c.index_mut.result.now in
    let worked : Worked = c.in_ok-worked.worked in
    let less : i < length c.loop-i.done.items = search rules in
    let is : d ≡ Some worked = search rules in
    (taken (IsFinished c.args.lock.now c.args.image.now c.args.budget) c.loop-i.done.items i d worked c.loop-i.invariant.done less c.index_mut.ensures.value is).of

pub loop-i-preserved : goal.loop-i-preserved
loop-i-preserved g c =
    let now = c.loop-i.invariant in
    let i : ℕ = c.loop-i.i in
    let d : Option Worked = c.index_mut.result.now in
    let worked : Worked = c.in_ok-worked.worked in
    let less : i < length c.loop-i.done.items = search rules in
    let is : d ≡ Some worked = search rules in
    let finished : IsFinished c.args.lock.now c.args.image.now c.args.budget i worked =
    taken (IsFinished c.args.lock.now c.args.image.now c.args.budget) c.loop-i.done.items i d worked now.done less c.index_mut.ensures.value is in
    record {
      len = search rules;
      done = later (IsFinished c.args.lock.now c.args.image.now c.args.budget) c.loop-i.done.items i c.take.new.self now.done;
      gathered =
          gathers_one c.args.lock.now c.args.image.now c.args.budget i c.loop-i.all c.join.new.pass worked c.loop-i.steps.items c.push.new.self.items c.loop-i.ends.items c.push-in-loop-i.new.self.items
          now.gathered finished c.join.ensures.same.0 c.join.ensures.both c.join.ensures.begins.0 c.join.ensures.begins.1 c.in_ok-push.ensures.items c.in_ok-push-2.ensures.items;
      share = let a = finished.share in let b = c.join.ensures.both in let s = now.share in search rules;
    }
