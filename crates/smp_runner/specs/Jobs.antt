-- What the workers are given and give back.
use Rattle.std.specs.Prelude.{◌≡◌, ℕ, ◌<◌, ◌≤◌, true, List, [], length, Option, IfSome, Some, slice_get, slice_index_or}
use Rattle.image_file.specs.Image.{Contents}
use Rattle.event_table.specs.declared.end.End.{End}
use Rattle.guest_interp.specs.Stepping.{Counted, Standstill, Ended, next_within, start_of}
use Rattle.device_bus.specs.Devices.{opening}
use Rattle.plain_machine.specs.Plain.{all_ended, steps_of, ends_of}
use Rattle.bus_lock.specs.Carried.{Opened, Carried, IsOf}
use Rattle.merged_runs.specs.Merge.{Comes}
use Rattle.smp_runner.specs.declared.job.Job.{Job}
use Rattle.smp_runner.specs.declared.job.Worked.{Worked}
use Rattle.smp_runner.specs.Working.{Works}

-- a pass of the lock with no entries, its own or of passes that were joined into it
pub record HasNoEntries (lock : Opened) (pass : Carried) : Type 0 where
  pub of : IsOf lock pass
  pub own : pass.view.own ≡ []
  pub joined : pass.view.joined ≡ []

-- a worker's pass: one share of the lock, and no entries
pub record IsFresh (lock : Opened) (pass : Carried) : Type 0 where
  pub none : HasNoEntries lock pass
  pub share : pass.view.share ≡ 1

-- what comes of vCPU i once it has ended: its pass, its steps and its end
pub record IsFinished (lock : Opened) (image : Contents) (budget i : ℕ) (w : Worked) : Type 0 where
  pub of : IsOf lock w.pass
  pub share : w.pass.view.share ≡ 1
  pub joined : w.pass.view.joined ≡ []
  pub last : Counted
  pub works : Works image budget i w.pass.view (Ended w.end last)
  pub steps : w.steps ≡ last.steps

-- each job has the number of its place, and a fresh pass
abbrev pub AreDealt : Opened → List Job → Type 0
AreDealt lock jobs =
    (k : ℕ) (d : Job) → k < length jobs
    → ((slice_index_or jobs k d).number ≡ k) × IsFresh lock (slice_index_or jobs k d).pass

-- each vCPU from low on has ended
abbrev pub AllFinished : Opened → Contents → ℕ → ℕ → List (Option Worked) → Type 0
AllFinished lock image budget low done =
    (k : ℕ) (d : Option Worked) → low ≤ k → k < length done
    → IfSome (slice_index_or done k d) (IsFinished lock image budget k)

-- What the first n workers gave back, once their passes were joined: where the vCPU of each stopped, with the entries
-- of its pass, and its steps and its end there.
pub record HasGathered (lock : Opened) (image : Contents) (budget n : ℕ) (all : Carried) (counts : List ℕ)
    (overs : List End) : Type 0 where
  pub of : IsOf lock all
  pub own : all.view.own ≡ []
  pub joined : length all.view.joined ≡ n
  pub last : List Standstill
  pub lasting : length last ≡ n
  pub came : (i : ℕ) (own : List ℕ) (to : Standstill) →
      slice_get all.view.joined i ≡ Some own → slice_get last i ≡ Some to →
      Comes image budget (opening lock.vcpus lock.input) i all.view.known 0 own (next_within budget (start_of image i)) to
  pub over : all_ended last ≡ true
  pub steps : counts ≡ steps_of last
  pub ends : overs ≡ ends_of last
