-- What a worker knows of its vCPU.
use Rattle.std.specs.Prelude.{◌≡◌, ℕ}
use Rattle.image_file.specs.Image.{Contents}
use Rattle.event_table.specs.declared.end.End.{End}
use Rattle.guest_interp.specs.Stepping.{Counted, Standstill, Ended, next_within, start_of}
use Rattle.device_bus.specs.Devices.{opening}
use Rattle.vcpu_core.specs.Phase as phase
use Rattle.vcpu_core.specs.State.{State, state}
use Rattle.bus_lock.specs.declared.view.View.{View}
use Rattle.bus_lock.specs.Carried.{Carried}
use Rattle.bus_lock.specs.Lists.{AllBelow}
use Rattle.merged_runs.specs.Merge.{Comes}

-- With the entries that are the pass's own, vCPU i came from its start to this stop.
pub record Works (image : Contents) (budget i : ℕ) (v : View) (stop : Standstill) : Type 0 where
  pub came : Comes image budget (opening v.vcpus v.input) i v.known 0 v.own (next_within budget (start_of image i)) stop
  -- the next number is above them
  pub below : AllBelow v.reached v.own

-- vCPU i has ended, and so did the plain one with its entries
pub record HasEnded (image : Contents) (budget i : ℕ) (v : View) (vcpu : State) : Type 0 where
  pub end : End
  pub last : Counted
  pub stands : vcpu ≡ state i last (phase.Ended end)
  pub works : Works image budget i v (Ended end last)

-- The pass is of the table and of the host that it was of, with its share and the passes that were joined into it.
pub record IsSamePass (old new : Carried) : Type 0 where
  pub table : new.table ≡ old.table
  pub vcpus : new.view.vcpus ≡ old.view.vcpus
  pub input : new.view.input ≡ old.view.input
  pub share : new.view.share ≡ old.view.share
  pub joined : new.view.joined ≡ old.view.joined
