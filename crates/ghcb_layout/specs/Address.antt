-- Where the pages stand in the guest's memory: one of 4,096 bytes for each vCPU.
use Rattle.std.specs.Prelude.{ℕ, ◌+◌, ◌*◌}

abbrev pub ghcb_of : ℕ → ℕ
ghcb_of vcpu = 0x80000000 + 0x1000 * vcpu
