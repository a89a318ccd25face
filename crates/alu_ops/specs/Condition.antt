-- The conditions of jumps, sets and moves (APM volume 3, 'Jcc').
use Rattle.std.specs.Prelude.{ℕ, ◌/◌, ◌%◌, Bool, not, ◌||◌, if◌then◌else◌, ◌==◌}
use Rattle.x86_base.specs.declared.flags.Flags.{Flags}
use Rattle.alu_ops.specs.Number.{differ}

-- whether a condition holds, by its number; an odd one is the opposite of the one before it
abbrev pub holds_of : ℕ → Flags → Bool
holds_of c f =
    let base =
    if c / 2 == 0 then f.of else
    (if c / 2 == 1 then f.cf else
    (if c / 2 == 2 then f.zf else
    (if c / 2 == 3 then f.cf || f.zf else
    (if c / 2 == 4 then f.sf else
    (if c / 2 == 5 then f.pf else
    (if c / 2 == 6 then differ f.sf f.of else
    f.zf || differ f.sf f.of)))))) in
    if c % 2 == 0 then base else not base
