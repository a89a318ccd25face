-- What holds of every instruction that has a spelling.
use Rattle.std.specs.Prelude.{◌<◌}
use Rattle.x86_base.specs.declared.op.Op.{Op}
use Rattle.x86_base.specs.declared.op.Op.TheVariants as op

-- the condition of a conditional operation is one of the sixteen
abbrev pub HasCondition : Op → Type 0
HasCondition (op.Jcc c) = c < 16
HasCondition (op.Setcc c) = c < 16
HasCondition (op.Cmovcc c) = c < 16
HasCondition _ = Unit {0}
