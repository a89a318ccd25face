-- A row of the opcode table, by its columns and its marks.
use Rattle.std.specs.Prelude.{Bool, true, false}
use Rattle.x86_base.specs.declared.row.Form.{Form}
use Rattle.x86_base.specs.declared.row.RowWidth.{RowWidth}
use Rattle.x86_base.specs.declared.row.Imm.{Imm}
use Rattle.x86_base.specs.declared.row.Ops.{Ops}
use Rattle.x86_base.specs.declared.row.Row.{Row}

-- the marks of a row: 66 allowed, F3 allowed, REX.W needed, REX.B refused
pub record Marks : Type 0 where
  pub size : Bool
  pub rep : Bool
  pub long : Bool
  pub no_base : Bool

abbrev pub plain : Marks
plain = record { size = false; rep = false; long = false; no_base = false }

abbrev pub o : Marks
o = record plain { size = true }

abbrev pub r : Marks
r = record plain { rep = true }

abbrev pub o_r : Marks
o_r = record plain { size = true; rep = true }

abbrev pub w : Marks
w = record plain { long = true }

abbrev pub o_r_x : Marks
o_r_x = record plain { size = true; rep = true; no_base = true }

-- the operands of a row, its width and its immediate
pub record Columns : Type 0 where
  pub form : Form
  pub width : RowWidth
  pub imm : Imm

abbrev pub columns : Form → RowWidth → Imm → Columns
columns form width imm = record { form = form; width = width; imm = imm }

abbrev pub row : Ops → Columns → Marks → Row
row ops columns marks = record {
  ops = ops;
  form = columns.form;
  width = columns.width;
  imm = columns.imm;
  size = marks.size;
  rep = marks.rep;
  long = marks.long;
  no_base = marks.no_base;
}
