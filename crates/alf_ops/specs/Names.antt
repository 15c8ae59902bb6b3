-- The names of the operators as rows of a table tell them, and which operator a name stands for.
--   spelling op                the bytes of the operator's name
--   operators                  the operators in the order of the table
--   name_of row                the bytes of the row's name
--   TellsOperator row          the row tells its operator's name and counts
--   operator_named rows name   the operator of the first row of this name, or None
--   HaveOwnNames               no two operators have one name
use Rattle.std.specs.Prelude.{◌≡◌, ℕ, List, find, Option, option_map, length}
use Rattle.std.specs.Str.{bytes_eq}
use Rattle.alf_ops.specs.Layouts.{size_count, operands_by_layout}
use Rattle.alf_ops.specs.Table.{layout_of}
use Rattle.alf_ops.specs.declared.operator.Op.{Op}
use Rattle.alf_ops.specs.declared.table.OpRow.{OpRow}
pub use Rattle.alf_ops.specs.Table.{spelling, operators}

-- the bytes of a row's name
abbrev pub name_of : OpRow → List ℕ
name_of row = row.name.now

-- the row tells the operator's name, how many sizes are written and how many operands there are
pub record TellsOperator (row : OpRow) : Type 0 where
  pub name : name_of row ≡ spelling row.op
  pub sizes : row.sizes ≡ size_count (layout_of row.op)
  pub operands : row.operands ≡ length (operands_by_layout (layout_of row.op) 0 0 0)

-- the operator of the first row of this name, or None where no row has it
abbrev pub operator_named : List OpRow → List ℕ → Option Op
operator_named rows name = option_map (λ row. row.op) (find (λ row. bytes_eq (name_of row) name) rows)

-- no two operators have one name
abbrev pub HaveOwnNames : Type 0
HaveOwnNames = (op other : Op) → spelling op ≡ spelling other → op ≡ other
