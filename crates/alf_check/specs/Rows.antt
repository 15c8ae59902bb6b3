-- What the code's row of a function stands for.
--   IsRow first func row   the row is that of the function, whose first frame has number first
use Rattle.std.specs.Prelude.{◌≡◌, ◌+◌, ℕ, length}
use Rattle.std.specs.List.{range_with_len}
use Rattle.alf_program.specs.Tree.{Function}
use Rattle.alf_check.specs.declared.rows.FuncRow.{FuncRow}
use Rattle.alf_check.specs.Numbered.{numbered_inits}

-- the row is that of the function, whose first frame has number first
pub record IsRow (first : ℕ) (func : Function) (row : FuncRow) : Type 0 where
  pub name : row.name ≡ func.name
  pub args : row.args.items ≡ range_with_len first (length func.args)
  pub frames : row.frames.items ≡ range_with_len first (length func.args + length func.decls)
  pub inits : row.inits.items ≡ numbered_inits (first + length func.args) func.decls func.inits
