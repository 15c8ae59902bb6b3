use Rattle.std.proofs.Common.{◌≡◌, map, length}
use Rattle.toml.specs.View.{view}
use Rattle.alf_check.specs.CheckedPrograms.{seen}
use Rattle.cost_table.proofs.Steps.{RowsSoFar}
use Rattle.cost_table.proofs.input_rows.all_rows.Given as goal

abbrev pub invariant-loop-place : goal.invariant-loop-place
invariant-loop-place l = (l.count ≡ length l.values) × RowsSoFar (seen l.checked) (map view l.values) l.place l.rows.items l.marks
