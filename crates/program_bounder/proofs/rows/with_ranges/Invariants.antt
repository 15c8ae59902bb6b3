use Rattle.std.proofs.Common.{◌≡◌, ◌++◌, drop}
use Rattle.program_bounder.specs.InputRows.{with_ranges}
use Rattle.program_bounder.proofs.rows.with_ranges.Given as goal

abbrev pub invariant-loop-place : goal.invariant-loop-place
invariant-loop-place l = l.made.items ++ with_ranges (drop l.place l.rows) (drop l.place l.area) ≡ with_ranges l.rows l.area
