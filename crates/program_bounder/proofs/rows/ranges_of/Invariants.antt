use Rattle.std.proofs.Common.{◌≡◌, map, take}
use Rattle.program_bounder.specs.InputRows.{range_of}
use Rattle.program_bounder.proofs.rows.ranges_of.Given as goal

abbrev pub invariant-loop-row : goal.invariant-loop-row
invariant-loop-row l = l.ranges.items ≡ map range_of (take l.row-index l.rows)
