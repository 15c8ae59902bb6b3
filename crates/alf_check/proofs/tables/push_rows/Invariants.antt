use Rattle.std.proofs.Common.{◌≡◌, ◌++◌, map, take}
use Rattle.alf_program.specs.Tree.{allocation_of}
use Rattle.alf_check.specs.Numbers.{rows_of}
use Rattle.alf_check.proofs.tables.push_rows.Given as goal

abbrev pub invariant-loop-frame : goal.invariant-loop-frame
invariant-loop-frame l = l.rows.items ≡ l.initial.rows.items ++ rows_of l.owner (map allocation_of (take l.frame-index l.frames))
