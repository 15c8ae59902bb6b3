use Rattle.std.proofs.Common.{◌≡◌, ◌++◌, map, length}
use Rattle.alf_program.specs.Tree.{function_of}
use Rattle.alf_check.specs.Numbers.{rows_from}
use Rattle.alf_check.proofs.tables.push_all_rows.Given as goal

abbrev pub invariant-loop-func : goal.invariant-loop-func
invariant-loop-func l = l.rows.items ++ rows_from l.owner (map function_of l.rest) ≡ l.initial.rows.items ++ rows_from 0 (map function_of l.funcs)

abbrev pub decreases-loop-func : goal.decreases-loop-func
decreases-loop-func l = length l.rest
