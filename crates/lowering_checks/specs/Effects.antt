-- Items of calls, effects and declarations stand.
--   Setting                what is known where they stand: frames of results, and how many there are
--   Shallow e              at most ten operators are nested in the expression
use Rattle.std.proofs.Common.{◌≤◌}
use Rattle.alf_program.specs.Tree.{WholeProgram}
use Rattle.alf_program.specs.Tree as alf
use Rattle.c_unit.specs.Tree.{Expression}
use Rattle.c_unit.specs.Measures.{depth_of}
use Rattle.lowering_checks.specs.Values.{ScopesUsable}

abbrev pub Shallow : Expression → Type 0
Shallow e = depth_of e ≤ 10
