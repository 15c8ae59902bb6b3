-- The labels so far, with those that are left, are all.
use Rattle.std.proofs.Common.{◌≡◌, ◌+◌, map, length}
use Rattle.c_unit.specs.Tree.{statement_of, statements_of}
use Rattle.c_lowered.specs.Statements.{cases_in}
use Rattle.statement_lowering.proofs.switches.cases_in.Given as goal

abbrev pub invariant-cases : goal.invariant-cases
invariant-cases l = l.count + cases_in (statements_of (map statement_of l.rest)) ≡ cases_in (statements_of (map statement_of l.body))

abbrev pub decreases-cases : goal.decreases-cases
decreases-cases l = length l.rest
