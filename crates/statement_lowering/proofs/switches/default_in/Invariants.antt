-- The default is among what is left, and there is room for what is left.
use Rattle.std.proofs.Common.{◌≡◌, ◌<◌, ◌+◌, ◌^◌, map, length}
use Rattle.c_unit.specs.Tree.{statement_of, statements_of}
use Rattle.c_lowered.specs.Statements.{cases_in, default_in}
use Rattle.condition_lowering.specs.Views.{within_of}
use Rattle.statement_lowering.proofs.switches.default_in.Given as goal

abbrev pub invariant-labels : goal.invariant-labels
invariant-labels l =
    (default_in (within_of l.code) l.label l.otherwise (statements_of (map statement_of l.rest)) ≡ default_in (within_of l.code) l.first l.otherwise (statements_of (map statement_of l.body)))
    × (l.label + cases_in (statements_of (map statement_of l.rest)) < 2 ^ 64)

abbrev pub decreases-labels : goal.decreases-labels
decreases-labels l = length l.rest
