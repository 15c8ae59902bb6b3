-- The targets so far, with those that are left, are all, and there is room for what is left.
use Rattle.std.proofs.Common.{◌≡◌, ◌<◌, ◌+◌, ◌^◌, ◌++◌, map, length}
use Rattle.c_unit.specs.Tree.{statement_of, statements_of}
use Rattle.c_lowered.specs.Statements.{cases_in, targets_in}
use Rattle.condition_lowering.specs.Views.{within_of}
use Rattle.statement_lowering.proofs.switches.targets_in.Given as goal

abbrev pub invariant-targets : goal.invariant-targets
invariant-targets l =
    (l.targets.items ++ targets_in (within_of l.code) l.kind l.label (statements_of (map statement_of l.rest)) ≡ targets_in (within_of l.code) l.kind l.first (statements_of (map statement_of l.body)))
    × (l.label + cases_in (statements_of (map statement_of l.rest)) < 2 ^ 64)

abbrev pub decreases-targets : goal.decreases-targets
decreases-targets l = length l.rest
