-- Up to the place that comes next, all terms are made.
use Rattle.std.proofs.Common.{◌-◌}
use Rattle.domain_core.specs.Outlines.{shape_of}
use Rattle.ipet_rows.specs.PathSparseLaws.{weight_at}
use Rattle.dual_check.specs.Constraints.{weighing_of}
use Rattle.dual_check.proofs.Sought.{IsSought}
use Rattle.dual_check.proofs.made_terms.row_terms.Given as goal

abbrev pub invariant-loop-place : goal.invariant-loop-place
invariant-loop-place l = IsSought (weight_at (weighing_of (shape_of l.outline) l.constraint).weight l.columns) l.end l.place l.first l.second l.third l.terms.items

abbrev pub decreases-loop-place : goal.decreases-loop-place
decreases-loop-place l = l.end - l.place
