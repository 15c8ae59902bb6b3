use Rattle.std.proofs.Common.{◌≡◌, ◌<◌, ℕ, get_or, map, take}
use Rattle.domain_core.specs.Outlines.{shape_of}
use Rattle.ipet_rows.specs.Rows.{row_of}
use Rattle.dual_check.specs.declared.constraint.Constraint.{Constraint}
use Rattle.dual_check.specs.Constraints.{weighing_of}
use Rattle.dual_check.specs.Small.{ConstraintFits}
use Rattle.dual_check.proofs.system_made.row_list.Given as goal

abbrev pub invariant-loop-constraint : goal.invariant-loop-constraint
invariant-loop-constraint l = record {
  made : l.rows.items ≡ map (λ k. row_of l.columns (weighing_of (shape_of l.outline) k)) (take l.constraint-index l.constraints);
  fits : (k : ℕ) (d : Constraint) → k < l.constraint-index → ConstraintFits (get_or l.constraints k d);
}
