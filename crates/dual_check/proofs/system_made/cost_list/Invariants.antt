use Rattle.std.proofs.Common.{◌≡◌, ◌++◌, map, length}
use Rattle.ipet_rows.specs.Rows.{cost_of}
use Rattle.dual_check.specs.Terms.{AreFrom}
use Rattle.dual_check.specs.Openings.{costs_of}
use Rattle.dual_check.proofs.system_made.cost_list.Given as goal

abbrev pub invariant-loop-column : goal.invariant-loop-column
invariant-loop-column l = record {
  nodes : AreFrom (length l.outline.nodes) l.rest;
  made : l.costs.items ++ map (λ c. cost_of (costs_of l.outline) c) l.rest ≡ map (λ c. cost_of (costs_of l.outline) c) l.columns;
}

abbrev pub decreases-loop-column : goal.decreases-loop-column
decreases-loop-column l = length l.rest
