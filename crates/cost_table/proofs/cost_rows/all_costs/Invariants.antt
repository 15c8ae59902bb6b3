use Rattle.std.proofs.Common.{◌≡◌, map, length}
use Rattle.toml.specs.View.{view}
use Rattle.alf_check.specs.CheckedPrograms.{seen}
use Rattle.cost_table.proofs.CostSteps.{CostsSoFar}
use Rattle.cost_table.proofs.cost_rows.all_costs.Given as goal

abbrev pub invariant-loop-place : goal.invariant-loop-place
invariant-loop-place l = (l.count ≡ length l.values) × CostsSoFar (seen l.checked) l.default (map view l.values) l.place l.costs
