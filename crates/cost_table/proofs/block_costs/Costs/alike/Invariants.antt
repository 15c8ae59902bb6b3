use Rattle.std.proofs.Common.{◌≡◌, ◌≤◌, ℕ, Vec, Global, map, length}
use Rattle.alf_check.specs.CheckedPrograms.{seen}
use Rattle.cost_table.proofs.Alike.{alike}
use Rattle.cost_table.proofs.block_costs.Costs.alike.Given as goal

abbrev pub invariant-loop-func : goal.invariant-loop-func
invariant-loop-func l = (l.func ≤ length (seen l.checked).funcs) × (map (λ (row : Vec ℕ Global). row.items) l.rows.items ≡ alike (seen l.checked) l.others l.func)
