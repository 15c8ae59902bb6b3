use Rattle.std.proofs.Common.{◌≡◌, ◌≤◌, length, drop}
use Rattle.alf_check.specs.CheckedPrograms.{seen}
use Rattle.cost_table.specs.Costs.{function_from, function_named}
use Rattle.cost_table.proofs.blocks.function_named.Given as goal

abbrev pub invariant-loop-func : goal.invariant-loop-func
invariant-loop-func l = (l.func ≤ length (seen l.checked).funcs) × (function_named (seen l.checked) l.name ≡ function_from l.name l.func (drop l.func (seen l.checked).funcs))
