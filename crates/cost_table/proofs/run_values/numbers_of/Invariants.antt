use Rattle.std.proofs.Common.{◌≡◌, map, length}
use Rattle.toml.specs.View.{view}
use Rattle.cost_table.specs.RunValues.{numbers_of}
use Rattle.cost_table.proofs.ValueLists.{before_all}
use Rattle.cost_table.proofs.run_values.numbers_of.Given as goal

-- the numbers that were found stand before those that are left
abbrev pub invariant-loop-value : goal.invariant-loop-value
invariant-loop-value l = numbers_of (map view l.values) ≡ before_all l.numbers.items (numbers_of (map view l.rest))

abbrev pub decreases-loop-value : goal.decreases-loop-value
decreases-loop-value l = length l.rest
