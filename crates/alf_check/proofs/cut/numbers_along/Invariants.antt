use Rattle.std.proofs.Common.{◌≡◌, ◌++◌, map, length}
use Rattle.alf_program.specs.Tree.{item_of}
use Rattle.alf_check.specs.Cut.{numbers_along}
use Rattle.alf_check.proofs.cut.numbers_along.Given as goal

abbrev pub invariant-loop-item : goal.invariant-loop-item
invariant-loop-item l = l.numbers.items ++ numbers_along l.number (map item_of l.rest) ≡ numbers_along 0 (map item_of l.items)

abbrev pub decreases-loop-item : goal.decreases-loop-item
decreases-loop-item l = length l.rest
