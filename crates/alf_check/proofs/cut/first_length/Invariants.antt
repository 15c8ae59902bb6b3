use Rattle.std.proofs.Common.{◌≡◌, map, ◌+◌, drop}
use Rattle.alf_program.specs.Tree.{item_of}
use Rattle.alf_check.specs.Cut.{first_length}
use Rattle.alf_check.proofs.cut.first_length.Given as goal

abbrev pub invariant-loop-at : goal.invariant-loop-at
invariant-loop-at l = l.at + first_length (map item_of (drop l.at l.items)) ≡ first_length (map item_of l.items)
