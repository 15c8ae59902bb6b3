use Rattle.std.proofs.Common.{◌≡◌, map, drop}
use Rattle.alf_program.specs.Tree.{item_of}
use Rattle.alf_faults.specs.Returns.{first_return_from}
use Rattle.alf_faults.proofs.returns.first_return.Given as goal

abbrev pub invariant-loop-place : goal.invariant-loop-place
invariant-loop-place l = first_return_from l.place (map item_of (drop l.place l.items)) ≡ first_return_from 0 (map item_of l.items)
