use Rattle.std.proofs.Common.{◌≡◌, map, take}
use Rattle.alf_program.specs.Tree.{allocation_of, initial_of}
use Rattle.alf_check.specs.Numbered.{numbered_inits}
use Rattle.alf_check.proofs.tables.init_rows.Given as goal

abbrev pub invariant-loop-init : goal.invariant-loop-init
invariant-loop-init l = l.numbered.items ≡ numbered_inits l.start (map allocation_of l.frames) (map initial_of (take l.init-index l.inits))
