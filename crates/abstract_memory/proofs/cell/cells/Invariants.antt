use Rattle.std.proofs.Common.{◌≡◌, ◌++◌, length}
use Rattle.alf_check.specs.Shapes.{shapes_of}
use Rattle.pointer_rules.specs.AbstractValues.{ArePlaces}
use Rattle.memory_rules.specs.Addresses.{cells_of}
use Rattle.abstract_memory.specs.Running.{runs_in}
use Rattle.abstract_memory.proofs.cell.cells.Given as goal

abbrev pub invariant-loop-place : goal.invariant-loop-place
invariant-loop-place l =
    (l.cells.items ++ cells_of (shapes_of l.rows) (runs_in l.running) l.rest l.size ≡ cells_of (shapes_of l.rows) (runs_in l.running) l.at.places l.size)
    × ArePlaces l.rest

abbrev pub decreases-loop-place : goal.decreases-loop-place
decreases-loop-place l = length l.rest
