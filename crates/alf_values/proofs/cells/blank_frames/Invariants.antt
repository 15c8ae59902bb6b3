-- What `blank_frames` keeps: the frames so far are those of the rows so far.
use Rattle.std.proofs.Common.{◌≡◌, map, take}
use Rattle.alf_values.specs.Cells.{parts_of, blank_parts}
use Rattle.alf_values.proofs.cells.blank_frames.Given as goal

abbrev pub invariant-loop-row : goal.invariant-loop-row
invariant-loop-row l = map parts_of l.frames.items ≡ map blank_parts (take l.row-index l.rows)
