-- What `blank_frames` keeps: the frames so far are those of the rows so far.
use Rattle.std.proofs.Common.{◌≡◌, map, take}
use Rattle.abstract_memory.specs.Blank.{blank_frame}
use Rattle.abstract_memory.proofs.start.blank_frames.Given as goal

abbrev pub invariant-loop-row : goal.invariant-loop-row
invariant-loop-row l = l.frames.items ≡ map blank_frame (take l.row-index l.rows)
