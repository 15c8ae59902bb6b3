use Rattle.std.proofs.Common.{◌≡◌, map, drop}
use Rattle.alf_program.specs.Tree.{allocation_of}
use Rattle.alf_faults.specs.Fault.{each_from, earliest}
use Rattle.alf_faults.specs.Duplicates.{frame_duplicates}
use Rattle.alf_faults.proofs.frame_faults.repeated_frame.Given as goal

abbrev pub invariant-loop-place : goal.invariant-loop-place
invariant-loop-place l =
    earliest (each_from (frame_duplicates (map allocation_of l.taken) (map allocation_of l.others) (map allocation_of l.frames)) l.place (map allocation_of (drop l.place l.frames)))
    ≡ earliest (each_from (frame_duplicates (map allocation_of l.taken) (map allocation_of l.others) (map allocation_of l.frames)) 0 (map allocation_of l.frames))
