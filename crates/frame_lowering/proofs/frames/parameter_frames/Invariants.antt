-- The frames so far, with those of what is left, are all.
use Rattle.std.proofs.Common.{◌≡◌, ◌++◌, map, drop}
use Rattle.alf_program.specs.Tree.{allocation_of}
use Rattle.c_lowered.specs.Frames.{parameter_frames}
use Rattle.object_layout.specs.Views.{program_in}
use Rattle.frame_lowering.proofs.frames.parameter_frames.Given as goal

abbrev pub invariant-loop-parameter : goal.invariant-loop-parameter
invariant-loop-parameter l =
    map allocation_of l.frames.items ++ parameter_frames (program_in l.place.table.now) (drop l.parameter-index l.parameters) ≡ parameter_frames (program_in l.place.table.now) l.parameters
