-- The frames so far, with what is left, are all.
use Rattle.std.proofs.Common.{◌≡◌, ◌++◌, map, drop}
use Rattle.std.specs.List.{flat_map}
use Rattle.alf_program.specs.Tree.{allocation_of}
use Rattle.c_lowered.specs.Frames.{global_frame, global_frames}
use Rattle.object_layout.specs.Views.{object_of, program_in}
use Rattle.frame_lowering.proofs.globals.global_frames.Given as goal

abbrev pub invariant-loop-object : goal.invariant-loop-object
invariant-loop-object l =
    map allocation_of l.frames.items ++ flat_map (global_frame (program_in l.table)) (map object_of (drop l.object-index l.objects)) ≡ global_frames (program_in l.table)
