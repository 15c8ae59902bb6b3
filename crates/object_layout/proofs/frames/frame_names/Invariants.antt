-- The names so far, with those of what is left, are all.
use Rattle.std.proofs.Common.{◌≡◌, ◌++◌, [], map, take, drop, reverse}
use Rattle.c_unit.specs.Units.{unit_of}
use Rattle.c_meaning.specs.Objects.{program_of}
use Rattle.c_lowered.specs.Names.{names_from}
use Rattle.object_layout.specs.Views.{object_of}
use Rattle.object_layout.proofs.frames.frame_names.Given as goal

abbrev pub invariant-loop-i : goal.invariant-loop-i
invariant-loop-i l =
    l.frames.items ++ names_from (program_of (unit_of l.unit)) (reverse (map object_of (take l.i l.objects))) (map object_of (drop l.i l.objects))
    ≡ names_from (program_of (unit_of l.unit)) [] (map object_of l.objects)
