-- What is put, with the locals that are left, is all, and there is room for what is left.
use Rattle.std.proofs.Common.{◌≡◌, ◌≤◌, ◌+◌, ◌++◌, map, length}
use Rattle.alf_program.specs.Tree.{allocation_of}
use Rattle.c_unit.specs.Limits.{most_elements}
use Rattle.c_unit.specs.Tree.{local_of}
use Rattle.c_unit.specs.Units.{unit_of}
use Rattle.c_rules.specs.Counts.{elements_of_all}
use Rattle.c_lowered.specs.Effects.{calls_in_locals}
use Rattle.c_lowered.specs.Frames.{locals_frames}
use Rattle.object_layout.specs.Views.{program_in}
use Rattle.frame_lowering.proofs.frames.put_locals.Given as goal

abbrev pub invariant-locals : goal.invariant-locals
invariant-locals l =
    record {
      frames : map allocation_of l.frames.items ++ locals_frames (program_in l.place.table.now) l.place.function l.next l.kind (map local_of l.rest)
          ≡ map allocation_of l.initial.frames.items ++ locals_frames (program_in l.place.table.now) l.place.function l.calls l.kind (map local_of l.locals);
      calls : l.next + calls_in_locals (program_in l.place.table.now) (map local_of l.rest) ≡ l.calls + calls_in_locals (program_in l.place.table.now) (map local_of l.locals);
      few : elements_of_all (unit_of l.place.table.now).words (map local_of l.rest) ≤ most_elements;
    }

abbrev pub decreases-locals : goal.decreases-locals
decreases-locals l = length l.rest
