-- What is put, with the statements that are left, is all, and there is room for what is left.
use Rattle.std.proofs.Common.{◌≡◌, ◌≤◌, ◌+◌, ◌++◌, map, drop}
use Rattle.alf_program.specs.Tree.{allocation_of}
use Rattle.c_unit.specs.Limits.{most_elements}
use Rattle.c_unit.specs.Tree.{statement_of, statements_of}
use Rattle.c_unit.specs.Units.{unit_of}
use Rattle.c_rules.specs.Counts.{all_elements_in}
use Rattle.c_lowered.specs.Statements.{calls_in_all}
use Rattle.c_lowered.specs.Frames.{all_frames_in}
use Rattle.object_layout.specs.Views.{program_in}
use Rattle.frame_lowering.proofs.frames.+frames.Given as goal

abbrev pub invariant-put_row-loop-statement : goal.invariant-put_row-loop-statement
invariant-put_row-loop-statement l =
    record {
      frames : map allocation_of l.frames.items ++ all_frames_in (program_in l.place.table.now) l.place.function l.next (statements_of (map statement_of (drop l.statement-index l.row)))
          ≡ map allocation_of l.initial.frames.items ++ all_frames_in (program_in l.place.table.now) l.place.function l.calls (statements_of (map statement_of l.row));
      calls : l.next + calls_in_all (program_in l.place.table.now) (statements_of (map statement_of (drop l.statement-index l.row))) ≡ l.calls + calls_in_all (program_in l.place.table.now) (statements_of (map statement_of l.row));
      few : all_elements_in (unit_of l.place.table.now).words (statements_of (map statement_of (drop l.statement-index l.row))) ≤ most_elements;
    }
