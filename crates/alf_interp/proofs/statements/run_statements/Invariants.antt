use Rattle.std.proofs.Common.{◌≡◌, List, Ok, length, map}
use Rattle.std.specs.List.{AllByRecursion}
use Rattle.alf_ops.specs.declared.history.RunEvent.{RunEvent}
use Rattle.alf_check.specs.CheckedPrograms.{act_of}
use Rattle.alf_values.specs.Memories.{shapes}
use Rattle.alf_values.specs.Standing.{StandsFor}
use Rattle.alf_runs.specs.Statements.{after_statements}
use Rattle.alf_interp.specs.Doing.{Remembers, Continues}
use Rattle.alf_interp.specs.Typed.{IsTypedStatement}
use Rattle.alf_interp.proofs.statements.run_statements.Given as goal

abbrev pub invariant-loop-act : goal.invariant-loop-act
invariant-loop-act l = record {
  typed : AllByRecursion IsTypedStatement (map act_of l.rest);
  remembers : Remembers l.frames;
  shapes_are : shapes l.frames ≡ shapes l.fn.frames;
  functions_are : length l.frames.running ≡ length l.fn.frames.running;
  goes_on : (history : List RunEvent) → StandsFor l.fn.frames history
      → Continues l.frames (λ h. Unit {0}) (after_statements (shapes l.fn.frames) (map act_of l.acts) (Ok history)) (λ h. after_statements (shapes l.fn.frames) (map act_of l.rest) (Ok h));
}

abbrev pub decreases-loop-act : goal.decreases-loop-act
decreases-loop-act l = length l.rest
