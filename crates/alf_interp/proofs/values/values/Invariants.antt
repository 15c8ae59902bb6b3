use Rattle.std.proofs.Common.{◌≡◌, List, map, length}
use Rattle.std.specs.List.{AllByRecursion}
use Rattle.alf_ops.specs.declared.history.RunEvent.{RunEvent}
use Rattle.alf_ops.specs.Pointers.{operands}
use Rattle.alf_check.specs.CheckedPrograms.{term_of}
use Rattle.alf_values.specs.Memories.{shapes}
use Rattle.alf_values.specs.Standing.{StandsFor}
use Rattle.alf_runs.specs.Expressions.{value_of}
use Rattle.alf_interp.specs.Doing.{before_rest}
use Rattle.alf_interp.specs.Typed.{IsTyped}
use Rattle.alf_interp.proofs.values.values.Given as goal

abbrev pub invariant-loop-term : goal.invariant-loop-term
invariant-loop-term l = record {
  typed : AllByRecursion IsTyped (map term_of l.rest);
  goes_on : (history : List RunEvent) → StandsFor l.frames history
      → operands (map (value_of (shapes l.frames) history) (map term_of l.terms)) ≡ before_rest l.found.items (operands (map (value_of (shapes l.frames) history) (map term_of l.rest)));
}

abbrev pub decreases-loop-term : goal.decreases-loop-term
decreases-loop-term l = length l.rest
