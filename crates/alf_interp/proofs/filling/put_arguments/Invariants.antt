use Rattle.std.proofs.Common.{◌≡◌, List, length}
use Rattle.std.specs.List.{AllByRecursion}
use Rattle.alf_ops.specs.declared.history.RunEvent.{RunEvent}
use Rattle.alf_values.specs.Memories.{shapes}
use Rattle.alf_values.specs.Standing.{StandsFor, IsStorable}
use Rattle.alf_runs.specs.Entering.{with_arguments}
use Rattle.alf_interp.specs.Doing.{Continues}
use Rattle.alf_interp.specs.Filling.{ArgumentsHaveRoom}
use Rattle.alf_interp.proofs.filling.put_arguments.Given as goal

abbrev pub invariant-loop-arg : goal.invariant-loop-arg
invariant-loop-arg l = record {
  storable : AllByRecursion IsStorable l.left;
  shapes_are : shapes l.frames ≡ shapes l.fn.frames;
  functions_are : length l.frames.running ≡ length l.fn.frames.running;
  goes_on : (history : List RunEvent) → StandsFor l.fn.frames history
      → ArgumentsHaveRoom (shapes l.fn.frames) history l.args l.values
      → Continues l.frames (λ h. ArgumentsHaveRoom (shapes l.fn.frames) h l.rest l.left) (with_arguments l.args l.values history) (λ h. with_arguments l.rest l.left h);
}

abbrev pub decreases-loop-arg : goal.decreases-loop-arg
decreases-loop-arg l = length l.rest
