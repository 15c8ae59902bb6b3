use Rattle.std.proofs.Common.{◌≡◌, List, length}
use Rattle.std.specs.List.{AllZip}
use Rattle.alf_ops.specs.declared.history.RunEvent.{RunEvent}
use Rattle.alf_values.specs.Memories.{shapes}
use Rattle.alf_values.specs.Standing.{StandsFor}
use Rattle.alf_runs.specs.Starts.{with_inputs}
use Rattle.alf_interp.specs.Doing.{Continues}
use Rattle.alf_interp.specs.Filling.{InputsHaveRoom, IsInputWord}
use Rattle.alf_interp.proofs.filling.put_inputs.Given as goal

abbrev pub invariant-loop-row : goal.invariant-loop-row
invariant-loop-row l = record {
  words : AllZip IsInputWord l.rest l.left;
  shapes_are : shapes l.frames ≡ shapes l.fn.frames;
  functions_are : length l.frames.running ≡ length l.fn.frames.running;
  goes_on : (history : List RunEvent) → StandsFor l.fn.frames history
      → InputsHaveRoom (shapes l.fn.frames) history l.rows l.words
      → Continues l.frames (λ h. InputsHaveRoom (shapes l.fn.frames) h l.rest l.left) (with_inputs l.rows l.words history) (λ h. with_inputs l.rest l.left h);
}

abbrev pub decreases-loop-row : goal.decreases-loop-row
decreases-loop-row l = length l.rest
