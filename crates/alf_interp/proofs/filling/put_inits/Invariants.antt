use Rattle.std.proofs.Common.{◌≡◌, List, length}
use Rattle.std.specs.List.{AllByRecursion}
use Rattle.alf_ops.specs.declared.history.RunEvent.{RunEvent}
use Rattle.alf_values.specs.Memories.{shapes}
use Rattle.alf_values.specs.Standing.{StandsFor}
use Rattle.alf_runs.specs.Entering.{with_inits}
use Rattle.alf_interp.specs.Doing.{Continues}
use Rattle.alf_interp.specs.Filling.{InitsHaveRoom, IsInitWord}
use Rattle.alf_interp.proofs.filling.put_inits.Given as goal

abbrev pub invariant-loop-init : goal.invariant-loop-init
invariant-loop-init l = record {
  words : AllByRecursion IsInitWord l.rest;
  shapes_are : shapes l.frames ≡ shapes l.fn.frames;
  functions_are : length l.frames.running ≡ length l.fn.frames.running;
  goes_on : (history : List RunEvent) → StandsFor l.fn.frames history
      → InitsHaveRoom (shapes l.fn.frames) history l.inits
      → Continues l.frames (λ h. InitsHaveRoom (shapes l.fn.frames) h l.rest) (with_inits l.inits history) (λ h. with_inits l.rest h);
}

abbrev pub decreases-loop-init : goal.decreases-loop-init
decreases-loop-init l = length l.rest
