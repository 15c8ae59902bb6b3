use Rattle.std.proofs.Common.{◌≡◌, List, map, take}
use Rattle.alf_ops.specs.declared.history.RunEvent.{RunEvent}
use Rattle.alf_check.specs.CheckedPrograms.{seen}
use Rattle.alf_values.specs.Standing.{StandsFor}
use Rattle.alf_runs.specs.Outcomes.{exported}
use Rattle.alf_interp.proofs.outputs.outputs_of.Given as goal

abbrev pub invariant-loop-frame : goal.invariant-loop-frame
invariant-loop-frame l = (history : List RunEvent) → StandsFor l.frames history → map (exported (seen l.checked) history) (take l.frame-index l.exports) ≡ l.globals.items
