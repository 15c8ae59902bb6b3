-- What is left to show of `runs_have_the_units_outcome`.
use Rattle.lowering_simulation.specs.Related.{Related}
use Rattle.lowering_simulation.proofs.RunPrograms.{same_outcome}
use Rattle.lowering_simulation.proofs.run_laws.runs_have_the_units_outcome.Goals as goal

pub returns : goal.returns
returns c unit of place is_embedded rank cells m does outputs there starts follow = same_outcome of unit place (Related place is_embedded) rank outputs cells m does there starts follow
