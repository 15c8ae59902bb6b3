-- Laws of fitting.
--   parts_fit  why
use Rattle.transfer_rules.specs.Machines.{StepPromises}
use Rattle.transfer_rules.specs.RunsInside.{StorePromises}
use Rattle.program_analysis.specs.Fitting.{PartsFit}

pub parts_fit : StepPromises → StorePromises → PartsFit
parts_fit steps stores parts o keeps is inputs outline is_of = record {
  kept = record { machine = record { keeps = keeps; is = is; inputs = inputs; promises = steps }; stores = stores };
  outline = outline;
  is_of = is_of;
}
