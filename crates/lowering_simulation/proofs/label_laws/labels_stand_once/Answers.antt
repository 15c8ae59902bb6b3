-- What is left to show of `labels_stand_once`.
use Rattle.lowering_simulation.proofs.LabelLemmas.{label_stands_once}
use Rattle.lowering_simulation.specs.LabelLaws.{label_stands}
use Rattle.lowering_simulation.proofs.label_laws.labels_stand_once.Goals as goal

pub returns : goal.returns
returns c = record { once = label_stands; at_most = label_stands_once }
