-- What is left to show of `labels_lead_to_what_stands_after_them`.
use Rattle.lowering_simulation.proofs.PlaceLemmas.{leads}
use Rattle.lowering_simulation.proofs.label_laws.labels_lead_to_what_stands_after_them.Goals as goal

pub returns : goal.returns
returns c = leads
