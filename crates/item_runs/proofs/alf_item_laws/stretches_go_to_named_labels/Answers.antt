use Rattle.item_runs.proofs.Naming.{goes_to_named}
use Rattle.item_runs.proofs.alf_item_laws.stretches_go_to_named_labels.Goals as goal

pub returns : goal.returns
returns c = goes_to_named
