use Rattle.alf_ops.proofs.Cells.{reads_back}
use Rattle.alf_ops.proofs.LoadsAndStores.{store_then_load}
use Rattle.alf_ops.proofs.laws.a_load_gives_what_was_stored.Goals as goal

pub returns-clause-same : goal.returns-clause-same
returns-clause-same c = store_then_load

pub returns-clause-within : goal.returns-clause-within
returns-clause-within c = reads_back
