use Rattle.alf_ops.proofs.LoadsAndStores.{store_elsewhere}
use Rattle.alf_ops.proofs.laws.a_store_leaves_other_cells.Goals as goal

pub returns : goal.returns
returns c = store_elsewhere
