use Rattle.alf_ops.proofs.Cells.{load_fits}
use Rattle.alf_ops.proofs.laws.sound_histories_give_values_that_fit.Goals as goal

pub returns-clause-loaded : goal.returns-clause-loaded
returns-clause-loaded c = load_fits
