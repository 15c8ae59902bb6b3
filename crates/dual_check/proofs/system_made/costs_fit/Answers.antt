-- The numbers of a list have 32 bits.
use Rattle.dual_check.proofs.Small.{cost_fits}
use Rattle.dual_check.proofs.system_made.costs_fit.Goals as goal

pub returns : goal.returns
returns c = λ e. cost_fits c.args.costs.now e (c.type_inv.costs e).fits
