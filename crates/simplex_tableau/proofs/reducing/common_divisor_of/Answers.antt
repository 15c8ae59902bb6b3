-- A common divisor with a number above 0 fits.
use Rattle.simplex_tableau.proofs.Freed.{divisor_fits}
use Rattle.simplex_tableau.proofs.reducing.common_divisor_of.Goals as goal

pub common_divisor-divisor-requires : goal.common_divisor-divisor-requires
common_divisor-divisor-requires c = divisor_fits c.loop-term.divisor c.in-Some.term.now.1 c.loop-term.invariant.above c.loop-term.invariant.fits
