-- The divisor so far, and then the rest, is the divisor of all.
use Rattle.std.proofs.Common.{◌≡◌, pos, length}
use Rattle.std.specs.Prelude.{◌<ℤ◌}
use Rattle.std.specs.Int.{w128}
use Rattle.std.specs.Int.RustNames.{FitsSigned}
use Rattle.simplex_tableau.specs.Reducing.{gcd_from}
use Rattle.simplex_tableau.proofs.reducing.common_divisor_of.Given as goal

abbrev pub invariant-loop-term : goal.invariant-loop-term
invariant-loop-term l = record {
  above : pos 0 <ℤ l.divisor;
  fits : FitsSigned w128 l.divisor;
  rest : gcd_from l.divisor l.rest ≡ gcd_from l.initial.divisor l.terms;
}

abbrev pub decreases-loop-term : goal.decreases-loop-term
decreases-loop-term l = length l.rest
