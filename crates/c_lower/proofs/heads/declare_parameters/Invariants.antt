-- Once what is left is known, all is.
use Rattle.std.proofs.Common.{◌≡◌, length}
use Rattle.c_lower.specs.Heads.{with_params}
use Rattle.c_lower.proofs.heads.declare_parameters.Given as goal

abbrev pub invariant-parameters : goal.invariant-parameters
invariant-parameters l = with_params l.rest l.scopes ≡ with_params l.parameters l.initial.scopes

abbrev pub decreases-parameters : goal.decreases-parameters
decreases-parameters l = length l.rest
