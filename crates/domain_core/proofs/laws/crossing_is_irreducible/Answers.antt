-- What is left to show of `crossing_is_irreducible`.
use Rattle.domain_core.proofs.ReducibleLemmas.{crossing_irreducible}
use Rattle.domain_core.specs.Reducible.{IsEdge}
use Rattle.domain_core.proofs.laws.crossing_is_irreducible.Goals as goal

pub returns : goal.returns
returns c = λ edges. crossing_irreducible (IsEdge edges)
