-- What is left to show of `falling_is_reducible`.
use Rattle.domain_core.specs.ReducibleLaws.{falling_reducible}
use Rattle.domain_core.specs.Reducible.{IsEdge}
use Rattle.domain_core.proofs.laws.falling_is_reducible.Goals as goal

pub returns : goal.returns
returns c = λ edges. falling_reducible (IsEdge edges)
