-- What is left to show of `headers_lie_on_every_walk`.
use Rattle.domain_core.specs.OutlineLaws.{header_dominates}
use Rattle.domain_core.proofs.laws.headers_lie_on_every_walk.Goals as goal

pub returns : goal.returns
returns c = header_dominates
