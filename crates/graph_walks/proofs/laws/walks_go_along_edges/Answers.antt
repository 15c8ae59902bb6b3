-- What is left to show of `walks_go_along_edges`.
use Rattle.std.proofs.Common.{refl, arith}
use Rattle.graph_walks.specs.Walks.{stays, goes_on}
use Rattle.graph_walks.proofs.laws.walks_go_along_edges.Goals as goal

pub returns-clause-stays : goal.returns-clause-stays
returns-clause-stays c = λ table a. stays

pub returns-clause-two : goal.returns-clause-two
returns-clause-two c = λ table a b d first second. goes_on (goes_on stays first) second

pub returns-clause-edge : goal.returns-clause-edge
returns-clause-edge c = (1, omega arith, refl)
