-- What is left to show of `nodes_are_named_by_their_calls`.
use Rattle.std.proofs.Common.{refl}
use Rattle.flow_graph.proofs.worked.nodes_are_named_by_their_calls.Goals as goal

pub returns-clause-root : goal.returns-clause-root
returns-clause-root c = refl

pub returns-clause-called : goal.returns-clause-called
unfolding Rattle.std.specs.Fmt.digits
returns-clause-called c = refl
