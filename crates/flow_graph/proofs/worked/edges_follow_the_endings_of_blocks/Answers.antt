-- What is left to show of `edges_follow_the_endings_of_blocks`.
use Rattle.std.proofs.Common.{refl, inl, inr, arith}
use Rattle.flow_graph.proofs.worked.edges_follow_the_endings_of_blocks.Goals as goal

pub returns-clause-entry : goal.returns-clause-entry
returns-clause-entry c = refl

pub returns-clause-call : goal.returns-clause-call
returns-clause-call c = refl

pub returns-clause-back : goal.returns-clause-back
returns-clause-back c = refl

pub returns-clause-end : goal.returns-clause-end
returns-clause-end c = refl

pub returns-clause-target : goal.returns-clause-target
returns-clause-target c = (1, inr (0, omega arith, refl), refl)

pub returns-clause-otherwise : goal.returns-clause-otherwise
returns-clause-otherwise c = (2, inl refl, refl)
