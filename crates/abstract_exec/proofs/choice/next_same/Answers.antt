-- What is left to show of `next_same`.
use Rattle.abstract_exec.proofs.Choosing.{next_found, next_missing}
use Rattle.abstract_exec.proofs.choice.next_same.Goals as goal

pub returns-then-is_same_position-clause-next : goal.returns-then-is_same_position-clause-next
returns-then-is_same_position-clause-next g c =
    next_found c.args.places.now _ c.args.first c.in_ok-farther.farther c.is_same_position.result c.in_ok-farther.ensures.same c.requires c.in_ok-farther.ensures.least c.is_same_position.ensures c.if-is_same_position.true

pub returns-else-is_same_position-clause-none : goal.returns-else-is_same_position-clause-none
returns-else-is_same_position-clause-none g c = λ is.
    next_missing c.args.places.now _ c.args.first c.in_ok-farther.farther c.is_same_position.result c.in_ok-farther.ensures.same c.requires c.in_ok-farther.ensures.least c.is_same_position.ensures c.if-is_same_position.false
