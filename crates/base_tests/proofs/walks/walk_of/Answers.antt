-- The table is closed, as was tried.
use Rattle.std.proofs.Common.{rules}
use Rattle.base_tests.proofs.walks.walk_of.Goals as goal

pub find_walk-requires-clause-closed : goal.find_walk-requires-clause-closed
find_walk-requires-clause-closed c = c.is_closed.ensures.closed (search rules)
