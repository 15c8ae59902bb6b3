-- The table is closed, as was tried.
use Rattle.std.proofs.Common.{rules}
use Rattle.base_tests.proofs.walks.mark.Goals as goal

pub mark_reached-requires-clause-closed : goal.mark_reached-requires-clause-closed
mark_reached-requires-clause-closed c = c.is_closed.ensures.closed (search rules)
