-- The table is closed, as was tried.
use Rattle.std.proofs.Common.{rules}
use Rattle.base_tests.proofs.walks.ranks_of.Goals as goal

pub call_ranks-requires-clause-within : goal.call_ranks-requires-clause-within
call_ranks-requires-clause-within c = c.is_closed.ensures.closed (search rules)
