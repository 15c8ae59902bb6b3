-- What the loop of `is_ready` keeps.
use Rattle.std.proofs.Common.{◌<◌, ℕ, get_or}
use Rattle.scope_graph.proofs.ranks.is_ready.Given as goal

abbrev pub invariant-loop-before : goal.invariant-loop-before
invariant-loop-before l = (k : ℕ) → k < l.before-index → get_or l.ranks (get_or l.before-items k 0) 0 < l.rank
