-- What the loop of `is_closed` keeps.
use Rattle.std.proofs.Common.{◌<◌, ℕ, [], All, length, get_or}
use Rattle.graph_walks.specs.Tables.{rows_of}
use Rattle.graph_walks.proofs.table.is_closed.Given as goal

abbrev pub invariant-loop-row : goal.invariant-loop-row
invariant-loop-row l = (u : ℕ) → u < l.row-index → All (λ n. n < length l.table) (get_or (rows_of l.table) u [])
