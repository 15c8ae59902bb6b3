use Rattle.std.proofs.Common.{◌≡◌, ◌<◌, ℕ, length, get_or}
use Rattle.graph_walks.specs.Calls.{calls_of}
use Rattle.graph_walks.specs.Findings.{IsRankOf}
use Rattle.graph_walks.proofs.ranks.call_ranks.Given as goal

abbrev pub invariant-loop-function : goal.invariant-loop-function
invariant-loop-function l = record {
  one_each : length l.ranks.items ≡ l.function;
  ranked : (f : ℕ) → f < l.function → IsRankOf (calls_of l.calls) f (get_or l.ranks.items f 0);
}
