-- On the way to the laws of call.
--   ranks_fall       ranks do not rise along calls
--   ranks_rule_out   so no function is on a cycle
use Rattle.std.proofs.Common.{◌≤◌, ℕ, List, get_or, arith}
use Rattle.graph_walks.specs.Walks.{Walk, stays, goes_on}
use Rattle.graph_walks.specs.Calls.{Calls, IsRanked, RanksRuleOutCycles}

-- ranks do not rise along calls
pub ranks_fall : (calls : List (List ℕ)) (ranks : List ℕ) → IsRanked calls ranks → (f g : ℕ) (path : List ℕ)
    → Walk (Calls calls) f g path → get_or ranks g 0 ≤ get_or ranks f 0
ranks_fall calls ranks r f g path stays = omega arith
ranks_fall calls ranks r f g path (goes_on {u = u} {v = v} {path = before} way call) =
    let low = ranks_fall calls ranks r f u before way in let lower = r.falls u v call in omega arith

-- so no function is on a cycle
pub ranks_rule_out : RanksRuleOutCycles
ranks_rule_out calls ranks r f way = let low = ranks_fall calls ranks r f way.last way.path way.walk in let lower = r.falls way.last f way.call in omega arith
