-- On the way to the laws of marked node.
--   marked_some   where one is marked, the count is not 0
use Rattle.std.proofs.Common.{◌≡◌, ◌<◌, ℕ, zero, suc, Bool, true, false, List, [], ◌∷◌, arith}
use Rattle.graph_walks.specs.Walks.{Walk}
use Rattle.graph_walks.specs.MarkedNodes.{IsMarked, marked_count}
use Rattle.graph_walks.specs.MarkedNodeLaws.{counted, uncounted}

-- where one is marked, the count is not 0
pub marked_some : (marks : List Bool) (n : ℕ) → IsMarked marks n → 0 < marked_count marks
marked_some [] n is = absurd (let e : false ≡ true = is in cc)
marked_some (true ∷ marks) n is = omega (arith, counted marks)
marked_some (false ∷ marks) zero is = absurd (let e : false ≡ true = is in cc)
marked_some (false ∷ marks) (suc n) is = let some = marked_some marks n is in omega (arith, uncounted marks)
