-- Laws of bounds.
--   has_room        the nodes of a graph times so many turns
use Rattle.std.proofs.Common.{◌≤◌, ◌*◌, ◌^◌, ℕ, arith}
use Rattle.std.proofs.lemmas.Nat.{mul-le}
use Rattle.flow_graph.specs.Numbering.{most_nodes}
use Rattle.program_analysis.specs.Bounds.{most_turns}

-- the nodes of a graph times so many turns
pub has_room : (nodes steps turns : ℕ) → nodes ≤ most_nodes → steps ≤ turns → turns ≤ most_turns
    → nodes * steps ≤ 2 ^ 31
has_room nodes steps turns few low most =
    let product : nodes * steps ≤ most_nodes * most_turns = mul-le nodes steps most_nodes most_turns few (omega (arith, low, most)) in
    omega (arith, product)
