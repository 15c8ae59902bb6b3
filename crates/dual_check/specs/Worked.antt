-- The rows of a loop by their kinds, to be worked out.
--   facts_of_loop   a loop of ten turns whose body is dead, with the totals of its other nodes
--   LoopByKinds     its constraints, in the order of the rows
--   LoopOpens       its openings: for each node the first row that limits it, and its first column
use Rattle.std.specs.Prelude.{◌≡◌, ℕ, List, [], ◌∷◌}
use Rattle.flow_facts.specs.declared.fact.Fact.{Fact}
use Rattle.flow_facts.specs.declared.fact.Fact.TheVariants.{Loop, Count, Dead, Total, Pair}
use Rattle.ipet_rows.specs.Columns.{columns_of}
use Rattle.ipet_rows.specs.Worked.{one_loop}
use Rattle.dual_check.specs.declared.constraint.Constraint.TheVariants.{Flow, Most, Least, Limit, Demand, Apart}
use Rattle.dual_check.specs.Constraints.{constraints_of}
use Rattle.dual_check.specs.Openings.{openings_of}

abbrev pub facts_of_loop : List Fact
facts_of_loop = Loop 1 1 11 ∷ Count 1 3 0 10 ∷ Dead 3 ∷ Total 0 1 1 ∷ Total 2 1 11 ∷ Total 4 1 1 ∷ Pair 1 2 3 ∷ []

-- five flows, the two rows of the loop, the dead node, the totals, the pair, and the two rows of the count
abbrev pub LoopByKinds : Type 0
LoopByKinds = constraints_of one_loop facts_of_loop
    ≡ Flow 0 ∷ Flow 1 ∷ Flow 2 ∷ Flow 3 ∷ Flow 4
    ∷ Most 1 2 2 11 ∷ Least 1 2 2 1
    ∷ Limit 3 0
    ∷ Limit 0 1 ∷ Demand 0 1 ∷ Limit 2 11 ∷ Demand 2 1 ∷ Limit 4 1 ∷ Demand 4 1
    ∷ Apart 2 2 3
    ∷ Most 1 2 3 10 ∷ Least 1 2 3 0
    ∷ []

-- node 1 has no row that limits it
abbrev pub LoopOpens : Type 0
LoopOpens = openings_of (columns_of one_loop facts_of_loop) (constraints_of one_loop facts_of_loop) 5 ≡ (8, 0) ∷ (10, 2) ∷ (7, 4) ∷ (12, 5) ∷ []
