-- Laws of pricing.
--   priced_more   an outline is, and so is one with another cost at one node
--   cost_here, cost_elsewhere    what its nodes then cost
--   paid_more, paid_all   one more node does, and so do all
--   priced_count   as many nodes
use Rattle.std.specs.Prelude.{slice_index, slice_index_or}
use Rattle.std.specs.Option.{option_map}
use Rattle.std.proofs.Common.{◌≡◌, ◌≢◌, ◌<◌, ◌+◌, inl, inr, ℕ, zero, suc, List, [], ◌∷◌, map, length, Some, slice_get, refl, sym, ap, subst, ◌∙◌, arith}
use Rattle.std.proofs.lemmas.Bool.{cases_eq}
use Rattle.std.proofs.lemmas.List.{length-map, same_lists}
use Rattle.std.proofs.lemmas.Option.{slice_get-get_or, slice_get-map, get_or_from_slice_get}
use Rattle.graph_walks.specs.ListLaws.{same_default}
use Rattle.alf_check.specs.CheckedPrograms.{NumberedProgram}
use Rattle.flow_graph.specs.Nodes.{Node, first_node}
use Rattle.flow_graph.specs.Numbering.{GraphParts, IsGraph}
use Rattle.cost_table.specs.CostTables.{CostTable}
use Rattle.program_machines.specs.NodeCosts.{node_cost}
use Rattle.domain_core.specs.declared.outline.NodeRow.{NodeRow}
use Rattle.domain_core.specs.Outlines.{Outlined, with_cost}
use Rattle.program_analysis.specs.Pricing.{IsPricedAs, ArePaid}

-- what costs have no part in stays
stays : {X : Type 0} (part : NodeRow → X) → ((row : NodeRow) (cost : ℕ) → part (record row { cost = cost }) ≡ part row)
    → (nodes : List NodeRow) (n cost : ℕ) → map part (with_cost nodes n cost) ≡ map part nodes
stays part same [] n cost = refl
stays part same (row ∷ nodes) zero cost = ap (λ x. x ∷ map part nodes) (same row cost)
stays part same (row ∷ nodes) (suc n) cost = ap (λ xs. part row ∷ xs) (stays part same nodes n cost)

pub priced_more : (old now : Outlined) (n cost : ℕ) → IsPricedAs old now
    → IsPricedAs old (record now { nodes = with_cost now.nodes n cost })
priced_more old now n cost priced = record {
  edges = priced.edges;
  own = stays (λ row. row.scope) (λ row cost. refl) now.nodes n cost ∙ priced.own;
  ranks = stays (λ row. row.rank) (λ row cost. refl) now.nodes n cost ∙ priced.ranks;
  names = stays (λ row. row.name) (λ row cost. refl) now.nodes n cost ∙ priced.names;
  scopes = priced.scopes;
  notes = priced.notes;
}

-- as many nodes
pub priced_count : (old new : Outlined) → IsPricedAs old new → length new.nodes ≡ length old.nodes
priced_count old new priced =
    sym (length-map new.nodes (λ row. row.scope)) ∙ ap length priced.own ∙ length-map old.nodes (λ row. row.scope)

-- what the node costs, and each other
pub cost_here : (nodes : List NodeRow) (n cost : ℕ) → n < length nodes
    → slice_index (map (λ row. row.cost) (with_cost nodes n cost)) n ≡ cost
cost_here [] n cost low = absurd (omega (arith, low))
cost_here (row ∷ nodes) zero cost low = refl
cost_here (row ∷ nodes) (suc n) cost low = cost_here nodes n cost (omega (arith, low))

pub cost_elsewhere : (nodes : List NodeRow) (n k cost : ℕ) → k ≢ n
    → slice_index (map (λ row. row.cost) (with_cost nodes n cost)) k ≡ slice_index (map (λ row. row.cost) nodes) k
cost_elsewhere [] n k cost other = refl
cost_elsewhere (row ∷ nodes) zero zero cost other = absurd (other refl)
cost_elsewhere (row ∷ nodes) zero (suc k) cost other = refl
cost_elsewhere (row ∷ nodes) (suc n) zero cost other = refl
cost_elsewhere (row ∷ nodes) (suc n) (suc k) cost other = cost_elsewhere nodes n k cost (λ e. other (ap suc e))

-- ---- nodes that have their costs

-- one more node does
pub paid_more : (graph : GraphParts) (costs : CostTable) (k cost : ℕ) (nodes : List NodeRow)
    → ArePaid graph costs k nodes → k < length nodes
    → ((program : NumberedProgram) (node : Node) → IsGraph program graph → slice_get graph.nodes k ≡ Some node → cost ≡ node_cost program costs node)
    → ArePaid graph costs (k + 1) (with_cost nodes k cost)
paid_more graph costs k cost nodes paid low costs_so program node n is less at = elim (cases_eq n k) [
  | inl same ↦
      ap (slice_index (map (λ row. row.cost) (with_cost nodes k cost))) same ∙ cost_here nodes k cost low
      ∙ costs_so program node is (subst (λ (m : ℕ). slice_get graph.nodes m ≡ Some node) same at)
  | inr other ↦ cost_elsewhere nodes k n cost other ∙ paid program node n is (omega (arith, less, other)) at
]

-- and so do all
pub paid_all : (program : NumberedProgram) (graph : GraphParts) (costs : CostTable) (nodes : List NodeRow)
    → IsGraph program graph → length nodes ≡ length graph.nodes → ArePaid graph costs (length graph.nodes) nodes
    → map (λ row. row.cost) nodes ≡ map (node_cost program costs) graph.nodes
paid_all program graph costs nodes is long paid =
    let mine : List ℕ = map (λ row. row.cost) nodes in
    let its : List ℕ = map (node_cost program costs) graph.nodes in
    let mine_long : length mine ≡ length nodes = length-map nodes (λ row. row.cost) in
    let its_long : length its ≡ length graph.nodes = length-map graph.nodes (node_cost program costs) in
    same_lists mine its (mine_long ∙ long ∙ sym its_long) (λ n d low.
    let there : n < length graph.nodes = omega (arith, low, mine_long, long) in
    let node : Node = slice_index_or graph.nodes n first_node in
    let at : slice_get graph.nodes n ≡ Some node = slice_get-get_or graph.nodes n first_node there in
    let its_cost : slice_get its n ≡ Some (node_cost program costs node) = slice_get-map (node_cost program costs) graph.nodes n ∙ ap (option_map (node_cost program costs)) at in
    same_default mine n d 0 low ∙ paid program node n is there at ∙ sym (get_or_from_slice_get its n (node_cost program costs node) d its_cost))
