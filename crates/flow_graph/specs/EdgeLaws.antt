-- Where edges lead, by the numbers of nodes.
--   edge_to        where a node leads, an edge leads
--   first_is_0     the first node has number 0
use Rattle.std.proofs.Common.{◌≡◌, ◌≢◌, ◌≤◌, ℕ, zero, suc, Some, List, [], ◌∷◌, reverse, slice_get, get_or, Contains, refl, subst, arith}
use Rattle.std.specs.declared.cmp.Ordering.TheVariants.{Less}
use Rattle.std.specs.Cmp.Lexicographic.{slice_cmp}
use Rattle.std.specs.Ordering.{nat_cmp, ordering_then}
use Rattle.std.proofs.lemmas.Bool.Decides.{nat_tests}
use Rattle.std.proofs.lemmas.List.Elements.{All-contains}
use Rattle.lists.specs.MemberLaws.{contained, placed}
use Rattle.alf_check.specs.CheckedPrograms.{NumberedProgram}
use Rattle.flow_graph.specs.Nodes.{Node, Leads, IsKeptNode, first, goes_on, first_node}
use Rattle.flow_graph.specs.Numbering.{block_rank, node_cmp, GraphParts, IsGraph}
use Rattle.flow_graph.specs.Edges.{IsEdgeUpTo, HasEdge}

-- ---- the first edges from nodes, as they are found from the last edge on

-- for each node from which an edge from this number on leads, the number of the first of these
abbrev pub AreFirstFrom : GraphParts → List ℕ → ℕ → Type 0
AreFirstFrom graph firsts least = (e u v : ℕ) → least ≤ e → slice_get graph.edges e ≡ Some (u, v) → (first : ℕ) × (slice_get firsts u ≡ Some first) × IsEdgeUpTo graph.edges u e first

-- ---- edges of a graph

module _ (program : NumberedProgram) (graph : GraphParts) (is : IsGraph program graph) where
  -- where a node leads, an edge leads
  pub edge_to : (n : ℕ) (node next : Node) → slice_get graph.nodes n ≡ Some node → Leads program node (Some next)
      → HasEdge graph n next
  edge_to n node next at leads =
      let kept : IsKeptNode program node = All-contains (IsKeptNode program) graph.nodes node is.numbered.kept (contained graph.nodes n node at) in
      let among = is.numbered.all next (goes_on node next kept leads) in
      let to_at = placed graph.nodes next among in
      let edge = is.listed.all n among.0 (record { node = node; goal = Some next; from = at; leads = leads; to = to_at }) in
      record { number = edge.0; to = among.0; edge = placed graph.edges (n, among.0) edge; is = to_at }

  -- ---- the first node

  -- no node is before it
  none_before : (n : Node) → node_cmp n first_node ≡ Less → ⊥
  none_before n less = by_paths (reverse n.path) less where
    no_rank : (k : ℕ) → nat_cmp k 0 ≢ Less
    no_rank k e = grind (arith, nat_tests)

    by_paths : (path : List ℕ) → ordering_then (slice_cmp nat_cmp path []) (nat_cmp (block_rank n.block) 0) ≡ Less → ⊥
    by_paths [] e = no_rank (block_rank n.block) e
    by_paths (x ∷ xs) e = absurd (cc)

  -- it has number 0
  pub first_is_0 : slice_get graph.nodes 0 ≡ Some first_node
  first_is_0 = by_place among.0 refl where
    among : Contains graph.nodes first_node
    among = is.numbered.all first_node first

    at : slice_get graph.nodes among.0 ≡ Some first_node
    at = placed graph.nodes first_node among

    by_place : (k : ℕ) → among.0 ≡ k → slice_get graph.nodes 0 ≡ Some first_node
    by_place zero e = subst (λ (k : ℕ). slice_get graph.nodes k ≡ Some first_node) e at
    by_place (suc k) e =
        let low = among.1 in
        let before = is.numbered.ascends 0 among.0 first_node (omega arith) low in
        absurd (none_before (get_or graph.nodes 0 first_node) (subst (λ (n : Node). node_cmp (get_or graph.nodes 0 first_node) n ≡ Less) among.2 before))
