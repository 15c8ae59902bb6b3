-- What the calls that make an outline promise, put in the words of the whole graph.
--   plan_is       the graph of a program is one that has an outline
--   within_is     each of its edges leads from a node to a node or the end
--   there_of, all_of   the table of predecessors has its edges
--   made_is, made_kept, made_fresh   the parts make the outline
use Rattle.std.proofs.Common.{◌≡◌, ◌≢◌, ◌<◌, ◌≤◌, ◌-◌, ◌^◌, ℕ, suc, Bool, List, [], ◌∷◌, AllPairs, inl, inr, get_or, map, length, Option, refl, ap, sym, ◌∙◌, subst, arith}
use Rattle.std.proofs.lemmas.List.{length-map, take_all}
use Rattle.domain_core.specs.declared.outline.NodeRow.{NodeRow}
use Rattle.domain_core.specs.declared.outline.ScopeRow.{ScopeRow}
use Rattle.domain_core.specs.Reducible.{IsEdge, IsRanking}
use Rattle.domain_core.specs.Scopes.{Place, leads, path_at, block_at, IsPlan, IsStep, inside, calls, returns_from}
use Rattle.domain_core.specs.Outlines.{Outlined, IsOutline, shape_of}
use Rattle.domain_core.specs.OutlineOf.{IsOutlineOf}
use Rattle.domain_core.specs.OutlineMadeLaws.{outline_kept}
use Rattle.graph_walks.specs.Walks.{Walk}
use Rattle.graph_walks.specs.Tables.{HasEdge}
use Rattle.flow_graph.specs.Nodes.{Node}
use Rattle.flow_graph.specs.Numbering.{GraphParts, IsEdgeBefore}
use Rattle.flow_graph.specs.Graphs.{HasProgram}
use Rattle.flow_graph.specs.Expansions.{IsExpansion, IsLink, node_number}
use Rattle.flow_graph.specs.Expansions as expansions
use Rattle.scope_graph.specs.Tables.{IsTable}
use Rattle.scope_graph.specs.Placing.{plan_of}
use Rattle.scope_graph.specs.Descending.{IsBackList}
use Rattle.scope_graph.specs.Ranking.{IsWithin}
use Rattle.scope_graph.specs.Found.{IsFound}
use Rattle.scope_graph.specs.Assembled.{flip, IsFresh, IsOwned, IsParented}
use Rattle.scope_graph.proofs.Flipped.{flip_edge, edge_flip}
use Rattle.scope_graph.proofs.Placed.{as_many, place_at}
use Rattle.scope_graph.specs.Inner.{IsGrid, IsHeld}
use Rattle.scope_graph.proofs.Assembling.{whole, few_found, found_grid, some_holds, back_or_not}

-- numbers
pub lower : (a b c : ℕ) → a ≤ b → b < c → a < c
lower a b c low less = omega arith

pub one_more : (nodes count rows long : ℕ) → count ≡ nodes → rows ≡ suc count → rows ≡ long → nodes < long
one_more nodes count rows long a b d = omega arith

abbrev node_with : List ℕ → Option ℕ → Node
node_with path block = record { path = path; block = block }

-- nodes of one path and one block are one
same_node : (m n : Node) → m.path ≡ n.path → m.block ≡ n.block → m ≡ n
same_node m n paths blocks = ap (λ (path : List ℕ). node_with path m.block) paths ∙ ap (λ (block : Option ℕ). node_with n.path block) blocks

module _ (graph : GraphParts) where
  path_is : (n : ℕ) → path_at (plan_of graph) n ≡ (node_number graph n).path
  path_is n = ap (λ (place : Place). place.path) (place_at graph n)

  block_is : (n : ℕ) → block_at (plan_of graph) n ≡ (node_number graph n).block
  block_is n = ap (λ (place : Place). place.block) (place_at graph n)

  step_is : (u v : ℕ) → IsLink (node_number graph u) (node_number graph v) → IsStep (plan_of graph) u v
  step_is u v (expansions.inside same some) = inside (path_is u ∙ same ∙ sym (path_is v)) (λ none. some (sym (block_is v) ∙ none))
  step_is u v (expansions.calls b block path entry) = calls b (block_is u ∙ block) (path_is v ∙ path ∙ ap (λ (p : List ℕ). b ∷ p) (sym (path_is u))) (block_is v ∙ entry)
  step_is u v (expansions.goes_back b path some) = returns_from b (path_is u ∙ path ∙ ap (λ (p : List ℕ). b ∷ p) (sym (path_is v))) (λ none. some (sym (block_is v) ∙ none))

  node_low : (n : ℕ) → n < length (plan_of graph).places → n < length graph.nodes
  node_low n low = let same = as_many graph in omega arith

  -- each of its edges leads from a node to a node or the end
  pub within_is : IsPlan (plan_of graph) → IsWithin graph.edges (length graph.nodes)
  within_is plan u v edge = let same = as_many graph in let low = plan.within u v edge in (let a = low.0 in omega arith, let b = low.1 in omega arith)

  -- the table of predecessors has its edges
  pub there_of : (edges : List (ℕ × ℕ)) (table : List (List ℕ)) (count : ℕ) → edges ≡ graph.edges
      → IsTable (map flip edges) count table → (u v : ℕ) → HasEdge table u v → leads (plan_of graph) v u
  there_of edges table count e t u v there = flip_edge graph.edges u v (subst (λ (es : List (ℕ × ℕ)). IsEdge (map flip es) u v) e (t.there u v there))

  pub all_of : (edges : List (ℕ × ℕ)) (table : List (List ℕ)) (count : ℕ) → edges ≡ graph.edges
      → IsTable (map flip edges) count table → (u v : ℕ) → leads (plan_of graph) u v → HasEdge table v u
  all_of edges table count e t u v edge = t.all v u (subst (λ (es : List (ℕ × ℕ)). IsEdge (map flip es) v u) (sym e) (edge_flip graph.edges u v edge))

  -- ranks of the code's edges are those of the graph
  pub ranked_of : (edges : List (ℕ × ℕ)) (ranks : List ℕ) → edges ≡ graph.edges
      → IsRanking (IsEdge edges) (length graph.nodes) ranks
      → IsRanking (leads (plan_of graph)) (length (plan_of graph).places) ranks
  ranked_of edges ranks e r =
      subst (λ (n : ℕ). IsRanking (IsEdge graph.edges) n ranks) (sym (as_many graph)) (subst (λ (es : List (ℕ × ℕ)). IsRanking (IsEdge es) (length graph.nodes) ranks) e r)

  module _ (kept : HasProgram graph) where
    -- there are few nodes and edges
    pub few_nodes : length graph.nodes < 2 ^ 32 - 1
    few_nodes = let few = kept.is.few_nodes in omega arith

    pub few_edges : length graph.edges < 2 ^ 32 - 1
    few_edges = let few = kept.is.few_edges in omega arith

    -- and no edge twice
    pub edges_once : AllPairs (λ (e f : ℕ × ℕ). e ≢ f) graph.edges
    edges_once i j d before low same =
        let first = kept.is.listed.ascends i j d before low in
        no_edge_before_itself (get_or graph.edges j d) (subst (λ (e : ℕ × ℕ). IsEdgeBefore e (get_or graph.edges j d)) same first)
      where
        no_edge_before_itself : (e : ℕ × ℕ) → IsEdgeBefore e e → ⊥
        no_edge_before_itself e (inl less) = omega arith
        no_edge_before_itself e (inr same) = let less = same.1 in omega arith

    -- as many names as nodes
    pub names_long : length graph.names ≡ length graph.nodes
    names_long = ap (λ (names : List (List ℕ)). length names) kept.is.names ∙ length-map graph.nodes _

    module _ (expansion : IsExpansion kept.program graph) where
      -- the graph of a program is one that has an outline
      pub plan_is : IsPlan (plan_of graph)
      plan_is = record {
        some = (let same = as_many graph in let some = expansion.some in omega arith);
        first_path = path_is 0 ∙ ap (λ (node : Node). node.path) expansion.first;
        first_block = block_is 0 ∙ ap (λ (node : Node). node.block) expansion.first;
        within = λ u v edge. let same = as_many graph in let low = expansion.within u v edge in (let a = low.0 in omega arith, let b = low.1 in omega arith);
        reached = λ n low. expansion.reached n (node_low n low);
        apart = λ m n m_low n_low paths blocks.
            let same_path = sym (path_is m) ∙ paths ∙ path_is n in
            let same_block = sym (block_is m) ∙ blocks ∙ block_is n in
            expansion.apart m n (node_low m m_low) (node_low n n_low) (same_node (node_number graph m) (node_number graph n) same_path same_block);
        steps = λ u v edge low. step_is u v (expansion.links u v edge (node_low v low));
      }

      -- each of its nodes is reached
      pub reached_is : (n : ℕ) → n < length graph.nodes → (path : List ℕ) × Walk (IsEdge graph.edges) 0 n path
      reached_is n low = expansion.reached n low

  -- What the calls of `assembled` promise: the ranks, the table of predecessors, and the scopes that are found.
  module _ (plan : IsPlan (plan_of graph)) (back edges : List (ℕ × ℕ)) (same : edges ≡ graph.edges) (noted : IsBackList (IsEdge graph.edges) back) (ranks : List ℕ) (table : List (List ℕ)) (rows : List ScopeRow) (holds : List (List Bool))
      (ranked : IsRanking (IsEdge edges) (length graph.nodes) ranks) (tabled : IsTable (map flip edges) (length graph.nodes) table) (found : IsFound table back (plan_of graph) (length graph.nodes) rows holds)
    where
      its_ranks : IsRanking (leads (plan_of graph)) (length (plan_of graph).places) ranks
      its_ranks = ranked_of edges ranks same ranked

      there : (u v : ℕ) → HasEdge table u v → leads (plan_of graph) v u
      there = there_of edges table (length graph.nodes) same tabled

      all : (u v : ℕ) → leads (plan_of graph) u v → HasEdge table v u
      all = all_of edges table (length graph.nodes) same tabled

      its_scopes : IsFound table back (plan_of graph) (length (plan_of graph).places) rows holds
      its_scopes = subst (λ (n : ℕ). IsFound table back (plan_of graph) n rows holds) (sym (as_many graph)) found

      -- as many ranks as nodes
      pub ranks_long : length ranks ≡ length graph.nodes
      ranks_long = ranked.one_each

      -- no more scopes than nodes
      pub few_rows : length rows ≤ length graph.nodes
      few_rows = let few = few_found (plan_of graph) plan table back noted there all rows holds ranks its_scopes its_ranks in let many = as_many graph in omega arith

      -- the code's grid
      pub grid_is : IsGrid rows holds (length ranks)
      grid_is = found_grid (plan_of graph) plan table back noted there all rows holds ranks its_scopes its_ranks its_ranks.one_each

      -- some scope holds each node
      pub some_scope : (n : ℕ) → n < length ranks → (s : ℕ) × (s < length rows) × IsHeld holds s n
      some_scope n low = some_holds (plan_of graph) plan table back noted there all rows holds ranks its_scopes its_ranks n (let e = its_ranks.one_each in omega arith)

      module _ (names : List (List ℕ)) (scopes : List ScopeRow) (nodes : List NodeRow) (parented : IsParented (length rows) rows holds ranks scopes) (owned : IsOwned (length graph.nodes) names rows holds ranks nodes) where
        abbrev made : List (ℕ × ℕ) → Outlined
        made es = record { edges = es; nodes = nodes; scopes = scopes; notes = [] }

        its_rows : IsOwned (length (plan_of graph).places) names rows holds ranks nodes
        its_rows = subst (λ (n : ℕ). IsOwned n names rows holds ranks nodes) (sym (as_many graph)) owned

        -- the parts make the outline
        pub made_is : IsOutlineOf (plan_of graph) (shape_of (made edges))
        made_is =
            subst (λ (es : List (ℕ × ℕ)). IsOutlineOf (plan_of graph) (shape_of (made es))) (sym same)
            (whole (plan_of graph) plan table back noted there all names rows scopes holds ranks nodes its_scopes its_ranks parented its_rows)

        -- which keeps what every outline keeps
        pub made_kept : HasProgram graph → IsOutline (shape_of (made edges))
        made_kept kept =
            outline_kept (plan_of graph) plan (shape_of (made edges)) made_is (back_or_not (leads (plan_of graph)) back noted)
            (let few = few_nodes kept in let long = length-map nodes (λ (row : NodeRow). row.scope) in let many = owned.long in omega arith)
            (let few = few_edges kept in let long = ap (λ (es : List (ℕ × ℕ)). length es) same in omega arith)
            (let few = few_nodes kept in let rows_few = few_rows in let long = parented.long in omega arith)
            (subst (λ (es : List (ℕ × ℕ)). AllPairs (λ (e f : ℕ × ℕ). e ≢ f) es) (sym same) (edges_once kept))

        -- with the names of the graph and no costs
        pub made_fresh : length names ≡ length graph.nodes → IsFresh names (made edges)
        made_fresh many = record { named = owned.named ∙ take_all (length graph.nodes) names (omega arith); free = owned.free; no_notes = refl }
