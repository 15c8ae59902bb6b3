-- What the graph of a program keeps.
--   leads_link     an edge is a link
--   leads_ends     only a return of the root leads to the end
--   expanded       what the graph of a program keeps
use Rattle.std.proofs.Common.{◌≡◌, ◌≢◌, ◌<◌, ◌≤◌, ℕ, List, [], ◌∷◌, length, reverse, Option, Some, None, slice_get, get_or, AllPairs, inl, inr, refl, ap, sym, ◌∙◌, subst, arith}
use Rattle.std.specs.declared.cmp.Ordering.TheVariants.{Less}
use Rattle.std.specs.Ordering.{nat_cmp, ordering_then}
use Rattle.std.specs.Option.{option_map}
use Rattle.std.specs.Cmp.Lexicographic.{slice_cmp}
use Rattle.std.proofs.lemmas.Cmp.{ranked, by_ranked}
use Rattle.std.proofs.lemmas.Bool.{cases_lt}
use Rattle.std.proofs.lemmas.List.Elements.{All-contains}
use Rattle.std.proofs.lemmas.Option.{same_Some, slice_get-get_or, slice_get_within, get_or_from_slice_get, slice_get-map}
use Rattle.lists.specs.MemberLaws.{placed}
use Rattle.graph_walks.specs.Walks.{Reaches, stays, goes_on}
use Rattle.alf_check.specs.CheckedPrograms.{NumberedProgram, BlockEnding, Fall, Jump, Switch, Call, Return}
use Rattle.alf_check.specs.Kept.{IsKept}
use Rattle.flow_graph.specs.Nodes.{Node, Goal, IsKeptNode, first, entry_node, block_node, first_node, ending_at, function_at, Leads, PlaceLeads, EndLeads, ReturnLeads, BackLeads}
use Rattle.flow_graph.specs.Nodes as nodes
use Rattle.flow_graph.specs.Numbering.{GraphParts, IsBefore, IsEdgeBefore, IsGraph, IsNumberOf, IsStep, block_rank}
use Rattle.flow_graph.specs.PathLaws.{kept_is_placed}
use Rattle.flow_graph.specs.Expansions.{node_number, HasEdge, IsLink, inside, calls, goes_back, IsLastReturn, HasPlace, IsExpansion}
use Rattle.flow_graph.proofs.Order.{not_before_itself}
use Rattle.flow_graph.proofs.OneGraph.{edge_itself}
use Rattle.flow_graph.proofs.PathFunctions.{functions_differ, is_short}

-- ---- where nodes lead

-- a block of the same path
within_path : (from next : Node) (path : List ℕ) (b : ℕ) → from.path ≡ path → next ≡ block_node path b
    → IsLink from next
within_path from next path b same is = subst (λ (n : Node). IsLink from n) (sym is) (inside same (λ none. absurd (cc)))

back_link : (from next : Node) (b : ℕ) (path : List ℕ) (ending : Option BlockEnding) → from.path ≡ b ∷ path
    → BackLeads path ending (Some next) → IsLink from next
back_link from next b path None same h = absurd h
back_link from next b path (Some (Fall after)) same h = absurd h
back_link from next b path (Some (Jump to)) same h = absurd h
back_link from next b path (Some (Switch value targets others)) same h = absurd h
back_link from next b path (Some (Call f args result after)) same h =
    subst (λ (n : Node). IsLink from n) (sym (same_Some next (block_node path after) h)) (goes_back b same (λ none. absurd (cc)))
back_link from next b path (Some (Return value)) same h = absurd h

return_link : (program : NumberedProgram) (from next : Node) (path : List ℕ) → from.path ≡ path
    → ReturnLeads program path (Some next) → IsLink from next
return_link program from next [] same h = absurd (cc)
return_link program from next (b ∷ path) same h = back_link from next b path (ending_at program (function_at program path) b) same h

end_link : (program : NumberedProgram) (from next : Node) (path : List ℕ) (b : ℕ) (ending : Option BlockEnding)
    → from.path ≡ path → from.block ≡ Some b → EndLeads program path b ending (Some next) → IsLink from next
end_link program from next path b None same block h = absurd h
end_link program from next path b (Some (Fall after)) same block h = within_path from next path after same (same_Some next (block_node path after) h)
end_link program from next path b (Some (Jump to)) same block h = within_path from next path to same (same_Some next (block_node path to) h)
end_link program from next path b (Some (Switch value targets others)) same block h = within_path from next path h.0 same (same_Some next (block_node path h.0) h.2)
end_link program from next path b (Some (Call f args result after)) same block h =
    subst (λ (n : Node). IsLink from n) (sym (same_Some next (entry_node (b ∷ path)) h)) (calls b block (ap (λ (p : List ℕ). b ∷ p) (sym same)) refl)
end_link program from next path b (Some (Return value)) same block h = return_link program from next path same h

place_link : (program : NumberedProgram) (from next : Node) (block : Option ℕ) → from.block ≡ block
    → PlaceLeads program from.path block (Some next) → IsLink from next
place_link program from next None is h = within_path from next from.path 0 refl (same_Some next (block_node from.path 0) h)
place_link program from next (Some b) is h = end_link program from next from.path b (ending_at program (function_at program from.path) b) refl is h

-- an edge is a link
leads_link : (program : NumberedProgram) (from next : Node) → Leads program from (Some next) → IsLink from next
leads_link program from next h = place_link program from next from.block refl h

back_ends : (path : List ℕ) (ending : Option BlockEnding) → BackLeads path ending None → ⊥
back_ends path None h = h
back_ends path (Some (Fall after)) h = h
back_ends path (Some (Jump to)) h = h
back_ends path (Some (Switch value targets others)) h = h
back_ends path (Some (Call f args result after)) h = absurd (cc)
back_ends path (Some (Return value)) h = h

return_ends : (program : NumberedProgram) (path : List ℕ) → ReturnLeads program path None → path ≡ []
return_ends program [] h = refl
return_ends program (b ∷ path) h = absurd (back_ends path (ending_at program (function_at program path) b) h)

end_ends : (program : NumberedProgram) (from : Node) (b : ℕ) (ending : Option BlockEnding)
    → ending_at program (function_at program from.path) b ≡ ending → from.block ≡ Some b
    → EndLeads program from.path b ending None → IsLastReturn program from
end_ends program from b None at block h = absurd h
end_ends program from b (Some (Fall after)) at block h = absurd (cc)
end_ends program from b (Some (Jump to)) at block h = absurd (cc)
end_ends program from b (Some (Switch value targets others)) at block h = let e = h.2 in absurd (cc)
end_ends program from b (Some (Call f args result after)) at block h = absurd (cc)
end_ends program from b (Some (Return value)) at block h =
    let root : from.path ≡ [] = return_ends program from.path h in
    record { block = b; value = value; of_root = root; of_block = block; returns_it = sym (ap (λ (p : List ℕ). ending_at program (function_at program p) b) root) ∙ at }

place_ends : (program : NumberedProgram) (from : Node) (block : Option ℕ) → from.block ≡ block
    → PlaceLeads program from.path block None → IsLastReturn program from
place_ends program from None is h = absurd (cc)
place_ends program from (Some b) is h = end_ends program from b (ending_at program (function_at program from.path) b) refl is h

-- only a return of the root leads to the end
leads_ends : (program : NumberedProgram) (from : Node) → Leads program from None → IsLastReturn program from
leads_ends program from h = place_ends program from from.block refl h

-- ---- numbers

-- no node comes before the first one
nothing_before : (node : Node) → IsBefore node first_node → ⊥
nothing_before node h = by_path (reverse node.path) h where
  by_path : (path : List ℕ) → ordering_then (slice_cmp nat_cmp path []) (nat_cmp (block_rank node.block) 0) ≡ Less → ⊥
  by_path [] e =
      let r = block_rank node.block in
      by_ranked (r < 0) (r ≡ 0) (0 < r) (nat_cmp r 0) (ranked r 0 (nat_cmp r 0) refl) (λ l low. absurd (omega arith)) (λ q same. absurd (cc)) (λ g high. absurd (cc))
  by_path (b ∷ path) e = absurd (cc)

module _ (program : NumberedProgram) (keeps : IsKept program) (graph : GraphParts) (is : IsGraph program graph) where
  -- what stands at a number
  at_number : (n : ℕ) → n < length graph.nodes → slice_get graph.nodes n ≡ Some (node_number graph n)
  at_number n low = slice_get-get_or graph.nodes n first_node low

  number_of : (n : ℕ) (node : Node) → slice_get graph.nodes n ≡ Some node → node_number graph n ≡ node
  number_of n node at = get_or_from_slice_get graph.nodes n node first_node at

  kept_number : (n : ℕ) → n < length graph.nodes → IsKeptNode program (node_number graph n)
  kept_number n low = is.numbered.kept n first_node low

  -- no two numbers stand for one node
  apart : (m n : ℕ) → m < length graph.nodes → n < length graph.nodes → node_number graph m ≡ node_number graph n
      → m ≡ n
  apart m n m_low n_low e = elim (cases_lt m n) [
    | inl before ↦ absurd (not_before_itself (node_number graph n) (subst (λ (x : Node). IsBefore x (node_number graph n)) e (is.numbered.ascends m n first_node before n_low)))
    | inr high ↦ elim (cases_lt n m) [
      | inl after ↦ absurd (not_before_itself (node_number graph m) (subst (λ (x : Node). IsBefore x (node_number graph m)) (sym e) (is.numbered.ascends n m first_node after m_low)))
      | inr same ↦ omega arith
    ]
  ]

  -- node 0 is the first
  zero_first : (0 < length graph.nodes) × (node_number graph 0 ≡ first_node)
  zero_first =
      let there = is.numbered.all first_node first in
      let at : node_number graph there.0 ≡ first_node = number_of there.0 first_node (placed graph.nodes first_node there) in
      let low = there.1 in
      elim (cases_lt 0 there.0) [
        | inl later ↦ absurd (nothing_before (node_number graph 0) (subst (λ (x : Node). IsBefore (node_number graph 0) x) at (is.numbered.ascends 0 there.0 first_node later there.1)))
        | inr here ↦ let e : there.0 ≡ 0 = omega arith in (omega arith, ap (λ (n : ℕ). node_number graph n) (sym e) ∙ at)
      ]

  -- an edge is a step
  step_of : (u v : ℕ) → HasEdge graph u v → IsStep program graph.nodes u v
  step_of u v edge = All-contains (λ (e : ℕ × ℕ). IsStep program graph.nodes e.0 e.1) graph.edges (u, v) is.listed.steps edge

  from_low : (u v : ℕ) → HasEdge graph u v → u < length graph.nodes
  from_low u v edge = let step = step_of u v edge in slice_get_within graph.nodes u step.node step.from

  to_within : (goal : Goal) (v : ℕ) → IsNumberOf graph.nodes goal v → v ≤ length graph.nodes
  to_within None v h = omega arith
  to_within (Some next) v h = let low = slice_get_within graph.nodes v next h in omega arith

  -- it leads to a node
  node_goal : (node : Node) (goal : Goal) (v : ℕ) → v < length graph.nodes → IsNumberOf graph.nodes goal v
      → Leads program node goal → Leads program node (Some (node_number graph v))
  node_goal node None v low h leads = absurd (omega arith)
  node_goal node (Some next) v low h leads = subst (λ (n : Node). Leads program node (Some n)) (sym (number_of v next h)) leads

  leads_on : (u v : ℕ) → HasEdge graph u v → v < length graph.nodes
      → Leads program (node_number graph u) (Some (node_number graph v))
  leads_on u v edge low =
      let step = step_of u v edge in
      subst (λ (n : Node). Leads program n (Some (node_number graph v))) (sym (number_of u step.node step.from)) (node_goal step.node step.goal v low step.to step.leads)

  -- or to the end
  end_goal : (node : Node) (goal : Goal) → IsNumberOf graph.nodes goal (length graph.nodes) → Leads program node goal
      → Leads program node None
  end_goal node None h leads = leads
  end_goal node (Some next) h leads = let low = slice_get_within graph.nodes (length graph.nodes) next h in absurd (omega arith)

  ends : (u : ℕ) → HasEdge graph u (length graph.nodes) → IsLastReturn program (node_number graph u)
  ends u edge =
      let step = step_of u (length graph.nodes) edge in
      subst (λ (n : Node). IsLastReturn program n) (sym (number_of u step.node step.from)) (leads_ends program step.node (end_goal step.node step.goal step.to step.leads))

  -- a step is an edge
  edge_of : (u v : ℕ) (goal : Goal) → u < length graph.nodes → Leads program (node_number graph u) goal
      → IsNumberOf graph.nodes goal v → HasEdge graph u v
  edge_of u v goal low leads to = is.listed.all u v (record { node = node_number graph u; goal = goal; from = at_number u low; leads = leads; to = to })

  all : (u : ℕ) (next : Node) → u < length graph.nodes → Leads program (node_number graph u) (Some next)
      → (v : ℕ) × (v < length graph.nodes) × (node_number graph v ≡ next) × HasEdge graph u v
  all u next low leads =
      let there = is.numbered.all next (nodes.goes_on (node_number graph u) next (kept_number u low) leads) in
      let at = placed graph.nodes next there in
      (there.0, there.1, number_of there.0 next at, edge_of u there.0 (Some next) low leads at)

  -- each node that is kept is reached
  kept_reached : (node : Node) → IsKeptNode program node → (n : ℕ) → n < length graph.nodes → node_number graph n ≡ node
      → Reaches (HasEdge graph) 0 n
  kept_reached _ first n low at =
      let zero : 0 ≡ n = apart 0 n zero_first.0 low (zero_first.1 ∙ sym at) in
      subst (λ (m : ℕ). Reaches (HasEdge graph) 0 m) zero (0 ∷ [], stays)
  kept_reached _ (nodes.goes_on node next kept leads) n low at =
      let there = is.numbered.all node kept in
      let stands = number_of there.0 node (placed graph.nodes node there) in
      let before = kept_reached node kept there.0 there.1 stands in
      let edge = edge_of there.0 n (Some next) there.1 (subst (λ (x : Node). Leads program x (Some next)) (sym stands) leads) (at_number n low ∙ ap Some at) in
      (_, goes_on before.1 edge)

  edges_differ : AllPairs (λ (e f : ℕ × ℕ). e ≢ f) graph.edges
  edges_differ i j d before low same =
      edge_itself (get_or graph.edges j d) (subst (λ (e : ℕ × ℕ). IsEdgeBefore e (get_or graph.edges j d)) same (is.listed.ascends i j d before low))

  func_of : (n : ℕ) → n < length graph.nodes
      → slice_get graph.funcs n ≡ Some (function_at program (node_number graph n).path)
  func_of n low =
      ap (λ (fs : List ℕ). slice_get fs n) is.funcs ∙ slice_get-map (λ (node : Node). function_at program node.path) graph.nodes n
      ∙ ap (option_map (λ (node : Node). function_at program node.path)) (at_number n low)

  place_of : (n : ℕ) → n < length graph.nodes → HasPlace program (node_number graph n)
  place_of n low =
      let place = kept_is_placed program keeps (node_number graph n) (kept_number n low) in
      record { placed = place; functions_differ = functions_differ program keeps (node_number graph n).path place.path; short = is_short program keeps (node_number graph n).path place.path }

  -- what the graph of a program keeps
  pub expanded : IsExpansion program graph
  expanded = record {
    some = zero_first.0;
    first = zero_first.1;
    within = λ u v edge. (from_low u v edge, (let step = step_of u v edge in to_within step.goal v step.to));
    reached = λ n low. kept_reached (node_number graph n) (kept_number n low) n low refl;
    apart = apart;
    links = λ u v edge low. leads_link program (node_number graph u) (node_number graph v) (leads_on u v edge low);
    leads = leads_on;
    ends = ends;
    all = all;
    all_ends = λ u low leads. edge_of u (length graph.nodes) None low leads refl;
    edges_differ = edges_differ;
    places = place_of;
    funcs = func_of;
  }
