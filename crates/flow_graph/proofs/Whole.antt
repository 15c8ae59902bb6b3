-- The parts of a graph together.
--   map_nodes     images of nodes are images of places
--   kept_at, path_at   the node of a place is kept, and its path is a call path
--   whole_graph   the parts of a graph are those of the program's
use Rattle.std.proofs.Common.{◌≡◌, ◌∙◌, ◌<◌, ◌≤◌, ℕ, List, [], ◌∷◌, map, reverse, length, get_or, All, refl, ap, sym, subst, arith}
use Rattle.alf_check.specs.CheckedPrograms.{NumberedProgram}
use Rattle.alf_check.specs.Kept.{IsKept}
use Rattle.flow_graph.specs.Nodes.{Node, IsKeptNode, function_at}
use Rattle.flow_graph.specs.Names.{node_name}
use Rattle.flow_graph.specs.Numbering.{IsNumbering, IsEdges, IsGraph, most_nodes, most_edges}
use Rattle.flow_graph.specs.Paths.{IsCallPath}
use Rattle.flow_graph.specs.PathLaws.{kept_is_placed}
use Rattle.flow_graph.specs.Places.{node_of, nodes_of}
use Rattle.flow_graph.specs.declared.place.Place.{Place}
use Rattle.flow_graph.proofs.Among.{nodes_long, stands_is}

-- images of nodes are images of places
pub map_nodes : {X : Type 0} (f : Node → X) (places : List Place)
    → map f (nodes_of places) ≡ map (λ (place : Place). f (node_of place)) places
map_nodes f [] = refl
map_nodes f (place ∷ places) = ap (λ xs. f (node_of place) ∷ xs) (map_nodes f places)

module _ (program : NumberedProgram) (places : List Place) where
  module _ (k : ℕ) (place : Place) (low : k < length places) (is : place ≡ get_or places k place) (kept : All (IsKeptNode program) (nodes_of places)) where
    -- the node of a place is kept
    pub kept_at : IsKeptNode program (node_of place)
    kept_at =
        let long = nodes_long places in
        subst (λ (n : Node). IsKeptNode program n) (stands_is places k place low is (node_of place)) (kept k (node_of place) (omega arith))

    -- so its path is a call path
    pub path_at : IsKept program → IsCallPath program (reverse place.path.items)
    path_at keeps = (kept_is_placed program keeps (node_of place) kept_at).path

  -- the parts of a graph are those of the program's
  pub whole_graph : (edges : List (ℕ × ℕ)) (funcs : List ℕ) (names : List (List ℕ))
      → IsNumbering program (nodes_of places) → length places ≤ most_nodes → IsEdges program (nodes_of places) edges
      → length edges ≤ most_edges
      → funcs ≡ map (λ (place : Place). function_at program (reverse place.path.items)) places → names ≡ map (λ (place : Place). node_name program (node_of place)) places
      → IsGraph program (record { nodes = nodes_of places; funcs = funcs; names = names; edges = edges })
  whole_graph edges funcs names numbered few listed few_edges funcs_are names_are =
      let long = nodes_long places in
      record {
        numbered = numbered;
        listed = listed;
        funcs = funcs_are ∙ sym (map_nodes (λ (node : Node). function_at program node.path) places);
        names = names_are ∙ sym (map_nodes (node_name program) places);
        few_nodes = omega arith;
        few_edges = few_edges;
      }
