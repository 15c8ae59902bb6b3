-- Names of the nodes of a graph.
--   apart     nodes of one name have one number
--   spelled   each name is one that reports spell
use Rattle.std.proofs.Common.{◌≡◌, ◌<◌, ℕ, List, [], length, get_or, All, ap, sym, ◌∙◌, subst}
use Rattle.std.proofs.lemmas.List.{get_or-map}
use Rattle.std.proofs.lemmas.List.Elements.{All-contains}
use Rattle.lists.specs.ImageLaws.{all_images}
use Rattle.alf_check.specs.CheckedPrograms.{NumberedProgram}
use Rattle.alf_check.specs.Kept.{IsKept}
use Rattle.flow_graph.specs.Nodes.{IsKeptNode, first_node}
use Rattle.flow_graph.specs.Names.{node_name, IsNodeName}
use Rattle.flow_graph.specs.Numbering.{GraphParts, IsGraph}
use Rattle.flow_graph.specs.PathLaws.{kept_is_placed}
use Rattle.flow_graph.specs.Expansions.{node_number}
use Rattle.flow_graph.proofs.Naming.{same_name, node_spelled}
use Rattle.flow_graph.proofs.Expanding.{expanded}

module _ (program : NumberedProgram) (graph : GraphParts) (keeps : IsKept program) (is : IsGraph program graph) where
  -- nodes of one name have one number
  pub apart : (m n : ℕ) → m < length graph.nodes → n < length graph.nodes
      → get_or graph.names m [] ≡ get_or graph.names n [] → m ≡ n
  apart m n m_low n_low e =
      let expansion = expanded program keeps graph is in
      expansion.apart m n m_low n_low
      (same_name program keeps (node_number graph m) (node_number graph n) (expansion.places m m_low).placed (expansion.places n n_low).placed (sym (name_at m m_low) ∙ e ∙ name_at n n_low))
    where
      name_at : (k : ℕ) → k < length graph.nodes → get_or graph.names k [] ≡ node_name program (node_number graph k)
      name_at k low = ap (λ (names : List (List ℕ)). get_or names k []) is.names ∙ get_or-map (node_name program) graph.nodes k first_node [] low

  -- each name is one that reports spell
  pub spelled : All IsNodeName graph.names
  spelled = subst (λ (names : List (List ℕ)). All IsNodeName names) (sym is.names) (all_images IsNodeName (node_name program) graph.nodes
      (λ node h. node_spelled program keeps node (kept_is_placed program keeps node (All-contains (IsKeptNode program) graph.nodes node is.numbered.kept h))))
