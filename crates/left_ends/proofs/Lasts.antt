-- The block at which a run ends.
--   path_none, path_some   a node's path from the root on is empty where its path is
--   has_block    the block of a node of the root is one of the root
--   one_last     a node is one block
--   no_path, no_block, no_return   a node that is none
use Rattle.std.specs.Prelude.{slice_get, reverse}
use Rattle.std.proofs.Common.{◌≡◌, ◌≢◌, ◌<◌, ◌==◌, true, ℕ, List, [], ◌∷◌, length, Option, Some, None, refl, sym, ap, subst, ◌∙◌, arith}
use Rattle.std.proofs.lemmas.Bool.{eqb-true}
use Rattle.std.proofs.lemmas.Option.{none-some, same_Some, get_or_from_slice_get}
use Rattle.std.proofs.lemmas.List.{reverse-reverse}
use Rattle.alf_check.specs.CheckedPrograms.{NumberedBlock, NumberedProgram, blocks_at}
use Rattle.flow_graph.specs.Nodes.{Node, block_node, first_node, function_at}
use Rattle.flow_graph.specs.Numbering.{GraphParts}
use Rattle.flow_graph.specs.Expansions.{IsExpansion, node_number}
use Rattle.flow_graph.specs.Paths.{HasBlock}
use Rattle.flow_graph.specs.Places.{node_at}
use Rattle.left_ends.specs.Seen.{IsLast, Returns}

module _ (program : NumberedProgram) (graph : GraphParts) (n : ℕ) (path : List ℕ) (block : Option ℕ)
    (at : slice_get graph.nodes n ≡ Some (node_at path block)) where
  -- the node of this number
  node_is : node_number graph n ≡ node_at path block
  node_is = get_or_from_slice_get graph.nodes n (node_at path block) first_node at

  -- of a block of the root
  pub root_node : (b : ℕ) → path ≡ [] → block ≡ Some b → node_number graph n ≡ block_node [] b
  root_node b empty own = node_is ∙ ap (λ (p : List ℕ). node_at p block) empty ∙ ap (λ (o : Option ℕ). record { path = []; block = o }) own

  -- the block of a node of the root is one of the root
  pub has_block : (b : ℕ) → IsExpansion program graph → n < length graph.nodes → path ≡ [] → block ≡ Some b
      → b < length (blocks_at program program.root)
  has_block b expansion low empty own =
      let placed = (expansion.places n low).placed in
      subst (λ (node : Node). HasBlock program (function_at program node.path) node.block) (root_node b empty own) placed.block

  -- a node whose path is not empty is none
  pub no_path : path ≢ [] → (row : NumberedBlock) → IsLast program graph n row → ⊥
  no_path some row last =
      let turned : reverse path ≡ [] = ap (λ (node : Node). node.path) (sym node_is ∙ last.node) in
      some (sym (reverse-reverse path) ∙ ap reverse turned)

  -- nor is an entry
  pub no_block : block ≡ None → (row : NumberedBlock) → IsLast program graph n row → ⊥
  no_block none row last = none-some last.number (sym none ∙ ap (λ (node : Node). node.block) (sym node_is ∙ last.node))

  -- a node is one block
  pub one_last : (b : ℕ) (own row : NumberedBlock) → path ≡ [] → block ≡ Some b → slice_get (blocks_at program program.root) b ≡ Some own
      → IsLast program graph n row → row ≡ own
  one_last b own row empty is found last =
      let number : last.number ≡ b = same_Some last.number b (ap (λ (node : Node). node.block) (sym last.node ∙ root_node b empty is)) in
      same_Some row own (sym last.at ∙ ap (slice_get (blocks_at program program.root)) number ∙ found)

  -- and one that does not return is none
  pub no_return : (b : ℕ) (own : NumberedBlock) → path ≡ [] → block ≡ Some b → slice_get (blocks_at program program.root) b ≡ Some own
      → (Returns own.ending → ⊥) → (row : NumberedBlock) → IsLast program graph n row → ⊥
  no_return b own empty is found none row last =
      none (subst (λ (r : NumberedBlock). Returns r.ending) (one_last b own row empty is found last) last.returns)

-- two such blocks of a node are one
pub same_last : (program : NumberedProgram) (graph : GraphParts) (n : ℕ) (a b : NumberedBlock) → IsLast program graph n a
    → IsLast program graph n b → a ≡ b
same_last program graph n a b first second =
    let number : first.number ≡ second.number = same_Some first.number second.number (ap (λ (node : Node). node.block) (sym first.node ∙ second.node)) in
    same_Some a b (sym first.at ∙ ap (slice_get (blocks_at program program.root)) number ∙ second.at)

-- a path without members
pub empty_of : (path : List ℕ) → (length path == 0) ≡ true → path ≡ []
empty_of [] e = refl
empty_of (b ∷ path) e = let none : length (b ∷ path) ≡ 0 = eqb-true (length (b ∷ path)) 0 e in absurd (omega (arith, none))
