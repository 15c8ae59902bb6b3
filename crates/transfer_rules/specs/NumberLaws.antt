-- What holds of the numbers of nodes.
--   same_node      nodes that are tested to be one are one, and the other way round
--   numbered       a node of a graph without repeated nodes has its number
use Rattle.std.specs.Prelude.{slice_index_or, ◌==◌}
use Rattle.std.proofs.Common.{◌≡◌, ◌<◌, ℕ, zero, suc, true, false, List, [], ◌∷◌, length, Option, None, Some, refl, ap, ◌∙◌, arith}
use Rattle.std.proofs.lemmas.Bool.{eqb-true, eq-eqb, and_parts, and_from, false≢true}
use Rattle.lists.specs.TestLaws.{by_test}
use Rattle.flow_graph.specs.Nodes.{Node, first_node}
use Rattle.flow_graph.specs.Numbering.{GraphParts}
use Rattle.flow_graph.specs.Expansions.{IsExpansion, node_number}
use Rattle.alf_check.specs.CheckedPrograms.{NumberedProgram}
use Rattle.transfer_rules.specs.NodeNumbers.{is_same_path, is_same_block, is_same_node, number_of}

same_path : (a b : List ℕ) → is_same_path a b ≡ true → a ≡ b
same_path [] [] e = refl
same_path [] (b ∷ path) e = absurd (false≢true e)
same_path (a ∷ path) [] e = absurd (false≢true e)
same_path (a ∷ path) (b ∷ other) e =
    let both = and_parts (a == b) (is_same_path path other) e in
    let first : a ≡ b = eqb-true a b both.0 in
    let rest : path ≡ other = same_path path other both.1 in cc

path_itself : (a : List ℕ) → is_same_path a a ≡ true
path_itself [] = refl
path_itself (a ∷ path) = and_from (a == a) (is_same_path path path) (eq-eqb a a refl) (path_itself path)

same_block : (a b : Option ℕ) → is_same_block a b ≡ true → a ≡ b
same_block None None e = refl
same_block None (Some b) e = absurd (false≢true e)
same_block (Some a) None e = absurd (false≢true e)
same_block (Some a) (Some b) e = ap Some (eqb-true a b e)

block_itself : (a : Option ℕ) → is_same_block a a ≡ true
block_itself None = refl
block_itself (Some a) = eq-eqb a a refl

-- nodes that are tested to be one are one
pub same_node : (a b : Node) → is_same_node a b ≡ true → a ≡ b
same_node a b e =
    let both = and_parts (is_same_path a.path b.path) (is_same_block a.block b.block) e in
    let path : a.path ≡ b.path = same_path a.path b.path both.0 in
    let block : a.block ≡ b.block = same_block a.block b.block both.1 in
    ap (λ (p : List ℕ). record { path = p; block = a.block }) path ∙ ap (λ (o : Option ℕ). record { path = b.path; block = o }) block

pub node_itself : (a : Node) → is_same_node a a ≡ true
node_itself a = and_from (is_same_path a.path a.path) (is_same_block a.block a.block) (path_itself a.path) (block_itself a.block)

-- what stands at the number of a node that is among the nodes is the node
pub found : (nodes : List Node) (n : ℕ) (other : Node) → n < length nodes
    → (number_of nodes (slice_index_or nodes n other) < length nodes) × (slice_index_or nodes (number_of nodes (slice_index_or nodes n other)) other ≡ slice_index_or nodes n other)
found [] n other low = absurd (omega arith)
found (first ∷ nodes) zero other low = rw (node_itself first) (omega arith, refl)
found (first ∷ nodes) (suc n) other low = by_test (is_same_node first (slice_index_or nodes n other))
    (λ e. rw e (omega arith, same_node first (slice_index_or nodes n other) e))
    (λ e. let rest = found nodes n other (omega arith) in rw e (let small = rest.0 in omega (arith, small), rest.1))

-- a node of a graph without repeated nodes has its number
pub numbered : (program : NumberedProgram) (graph : GraphParts) → IsExpansion program graph → (n : ℕ)
    → n < length graph.nodes → number_of graph.nodes (node_number graph n) ≡ n
numbered program graph expansion n low =
    let at = found graph.nodes n first_node low in
    expansion.apart (number_of graph.nodes (node_number graph n)) n at.0 low at.1
