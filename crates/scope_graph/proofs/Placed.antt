-- Where nodes stand, as the code reads it.
--   as_many       there are as many places as nodes
--   place_at      the place of a number is that of the node
--   read_path, read_block   what the code reads of a node
--   extends_from, from_extends   paths from the root on, and the newest call first
use Rattle.std.proofs.Common.{◌≡◌, ◌<◌, ℕ, zero, suc, List, [], ◌∷◌, ◌++◌, Option, Some, map, reverse, get_or, slice_get, length, length-append, refl, ap, sym, ◌∙◌, subst, arith}
use Rattle.std.proofs.lemmas.List.{length-map, reverse-append, reverse-reverse, append_assoc, get_or_at}
use Rattle.std.proofs.lemmas.Option.{get_or_from_slice_get}
use Rattle.domain_core.specs.Scopes.{Place, nowhere, path_at, block_at, Extends}
use Rattle.flow_graph.specs.Nodes.{Node, first_node}
use Rattle.flow_graph.specs.Numbering.{GraphParts}
use Rattle.flow_graph.specs.Places.{node_at}
use Rattle.flow_graph.specs.Expansions.{node_number}
use Rattle.scope_graph.specs.Placing.{place_of, plan_of}

-- the place of a number is that of the node
places_at : (nodes : List Node) (n : ℕ) → get_or (map place_of nodes) n nowhere ≡ place_of (get_or nodes n first_node)
places_at [] n = refl
places_at (node ∷ nodes) zero = refl
places_at (node ∷ nodes) (suc n) = places_at nodes n

module _ (graph : GraphParts) where
  -- there are as many places as nodes
  pub as_many : length (plan_of graph).places ≡ length graph.nodes
  as_many = length-map graph.nodes place_of

  pub place_at : (n : ℕ) → get_or (plan_of graph).places n nowhere ≡ place_of (node_number graph n)
  place_at n = places_at graph.nodes n

  module _ (n : ℕ) (path : List ℕ) (block : Option ℕ) (at : slice_get graph.nodes n ≡ Some (node_at path block)) where
    read : get_or (plan_of graph).places n nowhere ≡ place_of (node_at path block)
    read = place_at n ∙ ap place_of (get_or_from_slice_get graph.nodes n (node_at path block) first_node at)

    -- what the code reads of a node
    pub read_path : path_at (plan_of graph) n ≡ reverse path
    read_path = ap (λ (place : Place). place.path) read

    pub read_block : block_at (plan_of graph) n ≡ block
    read_block = ap (λ (place : Place). place.block) read

-- a path that begins with another from the root on
pub extends_from : (path front rest : List ℕ) → path ≡ front ++ rest → Extends (reverse path) (reverse front)
extends_from path front rest is = (reverse rest, ap (λ (xs : List ℕ). reverse xs) is ∙ reverse-append front rest)

-- and back
pub from_extends : (path front : List ℕ) → Extends (reverse path) (reverse front)
    → (rest : List ℕ) × (path ≡ front ++ rest)
from_extends path front (calls, is) =
    (reverse calls, sym (reverse-reverse path) ∙ ap (λ (xs : List ℕ). reverse xs) is ∙ reverse-append calls (reverse front) ∙ ap (λ (xs : List ℕ). xs ++ reverse calls) (reverse-reverse front))

-- one that begins with another and then a call
pub call_from : (path front : List ℕ) (call : ℕ) → (rest : List ℕ) → path ≡ front ++ rest → length front < length path
    → get_or path (length front) 0 ≡ call → Extends (reverse path) (call ∷ reverse front)
call_from path front call [] is longer at = absurd (let same : length path ≡ length (front ++ []) = ap length is in let more = length-append front [] in omega arith)
call_from path front call (x ∷ rest) is longer at =
    let first : x ≡ call = sym (get_or_at front x rest 0 (length front) refl) ∙ ap (λ (xs : List ℕ). get_or xs (length front) 0) (sym is) ∙ at in
    let whole : path ≡ (front ++ call ∷ []) ++ rest = is ∙ ap (λ (n : ℕ). front ++ n ∷ rest) first ∙ sym (append_assoc front (call ∷ []) rest) in
    subst (λ (xs : List ℕ). Extends (reverse path) xs) (reverse-append front (call ∷ [])) (extends_from path (front ++ call ∷ []) rest whole)

-- and back
pub from_call : (path front : List ℕ) (call : ℕ) → Extends (reverse path) (call ∷ reverse front)
    → (length front < length path) × (get_or path (length front) 0 ≡ call) × ((rest : List ℕ) × (path ≡ front ++ rest))
from_call path front call extends =
    let cut = from_extends path (front ++ call ∷ []) (subst (λ (xs : List ℕ). Extends (reverse path) xs) (sym (reverse-append front (call ∷ []))) extends) in
    let whole : path ≡ front ++ call ∷ cut.0 = cut.1 ∙ append_assoc front (call ∷ []) cut.0 in
    ((let same : length path ≡ length (front ++ call ∷ cut.0) = ap length whole in let more = length-append front (call ∷ cut.0) in omega arith), ap (λ (xs : List ℕ). get_or xs (length front) 0) whole ∙ get_or_at front call cut.0 0 (length front) refl, (call ∷ cut.0, whole))
