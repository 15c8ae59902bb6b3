-- Where a node stands among nodes in their order.
--   stands_is, stands_at   what a place stands for stands at its number
--   low_before   the nodes up to one that is before a node are before it
--   high_after   the nodes from one on that is after a node are after it
--   found_at     a node that is none other's neighbour is found
use Rattle.std.proofs.Common.{◌≡◌, ◌<◌, ◌≤◌, ◌+◌, ℕ, Some, List, length, AllPairs, get_or, slice_get, ap, sym, ◌∙◌, subst, inl, inr, arith}
use Rattle.std.specs.declared.cmp.Ordering.TheVariants.{Less, Equal, Greater}
use Rattle.std.proofs.lemmas.Bool.{cases_lt}
use Rattle.std.proofs.lemmas.List.{length-map, get_or-map}
use Rattle.std.proofs.lemmas.Option.{slice_get-get_or}
use Rattle.flow_graph.specs.Nodes.{Node}
use Rattle.flow_graph.specs.Numbering.{node_cmp, IsBefore}
use Rattle.flow_graph.specs.Places.{node_of, nodes_of}
use Rattle.flow_graph.specs.declared.place.Place.{Place}
use Rattle.flow_graph.proofs.Order.{same_node, before_before, after_is}

-- as many nodes as places
pub nodes_long : (places : List Place) → length (nodes_of places) ≡ length places
nodes_long places = length-map places node_of

module _ (places : List Place) (m : ℕ) (place : Place) (inside : m < length places) (is : place ≡ get_or places m place) where
  -- what a place stands for stands at its number
  pub stands_is : (d : Node) → get_or (nodes_of places) m d ≡ node_of place
  stands_is d = get_or-map node_of places m place d inside ∙ ap node_of (sym is)

  pub stands_at : slice_get (nodes_of places) m ≡ Some (node_of place)
  stands_at = let long = nodes_long places in slice_get-get_or (nodes_of places) m (node_of place) (omega arith) ∙ ap (λ (n : Node). Some n) (stands_is (node_of place))

  module _ (ascends : AllPairs IsBefore (nodes_of places)) (node : Node) where
    -- the nodes up to one that is before a node are before it
    pub low_before : node_cmp (node_of place) node ≡ Less → (k : ℕ) → k < m + 1
        → IsBefore (get_or (nodes_of places) k node) node
    low_before less k low = elim (cases_lt k m) [
      | inl under ↦ let long = nodes_long places in
          before_before (get_or (nodes_of places) k node) (node_of place) node
          (subst (λ (n : Node). IsBefore (get_or (nodes_of places) k node) n) (stands_is node) (ascends k m node under (omega arith))) less
      | inr same ↦ let e : k ≡ m = omega arith in subst (λ (n : Node). IsBefore n node) (sym (ap (λ (j : ℕ). get_or (nodes_of places) j node) e ∙ stands_is node)) less
    ]

    -- the nodes from one on that is after a node are after it
    pub high_after : node_cmp (node_of place) node ≡ Greater → (k : ℕ) → m ≤ k → k < length (nodes_of places)
        → IsBefore node (get_or (nodes_of places) k node)
    high_after greater k high within = elim (cases_lt m k) [
      | inl over ↦
          before_before node (node_of place) (get_or (nodes_of places) k node) (after_is (node_of place) node greater)
          (subst (λ (n : Node). IsBefore n (get_or (nodes_of places) k node)) (stands_is node) (ascends m k node over within))
      | inr same ↦ let e : k ≡ m = omega arith in
          subst (λ (n : Node). IsBefore node n) (sym (ap (λ (j : ℕ). get_or (nodes_of places) j node) e ∙ stands_is node)) (after_is (node_of place) node greater)
    ]

    -- a node that is neither before nor after one is this one
    pub found_at : node_cmp (node_of place) node ≡ Equal → slice_get (nodes_of places) m ≡ Some node
    found_at equal =
        let long = nodes_long places in
        slice_get-get_or (nodes_of places) m node (omega arith) ∙ ap (λ (n : Node). Some n) (stands_is node ∙ same_node (node_of place) node equal)
