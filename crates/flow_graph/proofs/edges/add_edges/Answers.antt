use Rattle.std.proofs.Common.{◌≡◌, ◌∙◌, ◌<◌, ◌+◌, ℕ, List, [], ◌∷◌, ◌++◌, Option, Some, None, get_or, slice_get, length, Contains, All, AllPairs, ap, sym, subst, arith}
use Rattle.std.proofs.Math.Seq.{take-length}
use Rattle.std.proofs.lemmas.List.Elements.{Contains-get_or}
use Rattle.graph_walks.specs.ListLaws.{same_default}
use Rattle.alf_check.specs.CheckedPrograms.{NumberedProgram, seen}
use Rattle.flow_graph.specs.Nodes.{Node, Leads, IsKeptNode, goes_on}
use Rattle.flow_graph.specs.Numbering.{block_rank}
use Rattle.flow_graph.specs.Places.{node_at, node_of, nodes_of}
use Rattle.flow_graph.specs.Goals.{AreGoals}
use Rattle.flow_graph.specs.Listing.{IsListed, IsDoneBefore}
use Rattle.flow_graph.specs.declared.place.Place.{Place}
use Rattle.flow_graph.specs.declared.goals.Goals.{Goals}
use Rattle.flow_graph.proofs.Among.{nodes_long, stands_is, stands_at}
use Rattle.flow_graph.proofs.Listing.{IsDoneInRow, row_first, row_more, row_all, end_more}
use Rattle.flow_graph.proofs.edges.add_edges.Goals as goal

-- the node of a place is kept
kept_at : (program : NumberedProgram) (places : List Place) (from : ℕ) (place : Place) → from < length places
    → place ≡ get_or places from place → All (IsKeptNode program) (nodes_of places) → IsKeptNode program (node_of place)
kept_at program places from place low is kept =
    let long = nodes_long places in
    subst (λ (n : Node). IsKeptNode program n) (stands_is places from place low is (node_of place)) (kept from (node_of place) (omega arith))

pub leads_from-requires : goal.leads_from-requires
leads_from-requires c = kept_at (seen c.args.checked.now) c.args.places.now c.args.from c.index-places-from.result c.requires.there c.index-places-from.is c.requires.numbered.kept

pub returns-in_default : goal.returns-in_default
returns-in_default c =
    let program : NumberedProgram = seen c.args.checked.now in
    let nodes : List Node = nodes_of c.args.places.now in
    let from : ℕ = c.args.from in
    let place : Place = c.index-places-from.result in
    let node : Node = node_of place in
    let low : from < length c.args.places.now = c.requires.there in
    let long = nodes_long c.args.places.now in
    let at : slice_get nodes from ≡ Some node = stands_at c.args.places.now from place low c.index-places-from.is in
    let are : AreGoals program node None = subst (λ (o : Option Goals). AreGoals program node o) c.in_default.is c.in_ok-goals.ensures in
    subst (λ (edges : List (ℕ × ℕ)). IsListed (IsDoneBefore program nodes (from + 1)) edges) (sym c.in_ok-push.ensures.items)
    (subst (λ (n : ℕ). IsListed (IsDoneBefore program nodes (from + 1)) (c.args.edges.now.items ++ (from, n) ∷ [])) long (end_more program nodes from node at are c.args.edges.now.items c.requires.listed))

pub loop-block-init : goal.loop-block-init
loop-block-init c = row_first (seen c.args.checked.now) (nodes_of c.args.places.now) c.args.from c.as_slice-path.result.now c.deref-block-items.result.now c.args.edges.now.items c.requires.listed

pub number_of-to-requires-clause-there : goal.number_of-to-requires-clause-there
number_of-to-requires-clause-there c =
    let program : NumberedProgram = seen c.args.checked.now in
    let nodes : List Node = nodes_of c.args.places.now in
    let from : ℕ = c.args.from in
    let place : Place = c.index-places-from.result in
    let node : Node = node_of place in
    let low : from < length c.args.places.now = c.requires.there in
    let long = nodes_long c.args.places.now in
    let at : slice_get nodes from ≡ Some node = stands_at c.args.places.now from place low c.index-places-from.is in
    let goals : Goals = c.in-Some.goals in
    let are : AreGoals program node (Some goals) = subst (λ (o : Option Goals). AreGoals program node o) c.in-Some.is c.in_ok-goals.ensures in
    let path : List ℕ = c.as_slice-path.result.now in
    let path_is : goals.path.items ≡ path = sym c.as_slice-path.ensures.value in
    let items : List (Option ℕ) = c.deref-block-items.result.now in
    let items_are : items ≡ goals.blocks.items = c.deref-block-items.ensures.value in
    let k : ℕ = c.loop-block.block-index in
    let x : Option ℕ = get_or items k None in
    let inside : k < length items = c.loop-block-test.true in
    let among : Contains goals.blocks.items x = subst (λ (bs : List (Option ℕ)). Contains bs x) items_are (Contains-get_or items k None inside) in
    let leads : Leads program node (Some (node_at path x)) = are.each (Some (node_at path x)) (x, among, ap (λ (p : List ℕ). Some (node_at p x)) (sym path_is)) in
    c.requires.numbered.all (node_at path x) (goes_on node (node_at path x) (kept_at program c.args.places.now from place low c.index-places-from.is c.requires.numbered.kept) leads)

pub loop-block-preserved : goal.loop-block-preserved
loop-block-preserved c =
    let program : NumberedProgram = seen c.args.checked.now in
    let nodes : List Node = nodes_of c.args.places.now in
    let from : ℕ = c.args.from in
    let place : Place = c.index-places-from.result in
    let node : Node = node_of place in
    let low : from < length c.args.places.now = c.requires.there in
    let long = nodes_long c.args.places.now in
    let at : slice_get nodes from ≡ Some node = stands_at c.args.places.now from place low c.index-places-from.is in
    let goals : Goals = c.in-Some.goals in
    let are : AreGoals program node (Some goals) = subst (λ (o : Option Goals). AreGoals program node o) c.in-Some.is c.in_ok-goals.ensures in
    let path : List ℕ = c.as_slice-path.result.now in
    let path_is : goals.path.items ≡ path = sym c.as_slice-path.ensures.value in
    let items : List (Option ℕ) = c.deref-block-items.result.now in
    let items_are : items ≡ goals.blocks.items = c.deref-block-items.ensures.value in
    let k : ℕ = c.loop-block.block-index in
    let x : Option ℕ = get_or items k None in
    let inside : k < length items = c.loop-block-test.true in
    let up : AllPairs (λ (a b : Option ℕ). block_rank a < block_rank b) items = subst (λ (bs : List (Option ℕ)). AllPairs (λ (a b : Option ℕ). block_rank a < block_rank b) bs) (sym items_are) are.ascends in
    subst (λ (edges : List (ℕ × ℕ)). IsListed (IsDoneInRow program nodes from path items (k + 1)) edges) (sym c.in_ok-push-2.ensures.items)
    (row_more program nodes from path items c.requires.numbered.ascends up k x inside (same_default items k None x inside) c.number_of-to.result c.number_of-to.ensures c.loop-block.edges.items c.loop-block.invariant)

pub returns : goal.returns
returns c =
    let program : NumberedProgram = seen c.args.checked.now in
    let nodes : List Node = nodes_of c.args.places.now in
    let from : ℕ = c.args.from in
    let place : Place = c.index-places-from.result in
    let node : Node = node_of place in
    let low : from < length c.args.places.now = c.requires.there in
    let long = nodes_long c.args.places.now in
    let at : slice_get nodes from ≡ Some node = stands_at c.args.places.now from place low c.index-places-from.is in
    let goals : Goals = c.in-Some.goals in
    let are : AreGoals program node (Some goals) = subst (λ (o : Option Goals). AreGoals program node o) c.in-Some.is c.in_ok-goals.ensures in
    let path : List ℕ = c.as_slice-path.result.now in
    let path_is : goals.path.items ≡ path = sym c.as_slice-path.ensures.value in
    let items : List (Option ℕ) = c.deref-block-items.result.now in
    let items_are : items ≡ goals.blocks.items = c.deref-block-items.ensures.value in
    let past = c.loop-block-test.false in
    let within = c.loop-block.auto.block-index-end in
    let all : c.loop-block.block-index ≡ length items = omega arith in
    row_all program nodes from path items node goals at are path_is (sym items_are ∙ sym (take-length items)) c.loop-block.edges.items
    (subst (λ (j : ℕ). IsListed (IsDoneInRow program nodes from path items j) c.loop-block.edges.items) all c.loop-block.invariant)
