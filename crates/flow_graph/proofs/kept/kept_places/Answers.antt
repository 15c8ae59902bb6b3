use Rattle.std.proofs.Common.{◌≡◌, ◌∙◌, [], ◌∷◌, ◌++◌, List, Some, ap, subst, arith}
use Rattle.std.proofs.lemmas.Result.{err_from_is_err_and}
use Rattle.std.proofs.lemmas.List.{map_push, nil_from_length}
use Rattle.alf_check.specs.CheckedPrograms.{NumberedProgram, seen}
use Rattle.flow_graph.specs.Nodes.{Node, Leads, first_node}
use Rattle.flow_graph.specs.Numbering.{HasMoreNodes, most_nodes}
use Rattle.flow_graph.specs.Places.{node_of, nodes_of}
use Rattle.flow_graph.specs.Growing.{IsGrown, Overflows, IsSearched}
use Rattle.flow_graph.proofs.Searching.{fault_of, more_nodes, searched_first, searched_on, searched_all, node_kept, next_kept}
use Rattle.flow_graph.proofs.kept.kept_places.Goals as goal

pub loop-place-init : goal.loop-place-init
loop-place-init c =
    let places : List Node = nodes_of c.add.new.places.items in
    let pending : List Node = nodes_of c.add.new.pending.items in
    searched_first (seen c.args.checked.now) places pending
    (subst (λ (ns : List Node). IsGrown [] ns (λ (n : Node). n ≡ first_node) places pending) (ap nodes_of c.new-pending.ensures.items)
    (subst (λ (ns : List Node). IsGrown ns (nodes_of c.new-pending.result.items) (λ (n : Node). n ≡ first_node) places pending) (ap nodes_of c.new-places.ensures.items) c.in_ok-add.ensures.grown))

pub go_on-requires-clause-kept : goal.go_on-requires-clause-kept
go_on-requires-clause-kept c =
    let front : List Node = nodes_of c.pop.new.self.items in
    let split : nodes_of c.loop-place.pending.items ≡ front ++ node_of c.in-Some.place ∷ [] = ap nodes_of c.in-Some.ensures.items ∙ map_push node_of c.pop.new.self.items c.in-Some.place in
    node_kept (seen c.args.checked.now) (nodes_of c.loop-place.places.items) front (node_of c.in-Some.place)
    (subst (λ (ns : List Node). IsSearched (seen c.args.checked.now) (nodes_of c.loop-place.places.items) ns) split c.loop-place.invariant)

pub returns-in_err-go_on-clause-fault : goal.returns-in_err-go_on-clause-fault
returns-in_err-go_on-clause-fault c =
    let program : NumberedProgram = seen c.args.checked.now in
    let nodes : List Node = nodes_of c.loop-place.places.items in
    let front : List Node = nodes_of c.pop.new.self.items in
    let node : Node = node_of c.in-Some.place in
    let split : nodes_of c.loop-place.pending.items ≡ front ++ node ∷ [] = ap nodes_of c.in-Some.ensures.items ∙ map_push node_of c.pop.new.self.items c.in-Some.place in
    let searched = subst (λ (ns : List Node). IsSearched program nodes ns) split c.loop-place.invariant in
    let p = err_from_is_err_and c.from_residual-in_err-go_on.result c.from_residual-in_err-go_on.ensures.1 in
    rw (p.1, p.2) (fault_of c.in_err-go_on.field-0.0 (Overflows nodes (λ (n : Node). Leads program node (Some n))) (HasMoreNodes program most_nodes)
    (λ over. more_nodes program nodes (λ (n : Node). Leads program node (Some n)) searched.kept (λ n h. next_kept program nodes front node searched n h) over)
    c.in_err-go_on.ensures.fault)

pub loop-place-preserved : goal.loop-place-preserved
loop-place-preserved c =
    let program : NumberedProgram = seen c.args.checked.now in
    let nodes : List Node = nodes_of c.loop-place.places.items in
    let front : List Node = nodes_of c.pop.new.self.items in
    let node : Node = node_of c.in-Some.place in
    let split : nodes_of c.loop-place.pending.items ≡ front ++ node ∷ [] = ap nodes_of c.in-Some.ensures.items ∙ map_push node_of c.pop.new.self.items c.in-Some.place in
    let searched = subst (λ (ns : List Node). IsSearched program nodes ns) split c.loop-place.invariant in
    searched_on program nodes front node searched (nodes_of c.go_on.new.places.items) (nodes_of c.go_on.new.pending.items) c.in_ok-go_on.ensures.grown

pub returns-clause-numbered : goal.returns-clause-numbered
returns-clause-numbered c =
    let program : NumberedProgram = seen c.args.checked.now in
    let nodes : List Node = nodes_of c.loop-place.places.items in
    let cases = c.in_default.ensures.cases in
    let empty : c.loop-place.pending.items ≡ [] = nil_from_length c.loop-place.pending.items (omega arith) in
    searched_all program nodes (subst (λ (ns : List Node). IsSearched program nodes ns) (ap nodes_of empty) c.loop-place.invariant)
