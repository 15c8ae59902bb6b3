use Rattle.std.proofs.Common.{◌≡◌, [], ◌∷◌, ◌++◌, ℕ, List, refl, sym, subst, arith}
use Rattle.std.specs.List.{insert}
use Rattle.flow_graph.specs.Nodes.{Node}
use Rattle.flow_graph.specs.Places.{node_at, nodes_of, IsGap}
use Rattle.flow_graph.specs.Growing.{IsGrown}
use Rattle.flow_graph.proofs.Among.{nodes_long}
use Rattle.flow_graph.proofs.Growing.{put_grown, put_overflows}
use Rattle.flow_graph.specs.declared.place.Place.{Place}
use Rattle.flow_graph.proofs.kept.add.Goals as goal

pub returns-in-Err-clause-fault : goal.returns-in-Err-clause-fault
returns-in-Err-clause-fault c =
    let nodes : List Node = nodes_of c.args.places.now.items in
    let node : Node = node_at c.args.path.now c.args.block in
    let long = nodes_long c.args.places.now.items in
    let gap : IsGap nodes node c.in-Err.field-0 = subst (λ (ps : List Place). IsGap (nodes_of ps) node c.in-Err.field-0) c.deref.ensures.value c.in-Err.ensures.missing in
    (refl, put_overflows nodes node c.in-Err.field-0 gap c.requires.ascends (omega arith))

pub returns-in_ok-put-in-Err-2-clause-grown : goal.returns-in_ok-put-in-Err-2-clause-grown
returns-in_ok-put-in-Err-2-clause-grown c =
    let nodes : List Node = nodes_of c.args.places.now.items in
    let pending : List Node = nodes_of c.args.pending.now.items in
    let node : Node = node_at c.args.path.now c.args.block in
    let long = nodes_long c.args.places.now.items in
    let few = c.requires.few in
    let other = c.if-len-eq-MOST_NODES.false in
    let gap : IsGap nodes node c.in-Err-2.at = subst (λ (ps : List Place). IsGap (nodes_of ps) node c.in-Err-2.at) c.deref.ensures.value c.in-Err-2.ensures.missing in
    subst (λ (ns : List Node). IsGrown nodes pending (λ (n : Node). n ≡ node) ns (nodes_of c.put.new.pending.items)) (sym c.in_ok-put-in-Err-2.ensures.places)
    (subst (λ (ps : List Node). IsGrown nodes pending (λ (n : Node). n ≡ node) (insert nodes c.in-Err.field-0 node) ps) (sym c.in_ok-put-in-Err-2.ensures.pending) (subst (λ (at : ℕ). IsGrown nodes pending (λ (n : Node). n ≡ node) (insert nodes at node) (pending ++ node ∷ [])) (sym c.in-Err-2.at-is) (put_grown nodes node c.in-Err-2.at gap c.requires.ascends pending (omega arith))))
