use Rattle.std.proofs.Common.{Some, Option, subst}
use Rattle.std.proofs.lemmas.Result.{err_from_is_err_and}
use Rattle.alf_check.specs.CheckedPrograms.{seen}
use Rattle.flow_graph.specs.Nodes.{Node, Leads}
use Rattle.flow_graph.specs.Places.{node_of, nodes_of}
use Rattle.flow_graph.specs.Goals.{IsGoalIn, AreGoals}
use Rattle.flow_graph.specs.Growing.{Overflows}
use Rattle.flow_graph.specs.declared.goals.Goals.{Goals}
use Rattle.flow_graph.proofs.Growing.{grown_as, overflow_as}
use Rattle.flow_graph.proofs.Searching.{fault_of}
use Rattle.flow_graph.proofs.kept.go_on.Goals as goal

pub returns-in_ok-add_all-in-Some-clause-grown : goal.returns-in_ok-add_all-in-Some-clause-grown
returns-in_ok-add_all-in-Some-clause-grown c =
    let are : AreGoals (seen c.args.checked.now) (node_of c.args.place.now) (Some c.in-Some.goals) =
    subst (λ (goals : Option Goals). AreGoals (seen c.args.checked.now) (node_of c.args.place.now) goals) c.in-Some.is c.in_ok-leads_from.ensures in
    grown_as (nodes_of c.args.places.now.items) (nodes_of c.args.pending.now.items) (nodes_of c.add_all.new.places.items) (nodes_of c.add_all.new.pending.items)
    (λ (n : Node). IsGoalIn (Some c.in-Some.goals) (Some n)) (λ (n : Node). Leads (seen c.args.checked.now) (node_of c.args.place.now) (Some n))
    (λ n h. are.each (Some n) h) (λ n h. are.all (Some n) h) c.in_ok-add_all-in-Some.ensures.grown

pub returns-in_err-add_all-in-Some-clause-fault : goal.returns-in_err-add_all-in-Some-clause-fault
returns-in_err-add_all-in-Some-clause-fault c =
    let are : AreGoals (seen c.args.checked.now) (node_of c.args.place.now) (Some c.in-Some.goals) =
    subst (λ (goals : Option Goals). AreGoals (seen c.args.checked.now) (node_of c.args.place.now) goals) c.in-Some.is c.in_ok-leads_from.ensures in
    let p = err_from_is_err_and c.from_residual-in_err-add_all-in-Some.result c.from_residual-in_err-add_all-in-Some.ensures.1 in
    rw (p.1, p.2) (fault_of c.in_err-add_all-in-Some.field-0.0
    (Overflows (nodes_of c.args.places.now.items) (λ (n : Node). IsGoalIn (Some c.in-Some.goals) (Some n)))
    (Overflows (nodes_of c.args.places.now.items) (λ (n : Node). Leads (seen c.args.checked.now) (node_of c.args.place.now) (Some n)))
    (λ over. overflow_as (nodes_of c.args.places.now.items) (λ (n : Node). IsGoalIn (Some c.in-Some.goals) (Some n)) (λ (n : Node). Leads (seen c.args.checked.now) (node_of c.args.place.now) (Some n)) (λ n h. are.each (Some n) h) over)
    c.in_err-add_all-in-Some.ensures.fault)
