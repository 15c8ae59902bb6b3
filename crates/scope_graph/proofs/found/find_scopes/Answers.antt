-- What is left to show of `find_scopes`.
use Rattle.std.proofs.Common.{◌≡◌, ◌++◌, ◌∷◌, [], List, Bool, Vec, Global, None, Some, length, refl, ap, ◌∙◌, arith}
use Rattle.std.proofs.lemmas.Grind.{common_steps}
use Rattle.std.proofs.lemmas.List.{map_push}
use Rattle.domain_core.specs.declared.outline.ScopeRow.{ScopeRow}
use Rattle.graph_walks.specs.Tables.{rows_of}
use Rattle.scope_graph.specs.Placing.{plan_of}
use Rattle.scope_graph.specs.Members.{MarksExactly}
use Rattle.scope_graph.specs.Inner.{lists_of}
use Rattle.scope_graph.specs.Found.{IsKindAt, IsMember}
use Rattle.scope_graph.proofs.Placed.{as_many}
use Rattle.scope_graph.proofs.FoundScopes.{found_over, found_more}
use Rattle.scope_graph.proofs.found.find_scopes.Goals as goal
use Rattle.scope_graph.proofs.found.find_scopes.Goals.{in-None, in-Some+in_ok-marks-in-Some+in_ok-push-in-Some+in_ok-push-in-Some-2}

pub loop-node-preserved : goal.loop-node-preserved
loop-node-preserved c =
    let table = rows_of c.args.table.now in
    let back = c.args.back.now in
    let plan = plan_of c.args.graph.now in
    let node = c.loop-node.node in
    let rows = c.loop-node.rows.items in
    let holds = c.loop-node.holds.items in
    let f = c.loop-node.invariant in
    elim c.match-kind_at.branch [
      | in-None w ↦
          let none : IsKindAt plan back node None = rw w.in-None.is at c.kind_at.ensures in
          rw (w.rows-is, w.holds-is) (found_over table back plan node rows (lists_of holds) f none)
      | in-Some+in_ok-marks-in-Some+in_ok-push-in-Some+in_ok-push-in-Some-2 w ↦
          let kind = w.in-Some.kind in
          let marks = w.in_ok-marks-in-Some.marks in
          let row : ScopeRow = record { parent = None; header = node; kind = kind } in
          let is : IsKindAt plan back node (Some kind) = rw w.in-Some.is at c.kind_at.ensures in
          let count : length plan.places ≡ length c.args.graph.now.nodes = as_many c.args.graph.now in
          let exact : MarksExactly (length plan.places) (IsMember table back plan kind node) marks.items = rw count w.in_ok-marks-in-Some.ensures in
          let new_rows : c.match-kind_at.rows.items ≡ rows ++ row ∷ [] = grind (arith, common_steps) in
          let new_holds : c.match-kind_at.holds.items ≡ holds ++ marks ∷ [] = grind (arith, common_steps) in
          let lists : lists_of c.match-kind_at.holds.items ≡ lists_of holds ++ marks.items ∷ [] = ap (λ (xs : List (Vec Bool Global)). lists_of xs) new_holds ∙ map_push (λ (v : Vec Bool Global). v.items) holds marks in
          rw (new_rows, lists) (found_more table back plan node rows (lists_of holds) f row marks.items refl is exact)
    ]
