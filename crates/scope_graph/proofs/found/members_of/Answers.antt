-- What is left to show of `members_of`.
use Rattle.std.proofs.Common.{◌<◌, ℕ, List, Bool, Vec, Global, length, inl, inr, subst, sym, arith}
use Rattle.std.proofs.lemmas.List.{length-map}
use Rattle.std.proofs.lemmas.Result.{IfOk-weaker}
use Rattle.domain_core.specs.declared.scope_kind.ScopeKind.TheVariants.{Loop}
use Rattle.graph_walks.specs.Tables.{rows_of}
use Rattle.graph_walks.specs.MarkedNodes.{IsMarked}
use Rattle.scope_graph.specs.LoopBodies.{IsBackward}
use Rattle.scope_graph.specs.Placing.{plan_of}
use Rattle.scope_graph.specs.Members.{MarksExactly, IsTaken}
use Rattle.scope_graph.specs.Found.{IsMember}
use Rattle.scope_graph.proofs.FoundScopes.{returns_low, loop_marks}
use Rattle.scope_graph.proofs.found.members_of.Goals as goal

pub loop_body-requires-clause-closed : goal.loop_body-requires-clause-closed
loop_body-requires-clause-closed c = λ u v edge. let low = c.requires.closed u v edge in let wide = c.requires.wide in let long = length-map c.args.table.now (λ (row : Vec ℕ Global). row.items) in omega arith

pub loop_body-requires-clause-sources : goal.loop_body-requires-clause-sources
loop_body-requires-clause-sources c = λ u h there. let low = c.requires.sources u h there in let wide = c.requires.wide in omega arith

pub loop_members-requires-clause-low : goal.loop_members-requires-clause-low
loop_members-requires-clause-low c = λ m marked.
    let b = c.in_ok-body-in-Loop.ensures in
    let there : IsMarked c.in_ok-body-in-Loop.body.items m = subst (λ (xs : List Bool). IsMarked xs m) c.deref.ensures.value marked in
    elim (b.marked m there) [
      | inl e ↦ subst (λ (n : ℕ). n < length c.args.graph.now.nodes) (sym e) c.requires.inside
      | inr r ↦ returns_low (rows_of c.args.table.now) c.args.back.now (plan_of c.args.graph.now) (length c.args.graph.now.nodes) c.args.header m c.requires.closed c.requires.sources r
    ]

pub returns-in_ok-body-in-Loop : goal.returns-in_ok-body-in-Loop
returns-in_ok-body-in-Loop c =
    let rows = rows_of c.args.table.now in
    let back = c.args.back.now in
    let plan = plan_of c.args.graph.now in
    let count = length c.args.graph.now.nodes in
    let h = c.args.header in
    let b : IsBackward rows back h c.deref.result.now = rw c.deref.ensures.value c.in_ok-body-in-Loop.ensures in
    rw c.in-Loop.is
    (IfOk-weaker c.loop_members.result (λ marks. MarksExactly count (IsTaken plan c.deref.result.now) marks.items) (λ marks. MarksExactly count (IsMember rows back plan Loop h) marks.items)
    (λ marks m. loop_marks rows back plan count h c.deref.result.now marks.items b m) c.loop_members.ensures)
