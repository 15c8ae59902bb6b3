-- What is left to show of `is_ready`.
use Rattle.std.proofs.Common.{◌<◌, ◌≤◌, ℕ, List, Contains, length, get_or, ◌∙◌, subst, arith}
use Rattle.graph_walks.specs.ListLaws.{same_default}
use Rattle.graph_walks.specs.TableLaws.{row_is, row_edge}
use Rattle.scope_graph.proofs.ranks.is_ready.Goals as goal

pub bounds-ranks-before : goal.bounds-ranks-before
bounds-ranks-before c =
    let row = c.deref-before-items.result.now in
    let k = c.loop-before.before-index in
    c.requires.within (get_or row k 0) c.args.node (row_edge c.args.into.now c.args.node c.index-into-node.result row c.requires.inside c.index-into-node.is c.deref-before-items.ensures.value k 0 c.loop-before-test.true)

pub returns-clause-ready : goal.returns-clause-ready
returns-clause-ready c = λ e u there.
    let row = c.deref-before-items.result.now in
    let is = row_is c.args.into.now c.args.node c.index-into-node.result row c.requires.inside c.index-into-node.is c.deref-before-items.ensures.value in
    let at : Contains row u = subst (λ (xs : List ℕ). Contains xs u) is there in
    let low : get_or c.args.ranks.now (get_or row at.0 0) 0 < c.args.rank =
    c.loop-before.invariant at.0 (let inside = at.1 in let done : length row ≤ c.loop-before.before-index = c.loop-before-test.false in omega arith) in
    subst (λ (v : ℕ). get_or c.args.ranks.now v 0 < c.args.rank) (same_default row at.0 0 u at.1 ∙ at.2) low
