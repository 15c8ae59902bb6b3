-- What is left to show of `is_under`.
use Rattle.std.proofs.Common.{sym, ◌∙◌}
use Rattle.std.proofs.lemmas.Bool.{false≢true}
use Rattle.std.proofs.lemmas.Bool.Decides.{Decides-eqb}
use Rattle.std.proofs.lemmas.Slice.Eq.{starts_is}
use Rattle.scope_graph.proofs.Placed.{read_path, extends_from, from_extends}
use Rattle.scope_graph.proofs.place.is_under.Goals as goal

pub returns-clause-yes : goal.returns-clause-yes
returns-clause-yes c = λ e.
    let path = c.node.result.path.now in
    let front = c.node-2.result.path.now in
    let cut = (starts_is Decides-eqb path front c.starts_with.result c.starts_with.ensures.value).0 e in
    rw (read_path c.args.graph.now c.args.n path c.node.result.block c.node.ensures.node, read_path c.args.graph.now c.args.header front c.node-2.result.block c.node-2.ensures.node) (extends_from path front _ cut)

pub returns-clause-no : goal.returns-clause-no
returns-clause-no c = λ e extends.
    let path = c.node.result.path.now in
    let front = c.node-2.result.path.now in
    let cut = from_extends path front (rw (read_path c.args.graph.now c.args.n path c.node.result.block c.node.ensures.node, read_path c.args.graph.now c.args.header front c.node-2.result.block c.node-2.ensures.node) at extends) in
    false≢true (sym e ∙ (starts_is Decides-eqb path front c.starts_with.result c.starts_with.ensures.value).1 cut.0 cut.1)
