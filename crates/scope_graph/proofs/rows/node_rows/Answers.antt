-- What is left to show of `node_rows`.
use Rattle.std.proofs.Common.{◌≡◌, ◌++◌, ◌∷◌, [], get_or, refl, arith}
use Rattle.std.proofs.lemmas.Grind.{common_steps}
use Rattle.domain_core.specs.declared.outline.NodeRow.{NodeRow}
use Rattle.scope_graph.specs.Inner.{lists_of}
use Rattle.scope_graph.proofs.Assembling.{owned_more}
use Rattle.scope_graph.proofs.rows.node_rows.Goals as goal

pub loop-n-preserved : goal.loop-n-preserved
loop-n-preserved c =
    let row : NodeRow = record { scope = c.own_scope-scope.result; rank = get_or c.args.ranks.now c.loop-n.n 0; cost = 0; name = c.in_ok-name.name } in
    let pushed : c.push.new.self.items ≡ c.loop-n.nodes.items ++ row ∷ [] = grind (arith, common_steps) in
    rw pushed (owned_more c.loop-n.n c.args.graph.now.names c.args.rows.now (lists_of c.args.holds.now) c.args.ranks.now c.loop-n.nodes.items row c.loop-n.invariant c.own_scope-scope.ensures refl c.in_ok-name.ensures refl)
