-- What is left to show of `around`.
use Rattle.std.proofs.Common.{◌≡◌, ◌<◌, length, ap, arith}
use Rattle.domain_core.specs.Outlines.{Outlined}
use Rattle.domain_core.proofs.Chains.{own_low}
use Rattle.domain_core.proofs.outline.Outline.around.Goals as goal

pub chain-requires-clause-low : goal.chain-requires-clause-low
chain-requires-clause-low c =
    let inside = c.self.inside in
    let low : c.args.node < length inside.nodes.items = (let l = c.requires in let v = c.self.view_is in let e : length inside.nodes.items ≡ length c.args.self.now.nodes = ap (λ (o : Outlined). length o.nodes) v in omega arith) in
    rw c.deref.ensures.value (own_low (record { edges = inside.edges.items; nodes = inside.nodes.items; scopes = inside.scopes.items; notes = inside.notes.items }) c.self.invariant.0 c.args.node c.index.result.now low c.index.ensures)
