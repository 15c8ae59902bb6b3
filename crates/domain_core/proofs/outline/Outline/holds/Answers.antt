-- What is left to show of `holds`.
use Rattle.std.proofs.Common.{◌≡◌, ◌<◌, length, ap, arith}
use Rattle.domain_core.specs.Outlines.{Outlined}
use Rattle.domain_core.proofs.Chains.{own_low, holds_by}
use Rattle.domain_core.proofs.outline.Outline.holds.Goals as goal

pub leads_to-requires-clause-low : goal.leads_to-requires-clause-low
leads_to-requires-clause-low c =
    let inside = c.self.inside in
    let low : c.args.node < length inside.nodes.items = (let l = c.requires in let v = c.self.view_is in let e : length inside.nodes.items ≡ length c.args.self.now.nodes = ap (λ (o : Outlined). length o.nodes) v in omega arith) in
    rw c.deref.ensures.value (own_low (record { edges = inside.edges.items; nodes = inside.nodes.items; scopes = inside.scopes.items; notes = inside.notes.items }) c.self.invariant.0 c.args.node c.index.result.now low c.index.ensures)

pub returns : goal.returns
returns c =
    let inside = c.self.inside in
    let low : c.args.node < length inside.nodes.items = (let l = c.requires in let v = c.self.view_is in let e : length inside.nodes.items ≡ length c.args.self.now.nodes = ap (λ (o : Outlined). length o.nodes) v in omega arith) in
    rw (← c.self.view_is)
    (holds_by (record { edges = inside.edges.items; nodes = inside.nodes.items; scopes = inside.scopes.items; notes = inside.notes.items }) c.self.invariant.0 c.args.node c.index.result.now low c.index.ensures c.args.scope c.leads_to.result (rw c.deref.ensures.value at c.leads_to.ensures))
