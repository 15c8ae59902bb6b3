-- What is left to show of `book`.
use Rattle.std.proofs.Common.{◌<◌, ◌^◌, ℕ, List, Option, length, subst, sym, ap, ◌∙◌}
use Rattle.flow_recorders.specs.Chained.{KeysBelow}
use Rattle.flow_recorders.proofs.visits.VisitsRecorder.book.Goals as goal

pub new-requires-clause-scopes : goal.new-requires-clause-scopes
new-requires-clause-scopes g c =
    let keys = g.met.K.Counted.are_keys c.args.outline.now c.kept.ensures in
    subst (λ (xs : List (Option ℕ)). KeysBelow xs (length c.args.outline.now.scopes)) (sym c.in_ok-scopes.ensures) keys.scopes

pub new-requires-clause-nodes : goal.new-requires-clause-nodes
new-requires-clause-nodes g c =
    let keys = g.met.K.Counted.are_keys c.args.outline.now c.kept.ensures in
    subst (λ (xs : List (Option ℕ)). KeysBelow xs (length c.args.outline.now.nodes)) (sym c.in_ok-nodes.ensures) keys.nodes

pub new-requires-clause-few : goal.new-requires-clause-few
new-requires-clause-few g c =
    let keys = g.met.K.Counted.are_keys c.args.outline.now c.kept.ensures in
    subst (λ (xs : List (Option ℕ)). length xs < 2 ^ 32) (sym c.in_ok-scopes.ensures) keys.few

pub new-requires-clause-same_length : goal.new-requires-clause-same_length
new-requires-clause-same_length g c =
    let keys = g.met.K.Counted.are_keys c.args.outline.now c.kept.ensures in
    ap (λ (xs : List (Option ℕ)). length xs) c.in_ok-nodes.ensures ∙ keys.same_length ∙ ap (λ (xs : List (Option ℕ)). length xs) (sym c.in_ok-scopes.ensures)
