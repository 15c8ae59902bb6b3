-- What is left to show of `own_scope`.
use Rattle.std.proofs.Common.{◌≡◌, None, Some}
use Rattle.scope_graph.proofs.rows.own_scope.Goals as goal

pub unreachable-requires : goal.unreachable-requires
unreachable-requires c = c.in-None.ensures c.requires.held.0 c.requires.held.1 (c.requires.held.2, λ none. let e : None ≡ Some c.requires.held.0 = none in cc)
