-- What is left to show of `scopes_are_entered_at_their_headers`.
use Rattle.std.proofs.Common.{inl, inr}
use Rattle.graph_walks.specs.ListLaws.{same_or_not}
use Rattle.domain_core.specs.ScopeLaws.{scope_entered}
use Rattle.domain_core.proofs.laws.scopes_are_entered_at_their_headers.Goals as goal

pub returns : goal.returns
returns c = λ plan ok h u v header edge low held. elim (same_or_not v h) [ inl e ↦ inl e | inr other ↦ inr (scope_entered plan ok c.args.kind h header u v edge low other held) ]
