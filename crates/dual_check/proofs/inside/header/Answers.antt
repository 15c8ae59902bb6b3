-- What is left to show of `header`.
use Rattle.std.proofs.Common.{ap, sym}
use Rattle.std.proofs.lemmas.Option.{get_or_from_slice_get}
use Rattle.domain_core.specs.declared.outline.ScopeRow.{ScopeRow}
use Rattle.domain_core.specs.Outlines.{no_scope}
use Rattle.dual_check.proofs.inside.header.Goals as goal

pub returns : goal.returns
returns c = sym (ap (λ (row : ScopeRow). row.header) (get_or_from_slice_get c.args.outline.now.scopes c.args.scope c.scope.result.now no_scope c.scope.ensures))
