-- What the bound asks for.
use Rattle.std.proofs.Common.{◌^◌, List, length, pos, refl, subst}
use Rattle.std.specs.Prelude.{◌<ℤ◌}
use Rattle.flow_facts.specs.declared.fact.Fact.{Fact}
use Rattle.simplex_rules.specs.OutlineOpenings.{AreLimited}
use Rattle.path_lp.specs.Bounding.{opening_sum}
use Rattle.fact_tests.proofs.ready.ready_bound.Goals as goal

pub path_bound-requires-clause-limited : goal.path_bound-requires-clause-limited
path_bound-requires-clause-limited c =
    subst (λ (facts : List Fact). AreLimited (length c.args.outline.now.nodes) facts) c.deref.ensures.value (c.if-not-is_ready.ensures.limited refl)

pub path_bound-requires-clause-room : goal.path_bound-requires-clause-room
path_bound-requires-clause-room c =
    subst (λ (facts : List Fact). opening_sum c.args.outline.now facts <ℤ pos (2 ^ 64)) c.deref.ensures.value (c.if-not-is_ready.ensures.room refl)
