-- What is left to show of `join`.
use Rattle.std.proofs.Common.{length, sym, ap, ◌∙◌}
use Rattle.recorder_rules.specs.PairRules.{Sightings}
use Rattle.pair_recorder.proofs.Formed.{sighted_count}
use Rattle.pair_recorder.proofs.pairs.PairsLattice.join.Goals as goal

pub joined-requires-clause-counts : goal.joined-requires-clause-counts
joined-requires-clause-counts c =
    sym (sighted_count c.self.inside.form) ∙ ap (λ (z : Sightings). length z.seen) c.self.view_is ∙ c.requires
    ∙ ap (λ (z : Sightings). length z.seen) (sym c.other.view_is) ∙ sighted_count c.other.inside.form
