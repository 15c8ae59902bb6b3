-- What the verdict promises follows from which verdict it is.
use Rattle.ipet_rows.specs.VerdictLaws.{verdict_bounds}
use Rattle.dual_check.proofs.duals.verify.Goals as goal

pub returns-clause-bounds : goal.returns-clause-bounds
returns-clause-bounds c =
    verdict_bounds c.args.rows.now.program c.args.duals.now.scale c.args.duals.now.multipliers.items c.args.bound c.verdict_on_duals.result c.kept.ensures.within c.requires.scale c.verdict_on_duals.ensures
