use Rattle.std.proofs.Common.{refl}
use Rattle.report_objections.specs.declared.objection.Objection.TheVariants.{NoCountBound, NoPathBound}
use Rattle.run_replays.specs.Replays.{objects, passes}
use Rattle.run_replays.proofs.ending.bounded.Goals as goal

pub returns-then-report-cost : goal.returns-then-report-cost
returns-then-report-cost c = objects NoCountBound (record { above = c.if-report-cost.true; is = refl }) refl

pub returns-in-Some : goal.returns-in-Some
returns-in-Some c =
    passes c.if-report-cost.false
    (objects NoPathBound (record { bound = (c.in-Some.bound, c.in-Some.field-0-1); bound_is = c.in-Some.is; above = c.if-bound-cost.true; is = refl }) refl)
