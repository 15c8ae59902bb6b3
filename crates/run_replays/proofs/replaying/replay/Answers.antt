-- What is told of the values, and then of the run.
use Rattle.std.proofs.Common.{◌∙◌, ℕ, List, refl, subst}
use Rattle.alf_check.specs.CheckedPrograms.{seen}
use Rattle.alf_runs.specs.Starts.{start}
use Rattle.domain_core.specs.Outlines.{shape_of}
use Rattle.flow_facts.specs.Reports.{reported}
use Rattle.report_soundness.specs.ReportTold.{costs_of}
use Rattle.run_replays.specs.Replays.{TellsReplayedRun, objects, passes}
use Rattle.run_replays.proofs.replaying.replay.Goals as goal

pub returns-in-Some : goal.returns-in-Some
returns-in-Some c = objects c.in-Some.objection (rw c.in-Some.is at c.in_ok-objection.ensures.some) refl

pub returns : goal.returns
returns c =
    let program = seen c.args.checked.now in
    passes (rw c.in_default.is at c.in_ok-objection.ensures.none)
    (subst (λ (words : List ℕ). TellsReplayedRun program c.args.graph.now.nodes (start program c.args.rows.now words) (shape_of c.args.outline.now) (costs_of c.args.outline.now) (reported c.args.report.now) c.in_ok-told.told)
    (c.deref.ensures.value ∙ c.in_ok-words.ensures) c.in_ok-told.ensures)
