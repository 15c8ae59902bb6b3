-- The report that was found is a told one, and is found with its path bound.
use Rattle.abstract_step.specs.Steppers.{StepperParts}
use Rattle.flow_facts.specs.Reports.{reported}
use Rattle.program_analysis.proofs.BoundedLaws.{told_in}
use Rattle.program_analysis.proofs.Found.{found_bounded}
use Rattle.program_analysis.proofs.analysing.analyse.Goals as goal

pub with_bound-requires : goal.with_bound-requires
with_bound-requires c =
    let parts : StepperParts = record { checked = c.args.checked.now; graph = c.args.graph.now; rows = c.args.rows.now } in
    let o = c.args.outline.now in
    let fit = c.parts_fit.ensures parts o c.keeps.ensures c.requires.graph c.requires.rows c.kept.ensures c.requires.outline in
    let told = rw c.in-Told.is at c.in_ok-report.ensures in
    told_in parts o c.args.policy c.args.turns fit (reported c.in-Told.report) told.found

pub returns-in-Told : goal.returns-in-Told
returns-in-Told c =
    let parts : StepperParts = record { checked = c.args.checked.now; graph = c.args.graph.now; rows = c.args.rows.now } in
    let told = rw c.in-Told.is at c.in_ok-report.ensures in
    record {
      found = found_bounded parts c.args.outline.now c.args.policy c.args.turns c.args.pivots (reported c.in-Told.report) c.in-Told.events.items told.events c.with_bound.result
          c.with_bound.ensures.found;
      writable = c.with_bound.ensures.writable told.writable;
    }
