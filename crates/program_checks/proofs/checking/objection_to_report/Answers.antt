use Rattle.std.proofs.Common.{subst}
use Rattle.flow_facts.specs.Reports.{reported}
use Rattle.memory_model.specs.SeenOrders.{parts_order}
use Rattle.abstract_step.specs.Steppers.{StepperParts, stepped_by}
use Rattle.report_objections.specs.Checks.{IsChecked}
use Rattle.report_objections.specs.Accepted.{IsSoundWithPath}
use Rattle.program_checks.proofs.SoundLaws.{sound_report}
use Rattle.program_checks.proofs.checking.objection_to_report.Goals as goal

pub returns-clause-answer : goal.returns-clause-answer
returns-clause-answer c =
    subst (λ (s : StepperParts). IsChecked stepped_by parts_order s c.args.outline.now (reported c.args.report.now) c.in_ok-objection.objection) c.in_ok-stepper.ensures c.in_ok-objection.ensures.answer

pub returns-clause-sound : goal.returns-clause-sound
returns-clause-sound c =
    let parts : StepperParts = record { checked = c.args.checked.now; graph = c.args.graph.now; rows = c.args.rows.now } in
    λ none costs priced. sound_report c.sound_reports_are_sound_for_the_program.ensures parts c.args.outline.now costs (reported c.args.report.now) c.keeps.ensures c.requires.graph priced
    (subst (λ (s : StepperParts). IsSoundWithPath (stepped_by s).system c.args.outline.now (reported c.args.report.now)) c.in_ok-stepper.ensures (c.in_ok-objection.ensures.sound none))
