-- That nothing speaks against the report, or the line of what does, is the only answer.
use Rattle.std.proofs.Common.{List, Ok, Err, Option, None, Some, refl, sym, subst}
use Rattle.alf_check.specs.declared.rows.InputRow.{InputRow}
use Rattle.alf_check.specs.CheckedPrograms.{seen}
use Rattle.alf_check.specs.Inputs.{KeepInputs}
use Rattle.flow_facts.specs.Reports.{reported}
use Rattle.memory_model.specs.SeenOrders.{parts_order}
use Rattle.abstract_step.specs.Steppers.{StepperParts, stepped_by}
use Rattle.report_objections.specs.declared.objection.Objection.{Objection}
use Rattle.report_objections.specs.Checks.{IsChecked}
use Rattle.command_plans.specs.Outcome.{No}
use Rattle.command_plans.specs.Work.{IsOnly}
use Rattle.command_files.specs.Seen.{scoped_of}
use Rattle.sweet_cli.specs.Check.{AcceptMeans, IsAcceptedOf}
use Rattle.sweet_cli.proofs.JudgedChecks.{accepted_only, refused_only, check_of}
use Rattle.sweet_cli.proofs.SoundChecks.{shaped_of, sound_of}
use Rattle.sweet_cli.proofs.commands.check.answered.Goals as goal

pub returns-in_ok-text-in-None-clause-means : goal.returns-in_ok-text-in-None-clause-means
returns-in_ok-text-in-None-clause-means c =
    let program = c.args.program.now in
    let checked = program.expanded.checked in
    let graph = program.expanded.graph in
    let rows = c.as_slice-rows.result.now in
    let costs = c.args.tables.now.costs in
    let report = reported c.args.report.now in
    let text = c.in_ok-text-in-None.text.items in
    let keep = subst (λ (l : List InputRow). KeepInputs (seen checked) l) (sym c.as_slice-rows.ensures.value) c.requires.rows in
    let priced = c.requires.priced (seen checked) c.requires.graph in
    let none = subst (λ (a : Option Objection). IsChecked stepped_by parts_order (record { checked = checked; graph = graph; rows = rows }) program.outline report a) c.in-None.is c.in_ok-found.ensures.answer in
    let found = check_of checked graph rows c.keeps.ensures c.requires.graph keep costs program.outline report None c.kept.ensures c.requires.outline priced none in
    let only = accepted_only c.a_report_has_one_check.ensures (scoped_of program) rows costs report text found c.in_ok-text-in-None.ensures in
    subst (λ (l : List InputRow). IsOnly (AcceptMeans (scoped_of program) l costs report) (Ok text)) c.as_slice-rows.ensures.value only

pub returns-in_ok-text-in-None-clause-sound : goal.returns-in_ok-text-in-None-clause-sound
returns-in_ok-text-in-None-clause-sound c =
    let program = c.args.program.now in
    let checked = program.expanded.checked in
    let graph = program.expanded.graph in
    let costs = c.args.tables.now.costs in
    let report = reported c.args.report.now in
    let priced = c.requires.priced (seen checked) c.requires.graph in
    let sound = c.in_ok-found.ensures.sound c.in-None.is costs (c.requires.priced (seen checked) c.requires.graph) in
    let parts : StepperParts = record { checked = checked; graph = graph; rows = c.as_slice-rows.result.now } in
    let none = subst (λ (a : Option Objection). IsChecked stepped_by parts_order parts program.outline report a) c.in-None.is c.in_ok-found.ensures.answer in
    let shaped = shaped_of stepped_by parts_order parts program.outline report none in
    subst (λ (l : List InputRow). IsAcceptedOf (seen checked) graph l costs report) c.as_slice-rows.ensures.value
    (sound_of checked graph c.as_slice-rows.result.now costs program.outline report c.requires.outline shaped priced sound)

pub returns-in_ok-line-in-Some-clause-means : goal.returns-in_ok-line-in-Some-clause-means
returns-in_ok-line-in-Some-clause-means c =
    let program = c.args.program.now in
    let checked = program.expanded.checked in
    let graph = program.expanded.graph in
    let rows = c.as_slice-rows.result.now in
    let costs = c.args.tables.now.costs in
    let report = reported c.args.report.now in
    let objection = c.in-Some.objection in
    let text = c.in_ok-line-in-Some.line.items in
    let keep = subst (λ (l : List InputRow). KeepInputs (seen checked) l) (sym c.as_slice-rows.ensures.value) c.requires.rows in
    let priced = c.requires.priced (seen checked) c.requires.graph in
    let some = subst (λ (a : Option Objection). IsChecked stepped_by parts_order (record { checked = checked; graph = graph; rows = rows }) program.outline report a) c.in-Some.is c.in_ok-found.ensures.answer in
    let found = check_of checked graph rows c.keeps.ensures c.requires.graph keep costs program.outline report (Some objection) c.kept.ensures c.requires.outline priced some in
    let only = refused_only c.a_report_has_one_check.ensures (scoped_of program) rows costs report objection text found c.in_ok-line-in-Some.ensures in
    (refl, subst (λ (l : List InputRow). IsOnly (AcceptMeans (scoped_of program) l costs report) (Err (record { cause = No; text = text }))) c.as_slice-rows.ensures.value only)
