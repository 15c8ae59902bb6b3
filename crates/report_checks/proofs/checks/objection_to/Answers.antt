-- What is answered before the events, and what follows where nothing speaks against the report.
use Rattle.std.proofs.Common.{◌≡◌, length, true, false, Option, refl, sym, ap, ◌∙◌, subst}
use Rattle.std.specs.Option.{option_map}
use Rattle.flow_facts.specs.declared.certificate.Cert.{Cert}
use Rattle.dual_check.specs.Systems.{System}
use Rattle.flow_facts.specs.Reports.{certificate_of, reported}
use Rattle.report_objections.specs.declared.objection.Objection.{Objection}
use Rattle.report_objections.specs.Checks.{IsChecked, unshaped}
use Rattle.report_checks.proofs.checks.objection_to.Goals as goal

pub returns-then-not-shaped-clause-answer : goal.returns-then-not-shaped-clause-answer
returns-then-not-shaped-clause-answer g c =
    unshaped (certificate_of c.in-Some.cert) (ap (λ (t : Option Cert). option_map certificate_of t) c.in-Some.is)
    (λ shape. let yes = c.in_ok-shaped.ensures.1 shape.shaped in let bad : true ≡ false = sym yes ∙ c.if-not-shaped.true in cc) refl

pub returns-then-len-row_count-clause-answer : goal.returns-then-len-row_count-clause-answer
returns-then-len-row_count-clause-answer g c =
    let count = c.row_count.ensures in
    let len = c.len.ensures in
    let rows = c.in_ok-rows.ensures in
    unshaped (certificate_of c.in-Some.cert) (ap (λ (t : Option Cert). option_map certificate_of t) c.in-Some.is)
    (λ shape. c.if-len-row_count.true (len ∙ c.in-Some.cert.multipliers.ok.0 ∙ shape.multipliers ∙ ap (λ (s : System). length s.program.rows) (sym rows) ∙ sym count)) refl

pub returns-clause-sound : goal.returns-clause-sound
returns-clause-sound g c = λ none.
    c.accepted_reports_are_sound.ensures c.args.stepper.now c.args.outline.now (reported c.args.report.now) c.kept.ensures c.kept-2.ensures c.requires.along c.requires.scaled
    (subst (λ (a : Option Objection). IsChecked g.S.Stepper.machine g.S.State.Lattice.order c.args.stepper.now c.args.outline.now (reported c.args.report.now) a) none c.in_ok-objection.ensures)
