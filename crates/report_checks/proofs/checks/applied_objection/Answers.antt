-- What is answered from the events on.
use Rattle.std.proofs.Common.{Option, ℕ, subst}
use Rattle.std.specs.Prelude.{IfSome, IfNone}
use Rattle.worklist_rules.specs.Events.{HappenAll}
use Rattle.flow_facts.specs.Reports.{certificate_of, reported}
use Rattle.report_soundness.specs.ReportTold.{four_order, four_recording}
use Rattle.report_checks.specs.Applied.{IsRefusedAt}
use Rattle.report_checks.proofs.Answering.{refused_check, same_outline, applied_check}
use Rattle.report_checks.proofs.checks.applied_objection.Goals as goal

pub returns-in-Some : goal.returns-in-Some
returns-in-Some g c =
    let m = g.S.Stepper.machine in
    let states = g.S.State.Lattice.order in
    let is = subst (λ (t : Option ℕ). IfSome t (λ k. IsRefusedAt m states c.in_ok-pool.pool c.deref.result.now k c.applied.new.pool)) c.in-Some.is c.in_ok-k.ensures.some in
    refused_check m states c.args.stepper.now c.args.outline.now (reported c.args.report.now) (certificate_of c.args.cert.now) c.requires.cert c.requires.shape c.in_ok-pool.pool c.deref.result.now
    c.in_ok-pool.ensures.opened c.deref.ensures.value c.applied.new.pool c.in-Some.k is

pub end_objection-requires-clause-outline : goal.end_objection-requires-clause-outline
end_objection-requires-clause-outline g c =
    let m = g.S.Stepper.machine in
    let states = g.S.State.Lattice.order in
    let happen = subst (λ (t : Option ℕ). IfNone t (HappenAll m states four_order four_recording c.in_ok-pool.pool c.deref.result.now c.applied.new.pool)) c.in_default.is c.in_ok-k.ensures.all in
    same_outline m states c.args.stepper.now c.args.outline.now (reported c.args.report.now) (certificate_of c.args.cert.now) c.requires.cert c.requires.shape c.in_ok-pool.pool c.deref.result.now
    c.in_ok-pool.ensures.opened c.deref.ensures.value c.applied.new.pool happen

pub returns : goal.returns
returns g c =
    let m = g.S.Stepper.machine in
    let states = g.S.State.Lattice.order in
    let happen = subst (λ (t : Option ℕ). IfNone t (HappenAll m states four_order four_recording c.in_ok-pool.pool c.deref.result.now c.applied.new.pool)) c.in_default.is c.in_ok-k.ensures.all in
    applied_check m states c.args.stepper.now c.args.outline.now (reported c.args.report.now) (certificate_of c.args.cert.now) c.requires.cert c.requires.shape c.in_ok-pool.pool c.deref.result.now
    c.in_ok-pool.ensures.opened c.deref.ensures.value c.applied.new.pool c.in_ok-objection.objection happen c.in_ok-objection.ensures
