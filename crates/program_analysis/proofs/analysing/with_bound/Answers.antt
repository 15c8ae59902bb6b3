-- The report has its path bound, and the certificate the events and the multipliers of the bound.
use Rattle.std.proofs.Common.{rules, ℤ, List, FitsSigned, ap, subst, sym, ◌∙◌}
use Rattle.std.specs.Int.{w128}
use Rattle.std.proofs.lemmas.Int.{to_z-of_z}
use Rattle.std.specs.Prelude.{All}
use Rattle.domain_core.specs.declared.event.Event.{Event}
use Rattle.flow_facts.specs.Reports.{Certificate, certificate_of}
use Rattle.flow_facts.specs.Writable.{EventIsWritable, IsLong, CertificateIsWritable}
use Rattle.dual_check.specs.Openings.{system_of}
use Rattle.path_lp.specs.Bounding.{AreHeld}
use Rattle.program_analysis.proofs.Found.{made_with, same_certificate}
use Rattle.program_analysis.proofs.analysing.with_bound.Goals as goal

pub returns-clause-found : goal.returns-clause-found
returns-clause-found c =
    let bounded = c.in_ok-bounded.ensures in
    let events = c.args.events.items in
    let duals = c.in_ok-bounded.bounded.duals in
    let made = c.certificate-cert.ensures in
    let same = same_certificate (certificate_of c.certificate-cert.result) events duals.scale duals.multipliers.items made.events made.scale made.multipliers in
    record {
      bounded = bounded.told;
      cert_is = same ∙ ap (made_with events) bounded.duals;
      held = subst (λ (cert : Certificate). AreHeld (system_of c.args.outline.now c.args.report.facts.items).program cert.scale cert.multipliers) (sym same) bounded.held;
    }

pub returns-clause-writable : goal.returns-clause-writable
returns-clause-writable c = λ writable.
    let events = c.args.events.items in
    let duals = c.in_ok-bounded.bounded.duals in
    let made = c.certificate-cert.ensures in
    let same = same_certificate (certificate_of c.certificate-cert.result) events duals.scale duals.multipliers.items made.events made.scale made.multipliers in
    let fits : FitsSigned w128 c.in_ok-bounded.bounded.duals.scale = search (rules) in
    record {
      report_is = c.in_ok-bounded.ensures.writable writable;
      cert_is = subst CertificateIsWritable (sym same) (record {
        events = subst (λ (es : List Event). All EventIsWritable es) c.deref.ensures.value c.events_fit.ensures;
        scale = rw (to_z-of_z w128 c.in_ok-bounded.bounded.duals.scale fits) at c.scale_fits.ensures;
        multipliers = subst (λ (ys : List ℤ). All IsLong ys) c.deref-2.ensures.value c.multipliers_fit.ensures;
      });
    }
