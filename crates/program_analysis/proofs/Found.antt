-- A report that is given its path bound is found, with the events of its exploration and the multipliers of the bound.
use Rattle.std.proofs.Common.{◌≡◌, ℕ, ℤ, List, IfOk, Result, Ok, Err, sym, subst}
use Rattle.domain_core.specs.declared.event.Event.{Event}
use Rattle.domain_core.specs.Outlines.{Outlined}
use Rattle.flow_facts.specs.Reports.{Certificate, Reported, reported, certificate_of}
use Rattle.worklist_rules.specs.declared.policy.Policy.{Policy}
use Rattle.abstract_step.specs.Steppers.{StepperParts}
use Rattle.program_analysis.specs.Analyses.{IsClosedBy}
use Rattle.program_analysis.specs.declared.bounded.BoundedAnalysis.{BoundedAnalysis}
use Rattle.program_analysis.specs.declared.bounded.BoundedAnalysis.TheVariants.{Told, Unbounded}
use Rattle.program_analysis.specs.BoundedAnalyses.{IsBoundWith, IsFoundWith, IsAnsweredWith}

-- the certificate of events and multipliers
abbrev pub made_with : List Event → ℤ × List ℤ → Certificate
made_with events duals = record { events = events; scale = duals.0; multipliers = duals.1 }

-- a certificate with these parts is that one
pub same_certificate : (cert : Certificate) (events : List Event) (scale : ℤ) (multipliers : List ℤ)
    → cert.events ≡ events → cert.scale ≡ scale → cert.multipliers ≡ multipliers
    → cert ≡ made_with events (scale, multipliers)
same_certificate cert events scale multipliers e s m = λ i. record { events = e i; scale = s i; multipliers = m i }

module _ (parts : StepperParts) (o : Outlined) (policy : Policy) (turns pivots : ℕ) (given : Reported) (events : List Event) (closed : IsClosedBy parts o policy turns given events) where
  found_at : (analysed : BoundedAnalysis) → IsAnsweredWith analysed (IsBoundWith o given events pivots)
      → IsFoundWith parts o policy turns pivots analysed
  found_at (Told report cert) bound = record {
    given = given;
    closed = closed.closed;
    bound = subst (λ (es : List Event). IsBoundWith o given es pivots (reported report) (certificate_of cert)) (sym closed.events_are) bound;
  }
  found_at (Unbounded scope) bound = absurd bound

  pub found_bounded : {E : Type 0} (result : Result BoundedAnalysis E)
      → IfOk result (λ analysed. IsAnsweredWith analysed (IsBoundWith o given events pivots))
      → IfOk result (λ analysed. IsFoundWith parts o policy turns pivots analysed)
  found_bounded (Ok analysed) bound = found_at analysed bound
  found_bounded (Err error) bound = tt
