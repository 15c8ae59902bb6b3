-- One pool has one report, however many turns there are.
--   one_report       two policy runs of one pool leave one report
--   longer_report    where no place is left, each number of turns that is not below the steps leaves the same
use Rattle.std.proofs.Common.{◌≡◌, ◌≤◌, ℕ, List, [], ap, subst}
use Rattle.domain_core.specs.declared.event.Event.{Event}
use Rattle.domain_core.specs.Orders.{Order}
use Rattle.domain_core.specs.Machines.{Machine}
use Rattle.flow_facts.specs.Reports.{Reported}
use Rattle.worklist_rules.specs.declared.policy.Policy.{Policy}
use Rattle.worklist_rules.specs.Pools.{Pooled}
use Rattle.worklist_rules.specs.Policies.{IsPolicyRun}
use Rattle.worklist_rules.specs.PolicyLaws.{run_unique, closed_longer}
use Rattle.report_soundness.specs.ReportTold.{FourRecorders, FourBooks, four_order, four_recording, found_of, told_report}

-- the report of what a pool has collected
abbrev pub report_of : {S T : Type 0} → Pooled S T FourRecorders FourBooks → Reported
report_of w = told_report w.outline (found_of w)

module _ {S T C : Type 0} (machine : S → Machine T C) (states : Order T) (policy : Policy) where
  pub one_report : (turns : ℕ) (old new other : Pooled S T FourRecorders FourBooks) (events others : List Event)
      → IsPolicyRun machine states four_order four_recording policy turns old events new
      → IsPolicyRun machine states four_order four_recording policy turns old others other → report_of new ≡ report_of other
  one_report turns old new other events others first second =
      ap (λ (w : Pooled S T FourRecorders FourBooks). report_of w) (run_unique machine states four_order four_recording policy turns events others old new other first second).1

  pub longer_report : (turns more : ℕ) (old new other : Pooled S T FourRecorders FourBooks) (events others : List Event)
      → new.steps ≤ more
      → IsPolicyRun machine states four_order four_recording policy turns old events new → new.spots ≡ [] → IsPolicyRun machine states four_order four_recording policy more old others other
      → (other.spots ≡ []) × (report_of new ≡ report_of other)
  longer_report turns more old new other events others enough first none second =
      let again = closed_longer machine states four_order four_recording policy turns more events old new enough first none in
      let same = (run_unique machine states four_order four_recording policy more events others old new other again second).1 in
      (subst (λ (w : Pooled S T FourRecorders FourBooks). w.spots ≡ []) same none, ap (λ (w : Pooled S T FourRecorders FourBooks). report_of w) same)
