-- The first node at which a fault lacks an alarm.
use Rattle.std.proofs.Common.{◌≡◌, ◌<◌, List, length, sym, ap, ◌∙◌, arith}
use Rattle.std.specs.List.{list_any}
use Rattle.alf_ops.specs.declared.history.RunFault.{RunFault}
use Rattle.domain_core.specs.declared.fault_set.FaultSet.{FaultSet}
use Rattle.domain_core.specs.FaultSets.{has_fault}
use Rattle.ipet_rows.specs.FirstLaws.{first_here, first_none}
use Rattle.worklist_rules.specs.Pools.{alarm_at}
use Rattle.flow_gathering.specs.Gathering.{found_in}
use Rattle.report_soundness.specs.ReportTold.{all_faults}
use Rattle.report_objections.specs.Objecting.{is_alarm, first_lacking}
use Rattle.report_checks.proofs.MarkLaws.{first_told}
use Rattle.report_checks.proofs.alarms.lacking.Goals as goal

pub returns-in-Some : goal.returns-in-Some
returns-in-Some c =
    let n = c.loop-n.n in
    let facts = c.args.facts.now in
    let set = alarm_at (found_in c.args.found.now).alarms n in
    let test = c.loop-n-test.true in
    let count = c.node_count.ensures in
    let end = c.node_count-n-end.ensures in
    let low : n < c.node_count.result = omega (arith, test, count, end) in
    let told : (fault : RunFault) → has_fault (alarm_at c.deref.result.now n) fault ≡ list_any (λ f. is_alarm n fault f) facts =
    λ fault. ap (λ (sets : List FaultSet). has_fault (alarm_at sets n) fault) c.deref.ensures.value ∙ c.in_ok-sets.ensures.told n fault low in
    sym (first_here n (length c.args.outline.now.nodes) (λ m. first_lacking facts (alarm_at (found_in c.args.found.now).alarms m) m all_faults) c.in-Some.objection c.loop-n.invariant
    (sym (first_told facts (alarm_at c.deref.result.now n) set n all_faults told) ∙ sym c.untold_in.ensures ∙ c.in-Some.is) (omega (arith, test, end)))

pub loop-n-preserved : goal.loop-n-preserved
loop-n-preserved c =
    let n = c.loop-n.n in
    let facts = c.args.facts.now in
    let set = alarm_at (found_in c.args.found.now).alarms n in
    let test = c.loop-n-test.true in
    let count = c.node_count.ensures in
    let end = c.node_count-n-end.ensures in
    let low : n < c.node_count.result = omega (arith, test, count, end) in
    let told : (fault : RunFault) → has_fault (alarm_at c.deref.result.now n) fault ≡ list_any (λ f. is_alarm n fault f) facts =
    λ fault. ap (λ (sets : List FaultSet). has_fault (alarm_at sets n) fault) c.deref.ensures.value ∙ c.in_ok-sets.ensures.told n fault low in
    first_none n (λ m. first_lacking facts (alarm_at (found_in c.args.found.now).alarms m) m all_faults) c.loop-n.invariant
    (sym (first_told facts (alarm_at c.deref.result.now n) set n all_faults told) ∙ sym c.untold_in.ensures ∙ c.in_default.is)
