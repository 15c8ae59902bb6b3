-- Reports that hold of each run that was collected, and when they are sound.
--   trace_low        the nodes of a trace are those of the outline
--   node_in          a node of the shape is one of the outline
--   SummedUp o found past   a run that is over was collected: the books have it, and its nodes were stepped
--   HoldsOfCollected o found report   such a run meets each fact and costs no more than the count bound, and faults that were told have alarms
--   collected_sound  where no place is left, a report that holds so is sound
use Rattle.std.proofs.Common.{◌≡◌, ◌<◌, ◌≤◌, ℕ, List, [], ◌∷◌, Option, Some, None, true, length, reverse, All, Contains, sym, ◌∙◌, subst, arith}
use Rattle.std.proofs.lemmas.List.{reverse-append, length-map}
use Rattle.lists.specs.MemberLaws.{no_member, first_member, first_or_further}
use Rattle.alf_ops.specs.declared.history.RunFault.{RunFault}
use Rattle.domain_core.specs.FaultSets.{has_fault}
use Rattle.domain_core.specs.Outlines.{Outlined, Shape, shape_of, IsOutline}
use Rattle.domain_core.specs.Traces.{IsTrace}
use Rattle.domain_core.specs.Machines.{Machine}
use Rattle.flow_facts.specs.declared.fact.Fact.TheVariants.{Alarm}
use Rattle.flow_facts.specs.Facts.{Meets}
use Rattle.flow_facts.specs.Reports.{Reported}
use Rattle.ipet_rows.specs.Uses.{run_cost}
use Rattle.report_soundness.specs.BookTold.{SumUp}
use Rattle.worklist_rules.specs.Pools.{Pooled, alarm_at}
use Rattle.worklist_rules.specs.Runs.{AllStepped, EachIsHandled}
use Rattle.worklist_rules.specs.EndedRuns.{FaultIsTold, IsSummed}
use Rattle.worklist_rules.specs.SummedLaws.{each_is_summed}
use Rattle.report_soundness.specs.ReportTold.{FourRecorders, FourBooks, four_recording, Found, found_of, costs_of}
use Rattle.report_soundness.specs.Runs.{HasAlarm, IsRightOf, IsSound}

-- the nodes of a trace are those of the outline
pub trace_low : (o : Shape) → IsOutline o → (past : List ℕ) → IsTrace o past → (n : ℕ) → Contains past n
    → n < length o.own
trace_low o ok [] walk n there = no_member n there
trace_low o ok (m ∷ []) walk n there = first_or_further m [] n there (λ same. let some = ok.some in omega (arith, same, walk, some)) (λ none. no_member n none)
trace_low o ok (m ∷ k ∷ past) walk n there =
    first_or_further m (k ∷ past) n there (λ same. let low = walk.1 in omega (arith, same, low)) (λ older. trace_low o ok (k ∷ past) walk.2 n older)

-- a node of the shape is one of the outline
pub node_in : (o : Outlined) (n : ℕ) → n < length (shape_of o).own → n < length o.nodes
node_in o n low = let same : length (shape_of o).own ≡ length o.nodes = length-map o.nodes (λ row. row.scope) in omega (arith, low, same)

-- a run that is over was collected
pub record SummedUp (o : Outlined) (found : Found) (past : List ℕ) : Type 0 where
  pub kept : IsOutline (shape_of o)
  pub walk : IsTrace (shape_of o) past
  pub books : SumUp o found.books past
  pub stepped : AllStepped found.stepped past

-- ---- runs that were collected

-- each run that was collected meets each fact and costs no more than the count bound, and faults that were told have
-- alarms
pub record HoldsOfCollected (o : Outlined) (found : Found) (report : Reported) : Type 0 where
  pub facts : (past : List ℕ) → SummedUp o found past → All (Meets (shape_of o) (reverse past)) report.facts
  pub bound : (past : List ℕ) → SummedUp o found past → run_cost (costs_of o) (reverse past) ≤ report.count_bound
  pub alarms : (n : ℕ) (fault : RunFault) → n < length o.nodes → has_fault (alarm_at found.alarms n) fault ≡ true
      → Contains report.facts (Alarm n fault)

summed_up : (o : Outlined) (book : FourBooks) (past : List ℕ) → four_recording.sums_up o book past → SumUp o (record { totals = book.first.first; loops = book.first.second; counts = book.second.first; pairs = book.second.second }) past
summed_up o book past sums = record { totals = sums.0.0; loops = sums.0.1; counts = sums.1.0; pairs = sums.1.1 }

-- a fault that was told at the last node has an alarm there
has_alarm_at : (o : Outlined) (found : Found) (report : Reported) → HoldsOfCollected o found report
    → (past trace : List ℕ) (n : ℕ) (fault : Option RunFault)
    → n < length o.nodes → reverse (n ∷ past) ≡ trace → FaultIsTold found.alarms n fault → HasAlarm report.facts trace fault
has_alarm_at o found report holds past trace n None low turned told = tt
has_alarm_at o found report holds past trace n (Some kind) low turned told =
    record { before = reverse past; node = n; last = sym turned ∙ reverse-append (n ∷ []) past; among = holds.alarms n kind low told }

-- the report is right of a run that was summed up
right_of : {S T : Type 0} (w : Pooled S T FourRecorders FourBooks) (report : Reported) → IsOutline (shape_of w.outline)
    → HoldsOfCollected w.outline (found_of w) report
    → (trace : List ℕ) (fault : Option RunFault) → IsSummed four_recording w trace fault → IsRightOf w.outline report trace fault
right_of w report ok holds trace fault is =
    let nodes : List ℕ = is.last ∷ is.past in
    let run : SummedUp w.outline (found_of w) nodes = record { kept = ok; walk = is.walk; books = summed_up w.outline w.book nodes is.summed; stepped = is.stepped } in
    let low = node_in w.outline is.last (trace_low (shape_of w.outline) ok nodes is.walk is.last (first_member is.last is.past)) in
    record {
      facts = subst (λ (xs : List ℕ). All (Meets (shape_of w.outline) xs) report.facts) is.turned (holds.facts nodes run);
      alarm = has_alarm_at w.outline (found_of w) report holds is.past trace is.last fault low is.turned is.told;
      bound = subst (λ (xs : List ℕ). run_cost (costs_of w.outline) xs ≤ report.count_bound) is.turned (holds.bound nodes run);
    }

-- where no place is left, a report that holds of each run that was collected is sound
pub collected_sound : {S T C : Type 0} (machine : S → Machine T C) (w : Pooled S T FourRecorders FourBooks) (report : Reported) → IsOutline (shape_of w.outline)
    → EachIsHandled machine four_recording w → w.spots ≡ [] → HoldsOfCollected w.outline (found_of w) report → IsSound (machine w.stepper).system w.outline report
collected_sound machine w report ok handled empty holds =
    let each = each_is_summed machine four_recording w handled empty in
    record {
      ends = each.ends;
      right = λ c trace fault starts passes. right_of w report ok holds trace fault (each.right c trace fault starts passes);
    }
