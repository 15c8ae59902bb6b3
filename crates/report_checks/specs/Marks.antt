-- What lines tell of nodes: those with a `dead` or a `total` line are marked, and the faults of alarms are kept by
-- node.
--   total_node fact        the node whose `dead` or `total` line it is
--   marked_at marks node   the marks with that of the node; none where it has one, or is not there
--   marks_if is marks      such marks, if they are there
--   marked_by marks facts  the marks after all lines, if no node had one twice
--   told_one sets fact     the faults with that of an alarm at its node
--   told_by sets facts     those after all lines
--   first_untold told set n faults   the first of the faults that is in the second set alone
use Rattle.std.specs.Prelude.{◌&&◌, not, ℕ, Bool, true, List, [], ◌∷◌, Option, None, Some, slice_index_or, slice_set, if◌then◌else◌}
use Rattle.domain_core.specs.declared.fault_set.FaultSet.{FaultSet}
use Rattle.alf_ops.specs.declared.history.RunFault.{RunFault}
use Rattle.domain_core.specs.FaultSets.{has_fault, with_fault}
use Rattle.flow_facts.specs.declared.fact.Fact.{Fact}
use Rattle.flow_facts.specs.declared.fact.Fact.TheVariants.{Dead, Total, Alarm}
use Rattle.worklist_rules.specs.Pools.{alarm_at}
use Rattle.report_objections.specs.declared.objection.Objection.{Objection}
use Rattle.report_objections.specs.declared.objection.Objection.TheVariants.{NoAlarm}

-- the node whose `dead` or `total` line it is
abbrev pub total_node : Fact → Option ℕ
total_node (Dead n) = Some n
total_node (Total n low high) = Some n
total_node _ = None

-- the marks with that of the node; none where it has one, or is not there
abbrev pub marked_at : List Bool → Option ℕ → Option (List Bool)
marked_at marks None = Some marks
marked_at marks (Some n) = if slice_index_or marks n true then None else Some (slice_set marks n true)

-- such marks, if they are there
abbrev pub marks_if : Bool → List Bool → Option (List Bool)
marks_if is marks = if is then Some marks else None

-- the marks after all lines, if no node had one twice
abbrev pub and_marked : Option (List Bool) → Option ℕ → Option (List Bool)
and_marked None _ = None
and_marked (Some marks) node = marked_at marks node

abbrev pub marked_by : Option (List Bool) → List Fact → Option (List Bool)
marked_by marks [] = marks
marked_by marks (fact ∷ facts) = marked_by (and_marked marks (total_node fact)) facts

-- the faults with that of an alarm at its node
abbrev pub told_one : List FaultSet → Fact → List FaultSet
told_one sets (Alarm n fault) = slice_set sets n (with_fault (alarm_at sets n) fault)
told_one sets _ = sets

-- those after all lines
abbrev pub told_by : List FaultSet → List Fact → List FaultSet
told_by sets [] = sets
told_by sets (fact ∷ facts) = told_by (told_one sets fact) facts

-- the first of the faults that is in the second set alone
abbrev pub first_untold : FaultSet → FaultSet → ℕ → List RunFault → Option Objection
first_untold told set n [] = None
first_untold told set n (fault ∷ more) = if has_fault set fault && not (has_fault told fault) then Some (NoAlarm n fault) else first_untold told set n more
