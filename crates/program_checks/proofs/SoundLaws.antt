-- Laws of sound.
--   sound_report                 a report that is sound for the system of the machine, with both bounds, is sound for the program
--   accepted_are_sound           why
use Rattle.std.specs.Prelude.{◌≤◌, nat_lt, ℕ, Option, None, Some, IfSome}
use Rattle.std.proofs.Common.{refl, arith}
use Rattle.std.proofs.lemmas.Bool.{ltb-true, ltb-false}
use Rattle.lists.specs.TestLaws.{by_test}
use Rattle.alf_check.specs.CheckedPrograms.{seen}
use Rattle.alf_check.specs.Kept.{IsKept}
use Rattle.alf_runs.specs.Runs.{cost_of}
use Rattle.cost_table.specs.CostTables.{CostTable}
use Rattle.domain_core.specs.Outlines.{Outlined, shape_of}
use Rattle.domain_core.specs.Machines.{System}
use Rattle.flow_graph.specs.Numbering.{IsGraph}
use Rattle.flow_facts.specs.declared.report.BoundWord.{BoundWord}
use Rattle.flow_facts.specs.Reports.{Reported}
use Rattle.memory_model.specs.SeenOrders.{parts_order}
use Rattle.memory_model.specs.SeenOrderLaws.{parts_are_order}
use Rattle.transfer_rules.specs.PartMachineLaws.{is_part_machine}
use Rattle.abstract_step.specs.Steppers.{StepperParts, stepped_by}
use Rattle.report_soundness.specs.Runs.{IsSound as IsSoundSystem}
use Rattle.report_soundness.specs.Bounded.{with_count_bound}
use Rattle.program_machines.specs.NodeCosts.{node_cost, HasCosts}
use Rattle.program_analysis.specs.SoundLaws.{SoundForSystemIsSound}
use Rattle.program_analysis.specs.LoneLaws.{along_fit}
use Rattle.report_objections.specs.Accepted.{CostAtMost, IsSoundWithPath}
use Rattle.report_objections.specs.SoundLaws.{accepted_sound}
use Rattle.program_checks.specs.Sound.{IsSoundAccepted, AcceptedAreSound}

-- ---- the lesser of both bounds

-- a number that no run costs more than, at most each bound
record IsLesser {C : Type 0} (system : System C) (o : Outlined) (report : Reported)
    (bound : Option (ℕ × BoundWord)) : Type 0 where
  v : ℕ
  count : v ≤ report.count_bound
  path : IfSome bound (λ b. v ≤ b.0)
  sound : IsSoundSystem system o (with_count_bound report v)

lesser : {C : Type 0} (system : System C) (o : Outlined) (report : Reported) → IsSoundSystem system o report
    → (bound : Option (ℕ × BoundWord))
    → IfSome bound (λ b. CostAtMost system o b.0) → IsLesser system o report bound
lesser system o report sound None most = record { v = report.count_bound; count = omega arith; path = tt; sound = sound }
lesser system o report sound (Some b) most =
    by_test (nat_lt b.0 report.count_bound)
    (λ is. record {
      v = b.0;
      count = let low = ltb-true b.0 report.count_bound is in omega (arith, low);
      path = omega arith;
      sound = record {
        ends = sound.ends;
        right = λ c trace fault starts passes. let right = sound.right c trace fault starts passes in record { facts = right.facts; alarm = right.alarm; bound = most c trace fault starts passes };
      };
    })
    (λ is. record { v = report.count_bound; count = omega arith; path = ltb-false b.0 report.count_bound is; sound = sound })

under : (path : Option (ℕ × BoundWord)) (c v : ℕ) → c ≤ v → IfSome path (λ b. v ≤ b.0) → IfSome path (λ b. c ≤ b.0)
under None c v low within = tt
under (Some b) c v low within = omega (arith, low, within)

-- a report that is sound for the system of the machine is sound for the program
pub sound_report : SoundForSystemIsSound → (parts : StepperParts) (o : Outlined) (costs : CostTable) (report : Reported)
    → IsKept (seen parts.checked) → IsGraph (seen parts.checked) parts.graph
    → HasCosts (seen parts.checked) parts.graph costs o → IsSoundWithPath (stepped_by parts).system o report
    → IsSoundAccepted (seen parts.checked) parts.graph parts.rows (shape_of o) costs report
sound_report law parts o costs report keeps is priced sound start from =
    let least = lesser (stepped_by parts).system o report sound.sound report.path_bound sound.path in
    let for = law parts o costs (with_count_bound report least.v) keeps is priced least.sound start from in
    let cost = for.bound in
    let low = least.count in
    record {
      trace = for.trace;
      outcome = for.outcome;
      runs = for.runs;
      facts = for.facts;
      alarm = for.alarm;
      count = omega (arith, cost, low);
      path = under report.path_bound (cost_of (node_cost (seen parts.checked) costs) for.runs.run) least.v cost least.path;
    }

pub accepted_are_sound : SoundForSystemIsSound → AcceptedAreSound
accepted_are_sound law parts o costs report fit priced scaled checked =
    sound_report law parts o costs report fit.kept.machine.keeps fit.kept.machine.is priced
    (accepted_sound stepped_by parts_order parts o report parts_are_order (λ other kept. is_part_machine other.checked other.graph other.rows kept) fit.kept fit.outline (along_fit parts o fit) scaled None refl checked)
