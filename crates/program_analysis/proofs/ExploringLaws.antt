-- Laws of exploring.
--   closed_in     what is told of it is found, by these events
--   written       an answer of nodes with such names is a report that some text spells
use Rattle.std.specs.Prelude.{All, IfOk, Result, Ok, Err}
use Rattle.program_analysis.specs.declared.analysed.Analysed.{Analysed}
use Rattle.program_analysis.specs.Answers.{Answer, Told, Unbounded, answer_of, IfTold}
use Rattle.std.proofs.Common.{◌≡◌, ◌≤◌, ◌*◌, ◌^◌, ℕ, List, length, refl, arith}
use Rattle.domain_core.specs.declared.event.Event.{Event}
use Rattle.domain_core.specs.Outlines.{Outlined}
use Rattle.flow_graph.specs.Numbering.{most_nodes}
use Rattle.flow_facts.specs.Reports.{Reported}
use Rattle.flow_facts.specs.Writable.{IsNodeName, IsWritable}
use Rattle.worklist_rules.specs.declared.policy.Policy.{Policy}
use Rattle.worklist_rules.specs.PolicyLaws.{run_happens}
use Rattle.worklist_rules.specs.Events.{HappenAll}
use Rattle.memory_model.specs.SeenOrders.{parts_order}
use Rattle.abstract_step.specs.Steppers.{stepped_by}
use Rattle.report_soundness.specs.ReportTold.{four_order, four_recording, found_of, told_report}
use Rattle.program_analysis.specs.Analyses.{PoolOf, first_pool, IsClosedBy}
use Rattle.program_analysis.specs.TwinLaws.{run_same}
use Rattle.program_analysis.specs.Bounds.{most_turns}
use Rattle.program_analysis.proofs.BoundLaws.{has_room}
use Rattle.program_analysis.proofs.LoneLemmas.{HasTurns, run_turns}
use Rattle.program_analysis.specs.Exploring.{IsEnded, IsWritableOf}

module _ (pool : PoolOf) (o : Outlined) (policy : Policy) (turns : ℕ) (events : List Event) (ended : IsEnded pool o policy turns events) where
  pub happened_in : HappenAll stepped_by parts_order four_order four_recording (first_pool pool.stepper o) events pool
  happened_in = run_happens stepped_by parts_order four_order four_recording policy turns events (first_pool pool.stepper o) pool ended.explored

  pub along_in : pool.outline ≡ o
  along_in = run_same stepped_by parts_order four_order four_recording policy turns events (first_pool pool.stepper o) pool ended.explored

  pub room_in : length o.nodes ≤ most_nodes → turns ≤ most_turns → length o.nodes * pool.steps ≤ 2 ^ 31
  room_in few most =
      let turned : HasTurns turns pool = run_turns stepped_by parts_order four_order four_recording policy turns events (first_pool pool.stepper o) pool (omega arith) ended.explored in
      has_room (length o.nodes) pool.steps turns few turned.within most

  pub closed_in : (report : Reported) → report ≡ told_report o (found_of pool)
      → IsClosedBy pool.stepper o policy turns report events
  closed_in report told = record { closed = record { events = events; pool = pool; explored = ended.explored; empty = ended.empty; told = told }; events_are = refl }

written_answer : (o : Outlined) → All (λ row. IsNodeName row.name.items) o.nodes → (answer : Answer)
    → IfTold answer (IsWritableOf o) → IfTold answer IsWritable
written_answer o named (Told report) writable = writable named
written_answer o named (Unbounded scope) writable = tt

-- an answer of nodes with such names is a report that some text spells
pub written : {E : Type 0} (o : Outlined) → All (λ row. IsNodeName row.name.items) o.nodes
    → (result : Result Analysed E) → IfOk result (λ analysed. IfTold (answer_of analysed) (IsWritableOf o))
    → IfOk result (λ analysed. IfTold (answer_of analysed) IsWritable)
written o named (Ok analysed) writable = written_answer o named (answer_of analysed) writable
written o named (Err error) writable = tt
