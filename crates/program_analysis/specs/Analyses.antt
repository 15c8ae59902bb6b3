-- What an analysis of a program finds: the run of a policy over the pools of its machine, and what is told of it.
--   PoolOf                          the pools of explorations with totals, loops, counts and pairs
--   first_pool parts o              the pool at the start
--   IsExploration parts o policy turns events pool   the policy's events lead from it to the pool, in so many turns
--   IsClosed .. report              no place is left in the end, and the report tells what was collected
--   IsClosedBy .. report events     so it is, by these events
--   IsLeft .. scope                 the turns are used up, and the first place that is left stands in the scope
--   IsFound parts o policy turns answer   the one or the other
use Rattle.std.specs.Prelude.{◌≡◌, ℕ, List, []}
use Rattle.domain_core.specs.declared.event.Event.{Event}
use Rattle.domain_core.specs.Outlines.{Outlined}
use Rattle.flow_facts.specs.Reports.{Reported}
use Rattle.worklist_rules.specs.declared.policy.Policy.{Policy}
use Rattle.worklist_rules.specs.Pools.{Pooled}
use Rattle.worklist_rules.specs.Events.{opened}
use Rattle.worklist_rules.specs.Policies.{IsPolicyRun}
use Rattle.memory_model.specs.KeptMemories.{MemoryParts}
use Rattle.memory_model.specs.SeenOrders.{parts_order}
use Rattle.abstract_exec.specs.Explorations.{IsLeftIn}
use Rattle.abstract_step.specs.Steppers.{StepperParts, stepped_by}
use Rattle.report_soundness.specs.ReportTold.{FourRecorders, FourBooks, four_order, four_recording, found_of, told_report}
use Rattle.program_analysis.specs.Answers.{Answer, Told, Unbounded}

-- the pools of explorations with totals, loops, counts and pairs
abbrev pub PoolOf : Type 0
PoolOf = Pooled StepperParts MemoryParts FourRecorders FourBooks

-- the pool at the start
abbrev pub first_pool : StepperParts → Outlined → PoolOf
first_pool parts o = opened stepped_by four_recording parts o

-- the policy's events lead from it to the pool, in so many turns
abbrev pub IsExploration : StepperParts → Outlined → Policy → ℕ → List Event → PoolOf → Type 0
IsExploration parts o policy turns events pool = IsPolicyRun stepped_by parts_order four_order four_recording policy turns (first_pool parts o) events pool

-- no place is left in the end, and the report tells what was collected
pub record IsClosed (parts : StepperParts) (o : Outlined) (policy : Policy) (turns : ℕ)
    (report : Reported) : Type 0 where
  pub events : List Event
  pub pool : PoolOf
  pub explored : IsExploration parts o policy turns events pool
  pub empty : pool.spots ≡ []
  pub told : report ≡ told_report o (found_of pool)

-- so it is, by these events
pub record IsClosedBy (parts : StepperParts) (o : Outlined) (policy : Policy) (turns : ℕ) (report : Reported)
    (events : List Event) : Type 0 where
  pub closed : IsClosed parts o policy turns report
  pub events_are : closed.events ≡ events

-- the turns are used up, and the first place that is left stands in the scope
pub record IsLeft (parts : StepperParts) (o : Outlined) (policy : Policy) (turns : ℕ) (scope : ℕ) : Type 0 where
  pub events : List Event
  pub pool : PoolOf
  pub explored : IsExploration parts o policy turns events pool
  pub left : IsLeftIn pool scope

-- the one or the other
abbrev pub IsFound : StepperParts → Outlined → Policy → ℕ → Answer → Type 0
IsFound parts o policy turns (Told report) = IsClosed parts o policy turns report
IsFound parts o policy turns (Unbounded scope) = IsLeft parts o policy turns scope
