-- An exploration in which each place is looked at before it is stepped.
--   EndsPool                        a pool of a program's stepper, with a recorder that keeps nothing
--   parts_with checked graph rows   the stepper's parts
--   IsPoolOf checked graph rows w   a pool of this stepper
--   IsTurn checked graph ends old new   an event led from the old pool to the new one, and the memory of the ends stands for what the place
--       that it stepped leaves
--   IsWatched checked graph rows o ends w   so did events from the start
--   IsWatchedFor turns points ..    and there are no more steps than turns; the flags are those of the merge points
use Rattle.std.specs.Prelude.{◌≡◌, ◌≤◌, ℕ, Bool, List, Option}
use Rattle.alf_check.specs.declared.rows.InputRow.{InputRow}
use Rattle.alf_check.specs.CheckedPrograms.{CheckedParts}
use Rattle.flow_graph.specs.Numbering.{GraphParts}
use Rattle.domain_core.specs.declared.event.Event.{Event}
use Rattle.domain_core.specs.Outlines.{Outlined, shape_of}
use Rattle.worklist_rules.specs.declared.policy.Policy.{Policy}
use Rattle.worklist_rules.specs.Pools.{Pooled}
use Rattle.worklist_rules.specs.Events.{opened, Happens}
use Rattle.abstract_exec.specs.Points.{AreMergePoints}
use Rattle.abstract_exec.specs.Explorations.{IsPool}
use Rattle.memory_model.specs.KeptMemories.{MemoryParts}
use Rattle.memory_model.specs.SeenOrders.{parts_order}
use Rattle.abstract_step.specs.Steppers.{StepperParts, stepped_by}
use Rattle.watched_steps.specs.Watched.{Watches, WatchesStep}
use Rattle.left_ends.specs.Silence.{silent_order, silent_recording}
use Rattle.left_ends.specs.Seen.{AreEnds, EndsIn}

-- a pool of a program's stepper
abbrev pub EndsPool : Type 0
EndsPool = Pooled StepperParts MemoryParts (Unit {0}) (Unit {0})

abbrev pub parts_with : CheckedParts → GraphParts → List InputRow → StepperParts
parts_with checked graph rows = record { checked = checked; graph = graph; rows = rows }

-- of this one
pub record IsPoolOf (checked : CheckedParts) (graph : GraphParts) (rows : List InputRow) (w : EndsPool) : Type 0 where
  pub pool : IsPool stepped_by silent_recording w
  pub stepper : w.stepper ≡ parts_with checked graph rows

-- an event led from the old pool to the new one
pub record IsTurn (checked : CheckedParts) (graph : GraphParts) (ends : Option MemoryParts) (old new : EndsPool) : Type 0 where
  pub event : Event
  pub happens : Happens stepped_by parts_order silent_order silent_recording old event new
  pub watches : WatchesStep (EndsIn checked graph ends) old event

-- so did events from the start
pub record IsWatched (checked : CheckedParts) (graph : GraphParts) (rows : List InputRow) (o : Outlined) (ends : Option MemoryParts)
    (w : EndsPool) : Type 0 where
  pub of : IsPoolOf checked graph rows w
  pub outline : w.outline ≡ o
  pub are : AreEnds checked ends
  pub events : List Event
  pub watched : Watches (EndsIn checked graph ends) stepped_by parts_order silent_order silent_recording
      (opened stepped_by silent_recording (parts_with checked graph rows) o) events w

-- in so many turns
pub record IsWatchedFor (turns : ℕ) (policy : Policy) (points : List Bool) (checked : CheckedParts) (graph : GraphParts) (rows : List InputRow)
    (o : Outlined) (ends : Option MemoryParts) (w : EndsPool) : Type 0 where
  pub watched : IsWatched checked graph rows o ends w
  pub steps : w.steps ≤ turns
  pub points_are : AreMergePoints (shape_of o) policy points
