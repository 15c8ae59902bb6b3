-- Runs by nodes follow runs of items.
--   AreCut of             the blocks of each function do what its items do, and each label that is named stands
--   FollowsAfter of t history   so many steps by nodes lead where at most as many stretches do
--   ReachesAfter of t history   where so many stretches lead, at least as many steps by nodes lead
--   RunsFollowItems       a run that is over has the outcome of its items, and the other way round
use Rattle.std.specs.Prelude.{◌≡◌, ◌≤◌, ℕ, true, List}
use Rattle.alf_ops.specs.declared.history.RunEvent.{RunEvent}
use Rattle.alf_check.specs.CheckedPrograms.{blocks_at}
use Rattle.alf_check.specs.Numbers.{has_label}
use Rattle.flow_graph.specs.Nodes.{first_node}
use Rattle.alf_runs.specs.Outcomes.{Outcome}
use Rattle.alf_runs.specs.Steps.{At, Over, frames_of}
use Rattle.alf_runs.specs.Runs.{after}
use Rattle.item_runs.specs.Stretches.{IsNamed}
use Rattle.item_runs.specs.Cuts.{IsCut}
use Rattle.item_runs.specs.ItemRuns.{ItemProgram, Done, ticks, at_start}

-- the blocks of each function do what its items do, and each label that is named stands
pub record AreCut (of : ItemProgram) : Type 0 where
  pub cut : (f : ℕ) → IsCut (frames_of of.program) (of.numbers f) (of.items f) (blocks_at of.program f)
  pub stand : (f : ℕ) (label : List ℕ) → IsNamed (of.items f) label → has_label label (of.items f) ≡ true

-- the run by nodes is over after t steps: then that of items is, after at most t stretches, with the same outcome
pub record EndsAlike (of : ItemProgram) (t : ℕ) (history : List RunEvent) (outcome : Outcome) : Type 0 where
  pub count : ℕ
  pub few : count ≤ t
  pub done : ticks of count (at_start of history) ≡ Done outcome

-- the run of items is over after t stretches: then that by nodes is, after at least t steps, with the same outcome
pub record IsOverAlike (of : ItemProgram) (t : ℕ) (history : List RunEvent) (outcome : Outcome) : Type 0 where
  pub count : ℕ
  pub many : t ≤ count
  pub over : after of.program count (At first_node history) ≡ Over outcome

pub record FollowEachOther (of : ItemProgram) (t : ℕ) (history : List RunEvent) (outcome : Outcome) : Type 0 where
  pub ends : after of.program t (At first_node history) ≡ Over outcome → EndsAlike of t history outcome
  pub is_over : ticks of t (at_start of history) ≡ Done outcome → IsOverAlike of t history outcome

-- a run that is over has the outcome of its items, and the other way round
abbrev pub RunsFollowItems : Type 0
RunsFollowItems = (of : ItemProgram) (t : ℕ) (history : List RunEvent) (outcome : Outcome) → AreCut of → FollowEachOther of t history outcome
