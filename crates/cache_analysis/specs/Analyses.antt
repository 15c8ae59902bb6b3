-- What an analysis of a program with an instruction cache finds.
--   IsCacheAnalysis program graph rows shape costs policy turns answer   an exploration of the program with the rule of `miss_recording`, by the
--       policy in so many turns, finds this answer
--   HasOneAnalysis        so finds each other one
-- The code has a program in parts, which lie in memory as they do: here any that are seen as the program will do.
use Rattle.std.specs.Prelude.{◌≡◌, ℕ, List}
use Rattle.alf_check.specs.declared.rows.InputRow.{InputRow}
use Rattle.alf_check.specs.CheckedPrograms.{CheckedParts, NumberedProgram, seen}
use Rattle.alf_check.specs.Kept.{IsKept}
use Rattle.flow_graph.specs.Numbering.{GraphParts, IsGraph}
use Rattle.cost_table.specs.CostTables.{CostTable}
use Rattle.domain_core.specs.Outlines.{Outlined, shape_of}
use Rattle.domain_core.specs.OutlineOf.{IsOutlineOf}
use Rattle.scope_graph.specs.Placing.{plan_of}
use Rattle.worklist_rules.specs.declared.policy.Policy.{Policy}
use Rattle.memory_model.specs.SeenOrders.{parts_order}
use Rattle.abstract_step.specs.Steppers.{stepped_by}
use Rattle.program_machines.specs.NodeCosts.{HasCosts}
use Rattle.program_analysis.specs.TwinMachines.{IsProgramOf}
use Rattle.line_cache.specs.declared.shape.Shape.{Shape}
use Rattle.cached_runs.specs.Answers.{CacheAnswer}
use Rattle.cached_runs.specs.CachedRuns.{IsFound}
use Rattle.cache_analysis.specs.CodeAccesses.{HasCodeNotes}

-- an exploration of the program, by the policy in so many turns, finds this answer
pub record IsCacheAnalysis (program : NumberedProgram) (graph : GraphParts) (rows : List InputRow) (shape : Shape)
    (costs : CostTable) (policy : Policy) (turns : ℕ) (answer : CacheAnswer) : Type 0 where
  -- the parts of the program as they are checked, and the outline of its graph with costs and the lines of its nodes
  pub checked : CheckedParts
  pub keeps : IsKept (seen checked)
  pub graph_is : IsGraph (seen checked) graph
  pub outline : Outlined
  pub program_is : IsProgramOf program checked
  pub outline_is : IsOutlineOf (plan_of graph) (shape_of outline)
  pub costs_are : HasCosts program graph costs outline
  pub noted : HasCodeNotes program graph shape outline
  pub found : IsFound stepped_by parts_order (record { checked = checked; graph = graph; rows = rows }) outline policy turns answer

-- so finds each other one
abbrev pub HasOneAnalysis : Type 0
HasOneAnalysis = (program : NumberedProgram) (graph : GraphParts) (rows : List InputRow) (shape : Shape) (costs : CostTable) (policy : Policy) (turns : ℕ) (a b : CacheAnswer)
    → IsCacheAnalysis program graph rows shape costs policy turns a → IsCacheAnalysis program graph rows shape costs policy turns b → a ≡ b
