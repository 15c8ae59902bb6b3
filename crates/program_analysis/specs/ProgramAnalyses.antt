-- What an analysis finds of a program with numbers in place of names.
--   IsAnalysis program graph rows costs policy turns answer   an exploration of the program, by the policy in so many turns, finds this answer
--   HasOneAnalysis                so finds each other one
--   StaysAnalysed                 a report is found in each number of turns that is not below the steps of its exploration
--   HasOneEventList               analyses of a program that find a report have one list of events, whatever the turns
use Rattle.std.proofs.Common.{◌≡◌, ◌≤◌, ℕ, List, map}
use Rattle.alf_check.specs.declared.rows.InputRow.{InputRow}
use Rattle.alf_check.specs.CheckedPrograms.{CheckedParts, NumberedProgram, seen}
use Rattle.alf_check.specs.Kept.{IsKept}
use Rattle.alf_check.specs.Inputs.{KeepInputs}
use Rattle.flow_graph.specs.Numbering.{GraphParts, IsGraph}
use Rattle.cost_table.specs.CostTables.{CostTable}
use Rattle.domain_core.specs.Outlines.{Outlined, IsOutline, shape_of}
use Rattle.domain_core.specs.OutlineOf.{IsOutlineOf}
use Rattle.scope_graph.specs.Placing.{plan_of}
use Rattle.flow_facts.specs.Reports.{Reported}
use Rattle.worklist_rules.specs.declared.policy.Policy.{Policy}
use Rattle.program_machines.specs.NodeCosts.{HasCosts}
use Rattle.program_analysis.specs.Answers.{Answer, Told, Unbounded}
use Rattle.program_analysis.specs.Analyses.{IsFound}
use Rattle.program_analysis.specs.TwinMachines.{IsProgramOf}

-- an exploration of the program, by the policy in so many turns, finds this answer
pub record IsAnalysis (program : NumberedProgram) (graph : GraphParts) (rows : List InputRow) (costs : CostTable)
    (policy : Policy) (turns : ℕ) (answer : Answer) : Type 0 where
  -- the parts of the program as they are checked, and the outline of its graph with names and costs
  pub checked : CheckedParts
  pub keeps : IsKept (seen checked)
  pub graph_is : IsGraph (seen checked) graph
  pub inputs : KeepInputs (seen checked) rows
  pub outline : Outlined
  pub program_is : IsProgramOf program checked
  pub outline_kept : IsOutline (shape_of outline)
  pub outline_is : IsOutlineOf (plan_of graph) (shape_of outline)
  pub names : map (λ row. row.name.items) outline.nodes ≡ graph.names
  pub costs_are : HasCosts program graph costs outline
  pub found : IsFound (record { checked = checked; graph = graph; rows = rows }) outline policy turns answer

-- so finds each other one
abbrev pub HasOneAnalysis : Type 0
HasOneAnalysis = (program : NumberedProgram) (graph : GraphParts) (rows : List InputRow) (costs : CostTable) (policy : Policy) (turns : ℕ) (a b : Answer)
    → IsAnalysis program graph rows costs policy turns a → IsAnalysis program graph rows costs policy turns b → a ≡ b

-- a report is found in no fewer turns than its exploration makes steps, and in each number of turns that is not below
-- them
abbrev pub StaysAnalysed : Type 0
StaysAnalysed = (program : NumberedProgram) (graph : GraphParts) (rows : List InputRow) (costs : CostTable) (policy : Policy) (turns : ℕ) (report : Reported)
    (analysis : IsAnalysis program graph rows costs policy turns (Told report))
    → (analysis.found.pool.steps ≤ turns) × ((more : ℕ) → analysis.found.pool.steps ≤ more → IsAnalysis program graph rows costs policy more (Told report))

-- analyses of a program that find a report have one list of events, whatever the turns
abbrev pub HasOneEventList : Type 0
HasOneEventList = (program : NumberedProgram) (graph : GraphParts) (rows : List InputRow) (costs : CostTable) (policy : Policy) (turns more : ℕ) (a b : Reported)
    (first : IsAnalysis program graph rows costs policy turns (Told a)) (second : IsAnalysis program graph rows costs policy more (Told b)) → first.found.events ≡ second.found.events
