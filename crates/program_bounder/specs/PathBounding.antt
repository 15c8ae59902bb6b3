-- Path bounds as a bounding: which areas suit, what is answered of them, and what inputs cost.
--   Promises            what is promised of analyses and runs of programs
--   given_program b     the program of the bounder
--   Suits b area        the area has a range for each row, the rows with these ranges keep the rules of inputs, and what
--       the bounder is given is what an analysis asks for
--   path_bounding b     the bounding
--   HasOneSearch b      a search from the ranges of the rows has one answer, whatever the splits
use Rattle.std.specs.Prelude.{◌≡◌, ◌≤◌, ℕ, Result, length}
use Rattle.alf_check.specs.CheckedPrograms.{NumberedProgram, seen}
use Rattle.alf_check.specs.Inputs.{KeepInputs}
use Rattle.alf_check.specs.Kept.{IsKept}
use Rattle.flow_graph.specs.Numbering.{IsGraph}
use Rattle.alf_runs.specs.RunLaws.{HasOneEnd}
use Rattle.domain_core.specs.Outlines.{IsOutline, shape_of}
use Rattle.domain_core.specs.OutlineOf.{IsOutlineOf}
use Rattle.scope_graph.specs.Placing.{plan_of}
use Rattle.program_machines.specs.NodeCosts.{HasCosts}
use Rattle.program_analysis.specs.AnalysisLaws.{names_of}
use Rattle.program_analysis.specs.Bounds.{most_turns}
use Rattle.program_analysis.specs.LoneAnalyses.{LoneAnalysisIsExact}
use Rattle.program_analysis.specs.BoundedAnalyses.{HasOneBoundedAnalysis}
use Rattle.program_analysis.specs.BoundedSound.{FoundReportsAreRight, LoneBoundsAgree}
use Rattle.worst_inputs.specs.Areas.{Area}
use Rattle.worst_inputs.specs.Bounders.{Bounding}
use Rattle.program_bounder.specs.declared.bounder.PathBounder.{PathBounder}
use Rattle.worst_inputs.specs.Searches.{Searched, IsAnswer}
use Rattle.program_bounder.specs.InputRows.{ranges_of, with_ranges}
use Rattle.program_bounder.specs.InputCosts.{RunsCost}
use Rattle.program_bounder.specs.PathBounds.{path_answers}

-- what is promised of analyses and runs of programs
pub record Promises : Type 0 where
  -- a report that is found is sound
  pub right : FoundReportsAreRight
  -- a program has one answer
  pub one : HasOneBoundedAnalysis
  -- of one input alone an analysis tells exactly its run, and both bounds are one number
  pub exact : LoneAnalysisIsExact
  pub agree : LoneBoundsAgree
  -- a run that ends has one end
  pub ends : HasOneEnd

-- the program of the bounder
abbrev pub given_program : PathBounder → NumberedProgram
given_program b = seen b.checked

-- the bounder may be asked of the area
pub record Suits (b : PathBounder) (area : Area) : Type 0 where
  pub promises : Promises
  -- the area has a range for each row, and the rows with these ranges keep the rules of inputs
  pub long : length area ≡ length b.rows.items
  pub inputs : KeepInputs (seen b.checked) (with_ranges b.rows.items area)
  -- what an analysis asks for
  pub keeps : IsKept (seen b.checked)
  pub graph_is : IsGraph (seen b.checked) b.graph
  pub outline_kept : IsOutline (shape_of b.outline)
  pub outline_is : IsOutlineOf (plan_of b.graph) (shape_of b.outline)
  pub named : names_of b.outline ≡ b.graph.names
  pub costs_are : HasCosts (given_program b) b.graph b.costs b.outline
  pub turns : b.turns ≤ most_turns

-- path bounds as a bounding
abbrev pub path_bounding : PathBounder → Bounding
path_bounding b = record {
  suits = Suits b;
  answers = path_answers (given_program b) b.graph b.rows.items b.costs b.policy b.turns b.pivots;
  costs = RunsCost (given_program b) b.graph b.rows.items b.costs;
}

-- a search from the ranges of the rows has one answer, whatever the splits
abbrev pub HasOneSearch : PathBounder → Type 0
HasOneSearch b = (splits : ℕ) (first second : Result Searched ℕ)
    → IsAnswer (path_bounding b).answers (ranges_of b.rows.items) splits first
    → IsAnswer (path_bounding b).answers (ranges_of b.rows.items) splits second → first ≡ second
