-- What is counted of a run, in terms of the run.
--   CountsRun expanded costs start turns tally       the tally is that of the run from the start, which has no more nodes than the turns
--   CountedAs expanded rows words costs turns counted   this, of the run whose inputs have these words, or it has more nodes than the turns
use Rattle.std.specs.Prelude.{◌≡◌, ◌<◌, ◌≤◌, ℕ, List, length, Some}
use Rattle.alf_check.specs.declared.rows.InputRow.{InputRow}
use Rattle.alf_runs.specs.Steps.{Moment}
use Rattle.alf_runs.specs.Starts.{start}
use Rattle.alf_runs.specs.Runs.{cost_of}
use Rattle.alf_interp.specs.Traces.{Runs, IsPast, last_of}
use Rattle.alf_interp.specs.Counts.{AreCounts, outcome_of}
use Rattle.alf_interp.specs.declared.tally.Tally.{Tally}
use Rattle.alf_interp.specs.declared.tally.Counted.{Counted}
use Rattle.alf_interp.specs.declared.tally.Counted.TheVariants as told
use Rattle.cost_table.specs.CostTables.{CostTable}
use Rattle.program_machines.specs.NodeCosts.{node_cost}
use Rattle.program_files.specs.Expanding.{Expanded}

-- the tally is that of the run from the start, which has no more nodes than the turns
pub record CountsRun (expanded : Expanded) (costs : CostTable) (start : Moment) (turns : ℕ)
    (tally : Tally) : Type 0 where
  pub trace : List ℕ
  pub runs : Runs expanded.program expanded.graph.nodes start trace (outcome_of tally.end)
  pub within : length trace ≤ turns
  pub counts : AreCounts expanded.graph.nodes trace tally.counts.items
  pub turned : tally.turns ≡ length trace
  pub last : last_of trace ≡ Some tally.last
  pub there : tally.last < length expanded.graph.nodes
  pub cost : tally.cost ≡ cost_of (node_cost expanded.program costs) runs.run

-- so it is of the run whose inputs have these words, or that has more nodes than the turns
abbrev pub CountedAs : Expanded → List InputRow → List ℕ → CostTable → ℕ → Counted → Type 0
CountedAs expanded rows words costs turns (told.Over tally) = CountsRun expanded costs (start expanded.program rows words) turns tally
CountedAs expanded rows words costs turns (told.Left n) = IsPast expanded.program expanded.graph.nodes (start expanded.program rows words) turns n
