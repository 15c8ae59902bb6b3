-- What is counted of a run.
--   outcome_of end                  the outcome that is told
--   IsTally nodes costs trace outcome tally   the tally is that of a run with these nodes and this outcome
--   IsCounted program nodes costs start turns tally   so it is of the run from the start, which has no more nodes than the turns
--   Tells program nodes costs start turns counted     what is told of the run from the start
use Rattle.std.specs.Prelude.{◌≡◌, ◌<◌, ◌≤◌, ℕ, List, length, Some, slice_index}
use Rattle.alf_check.specs.CheckedPrograms.{NumberedProgram}
use Rattle.flow_graph.specs.Nodes.{Node}
use Rattle.alf_runs.specs.Outcomes.{Outcome, Ended, Faulted}
use Rattle.alf_runs.specs.Steps.{Moment}
use Rattle.alf_interp.specs.Telling.{outputs_of}
use Rattle.alf_interp.specs.declared.tally.RunEnd.{RunEnd}
use Rattle.alf_interp.specs.declared.tally.RunEnd.TheVariants as ends
use Rattle.alf_interp.specs.declared.tally.Tally.{Tally}
use Rattle.alf_interp.specs.declared.tally.Counted.{Counted}
use Rattle.alf_interp.specs.declared.tally.Counted.TheVariants as told
use Rattle.alf_interp.specs.Traces.{Runs, IsPast, places_of, last_of, cost_of}

-- the outcome that is told
abbrev pub outcome_of : RunEnd → Outcome
outcome_of (ends.Returned outputs) = Ended (outputs_of outputs)
outcome_of (ends.Faulted fault) = Faulted fault

-- the counts have for each node how often it stands in the trace
pub record AreCounts (nodes : List Node) (trace counts : List ℕ) : Type 0 where
  pub one_each : length counts ≡ length nodes
  pub each : (n : ℕ) → n < length counts → slice_index counts n ≡ places_of trace n

-- the tally is that of a run with these nodes and this outcome
pub record IsTally (nodes : List Node) (costs trace : List ℕ) (outcome : Outcome) (tally : Tally) : Type 0 where
  pub counts : AreCounts nodes trace tally.counts.items
  pub turns : tally.turns ≡ length trace
  pub cost : tally.cost ≡ cost_of costs trace
  pub last : last_of trace ≡ Some tally.last
  pub end : outcome ≡ outcome_of tally.end

-- so it is of the run from the start, which has no more nodes than the turns
pub record IsCounted (program : NumberedProgram) (nodes : List Node) (costs : List ℕ) (start : Moment) (turns : ℕ)
    (tally : Tally) : Type 0 where
  pub trace : List ℕ
  pub outcome : Outcome
  pub runs : Runs program nodes start trace outcome
  pub within : length trace ≤ turns
  pub tallies : IsTally nodes costs trace outcome tally

-- what is told of the run from the start: its tally, or that it has more nodes than the turns
abbrev pub Tells : NumberedProgram → List Node → List ℕ → Moment → ℕ → Counted → Type 0
Tells program nodes costs start turns (told.Over tally) = IsCounted program nodes costs start turns tally
Tells program nodes costs start turns (told.Left n) = IsPast program nodes start turns n
