-- The text that tells a run has one meaning.
use Rattle.std.proofs.Common.{◌≡◌, ◌≤◌, ℕ, List, length, Result, Ok, Err, Option, Some, ap, sym, ◌∙◌}
use Rattle.alf_check.specs.declared.rows.InputRow.{InputRow}
use Rattle.alf_runs.specs.Outcomes.{Outcome as RunOutcome}
use Rattle.alf_runs.specs.Steps.{Moment}
use Rattle.alf_runs.specs.Runs.{cost_of}
use Rattle.alf_runs.specs.RunLaws.{HasOneEnd, EndsAtItsLength}
use Rattle.alf_interp.specs.Traces.{Runs, IsPast, last_of}
use Rattle.alf_interp.specs.Counts.{outcome_of}
use Rattle.alf_interp.specs.declared.tally.Tally.{Tally}
use Rattle.cost_table.specs.CostTables.{CostTable}
use Rattle.program_machines.specs.NodeCosts.{node_cost}
use Rattle.command_plans.specs.Outcome.{Outcome, Unbounded, AreAlike, AreAlikeResults}
use Rattle.command_plans.specs.Work.{IsOnly, alike}
use Rattle.program_files.specs.Expanding.{Expanded}
use Rattle.answer_texts.specs.RunText.{run_text}
use Rattle.command_files.specs.Scopes.{ScopedProgram}
use Rattle.sweet_cli.specs.LeftLines.{unbounded_line}
use Rattle.sweet_cli.specs.Run.{IsLeft, RunMeans, IsRunText, low_start}
use Rattle.sweet_cli.specs.Counting.{CountsRun}
use Rattle.sweet_cli.proofs.Numbers.{Differ, runs_one, past_not, past_one}

-- ---- one meaning

-- the line of the node that comes after so many
pub left_of : (program : ScopedProgram) (begin : Moment) (turns n : ℕ) (text : List ℕ)
    → IsPast program.expanded.program program.expanded.graph.nodes begin turns n
    → text ≡ unbounded_line program n → IsLeft program begin turns (record { cause = Unbounded; text = text })
left_of program begin turns n text past is = record { node = n; past = past; line = λ i. record { cause = Unbounded; text = is i } }

module _ (one : HasOneEnd) (law : EndsAtItsLength) (program : ScopedProgram) (apart : Differ program.expanded.graph.nodes) (costs : CostTable) (turns : ℕ) where
  -- the line of a run with more nodes than the turns
  abbrev left_at : ℕ → Outcome
  left_at n = record { cause = Unbounded; text = unbounded_line program n }

  -- a run has one such line
  lefts_one : (begin : Moment) (x y : Outcome) → IsLeft program begin turns x → IsLeft program begin turns y
      → AreAlike x y
  lefts_one begin x y h k =
      let same = past_one program.expanded.program program.expanded.graph.nodes apart begin turns h.node k.node h.past k.past in
      alike x y (h.line ∙ ap left_at same ∙ sym k.line)

  left_not : (begin : Moment) (trace : List ℕ) (outcome : RunOutcome) (o : Outcome)
      → Runs program.expanded.program program.expanded.graph.nodes begin trace outcome → length trace ≤ turns
      → IsLeft program begin turns o → ⊥
  left_not begin trace outcome o runs within left = past_not law program.expanded.program program.expanded.graph.nodes begin turns trace outcome runs within left.node left.past

  module _ (rows : List InputRow) where
    texts_one : (a b : List ℕ) → IsRunText program.expanded rows costs turns a
        → IsRunText program.expanded rows costs turns b → a ≡ b
    texts_one a b h k =
        let same = runs_one one program.expanded.program program.expanded.graph.nodes apart (low_start program.expanded.program rows) h.trace k.trace h.outcome k.outcome h.runs k.runs in
        let cost = ap (cost_of (node_cost program.expanded.program costs)) same.run_is in
        h.shown
        ∙ ap (λ (trace : List ℕ). run_text program.expanded (last_of trace) h.outcome (length trace) (cost_of (node_cost program.expanded.program costs) h.runs.run)) same.trace_is
        ∙ ap (λ (outcome : RunOutcome). run_text program.expanded (last_of k.trace) outcome (length k.trace) (cost_of (node_cost program.expanded.program costs) h.runs.run)) same.outcome_is
        ∙ ap (run_text program.expanded (last_of k.trace) k.outcome (length k.trace)) cost ∙ sym k.shown

    -- the text of a run is the only meaning
    pub text_only : (text : List ℕ) → IsRunText program.expanded rows costs turns text
        → IsOnly (RunMeans program rows costs turns) (Ok text)
    text_only text h = record { means = h; only = only }
      where
        only : (y : Result (List ℕ) Outcome) → RunMeans program rows costs turns y → AreAlikeResults (Ok text) y
        only (Ok other) k = texts_one text other h k
        only (Err o) k = left_not (low_start program.expanded.program rows) h.trace h.outcome o h.runs h.within k

    pub past_only : (o : Outcome) → IsLeft program (low_start program.expanded.program rows) turns o
        → IsOnly (RunMeans program rows costs turns) (Err o)
    past_only o h = record { means = h; only = only }
      where
        only : (y : Result (List ℕ) Outcome) → RunMeans program rows costs turns y → AreAlikeResults (Err o) y
        only (Ok k) is = left_not (low_start program.expanded.program rows) is.trace is.outcome o is.runs is.within h
        only (Err p) k = lefts_one (low_start program.expanded.program rows) o p h k

-- ---- a tally

-- what is told of a tally tells the run
pub texted : (expanded : Expanded) (rows : List InputRow) (costs : CostTable) (turns : ℕ) (tally : Tally) (text : List ℕ) → CountsRun expanded costs (low_start expanded.program rows) turns tally
    → text ≡ run_text expanded (Some tally.last) (outcome_of tally.end) tally.turns tally.cost → IsRunText expanded rows costs turns text
texted expanded rows costs turns tally text h is = record {
  trace = h.trace;
  outcome = outcome_of tally.end;
  runs = h.runs;
  within = h.within;
  shown = is ∙ ap (λ (o : Option ℕ). run_text expanded o (outcome_of tally.end) tally.turns tally.cost) (sym h.last)
      ∙ ap (λ (n : ℕ). run_text expanded (last_of h.trace) (outcome_of tally.end) n tally.cost) h.turned
      ∙ ap (run_text expanded (last_of h.trace) (outcome_of tally.end) (length h.trace)) h.cost;
}
