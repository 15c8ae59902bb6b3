-- On the way to the laws of sound.
--   accesses_same    along an outline with the notes of the code, the accesses are those of the code
--   sound_for        why
--   sound_of   why the lines are sound
use Rattle.std.proofs.Common.{◌≡◌, ◌≤◌, ◌+◌, ◌*◌, ℕ, List, Contains, get_or, sym, ap, ◌∙◌, subst}
use Rattle.alf_check.specs.declared.rows.InputRow.{InputRow}
use Rattle.alf_check.specs.CheckedPrograms.{NumberedProgram, seen}
use Rattle.alf_check.specs.Kept.{IsKept}
use Rattle.flow_graph.specs.Nodes.{Node}
use Rattle.flow_graph.specs.Numbering.{GraphParts, IsGraph}
use Rattle.alf_runs.specs.Steps.{Moment}
use Rattle.alf_runs.specs.Runs.{cost_of}
use Rattle.alf_interp.specs.Traces.{Runs, AreNumbersOf}
use Rattle.cost_table.specs.CostTables.{CostTable}
use Rattle.domain_core.specs.Outlines.{Outlined}
use Rattle.transfer_rules.specs.Points.{run_system, moment_at, points}
use Rattle.transfer_rules.specs.PointLaws.{Promises}
use Rattle.program_machines.specs.NodeCosts.{node_cost, HasCosts}
use Rattle.program_machines.specs.ProgramRunLaws.{program_run, stands_there}
use Rattle.program_analysis.specs.SoundLaws.{passes_runs, same_cost}
use Rattle.line_cache.specs.declared.shape.Shape.{Shape}
use Rattle.line_cache.specs.Lines.{sets_of, ways_of, penalty_of, lines_of}
use Rattle.line_cache.specs.Lru.{Contents, IsContents, Access, missed_of, accesses_past}
use Rattle.line_cache.specs.Traced.{accesses_along}
use Rattle.line_cache.specs.PartLineLaws.{lines_are}
use Rattle.code_layout.specs.Layouts.{parts_of}
use Rattle.cached_runs.specs.Answers.{CacheLines}
use Rattle.cached_runs.specs.CachedRuns.{IsBoundFor, AreSoundLines as IsSoundSystem}
use Rattle.cache_analysis.specs.CodeAccesses.{code_lines, code_accesses, HasCodeNotes}
use Rattle.cache_analysis.specs.Sound.{IsRightFor, IsSoundCache}
use Rattle.cache_analysis.specs.SoundLaws.{SoundForSystemIsSound}

module _ (program : NumberedProgram) (graph : GraphParts) (shape : Shape) (o : Outlined) (noted : HasCodeNotes program graph shape o) where
  sets_same : sets_of o ≡ shape.sets
  sets_same = ap (λ (notes : List ℕ). get_or notes 0 0) noted

  ways_same : ways_of o ≡ shape.ways
  ways_same = ap (λ (notes : List ℕ). get_or notes 1 0) noted

  penalty_same : penalty_of o ≡ shape.penalty
  penalty_same = ap (λ (notes : List ℕ). get_or notes 2 0) noted

  lines_same : lines_of o ≡ code_lines program graph shape.line
  lines_same = λ i n. lines_are shape (parts_of program graph) o noted n i

  -- along the outline the accesses are those of the code
  pub accesses_same : (c : Contents) (trace : List ℕ)
      → accesses_along o c trace ≡ code_accesses program graph shape c trace
  accesses_same c trace =
      ap (λ (sets : ℕ). accesses_past sets (ways_of o) (lines_of o) c trace) sets_same
      ∙ ap (λ (ways : ℕ). accesses_past shape.sets ways (lines_of o) c trace) ways_same
      ∙ ap (λ (lines : ℕ → List ℕ). accesses_past shape.sets shape.ways lines c trace) lines_same

  -- what is contents of the cache is contents by the outline
  contents_same : (c : Contents) → IsContents shape.sets shape.ways c → IsContents (sets_of o) (ways_of o) c
  contents_same c fits =
      subst (λ (sets : ℕ). IsContents sets (ways_of o) c) (sym sets_same) (subst (λ (ways : ℕ). IsContents shape.sets ways c) (sym ways_same) fits)

  -- what a run costs with its misses
  right_for : (costs : CostTable) (lines : CacheLines) (trace : List ℕ) (run : List Node) (c : Contents)
      → HasCosts program graph costs o → AreNumbersOf graph.nodes trace run
      → IsBoundFor o lines trace c → IsRightFor program graph shape costs lines trace run c
  right_for costs lines trace run c priced numbers bounded =
      let accesses = accesses_same c trace in
      let cost = same_cost program graph costs o trace run priced numbers in
      let with_cost = subst (λ (k : ℕ). k + penalty_of o * missed_of (accesses_along o c trace) ≤ lines.bound) cost bounded.bound in
      let with_penalty = subst (λ (p : ℕ). cost_of (node_cost program costs) run + p * missed_of (accesses_along o c trace) ≤ lines.bound) penalty_same with_cost in
      record {
        bound = subst (λ (all : List Access). cost_of (node_cost program costs) run + shape.penalty * missed_of all ≤ lines.bound) accesses with_penalty;
        hits = λ a there among. bounded.hits a (subst (λ (all : List Access). Contains all a) (sym accesses) there) among;
      }

-- why the lines are sound
pub sound_of : Promises → (program : NumberedProgram) (graph : GraphParts) (rows : List InputRow) (shape : Shape) (o : Outlined) (costs : CostTable) (lines : CacheLines)
    → IsKept program → IsGraph program graph → HasCodeNotes program graph shape o → HasCosts program graph costs o → IsSoundSystem (run_system program graph rows) o lines
    → IsSoundCache program graph rows shape costs lines
sound_of promises program graph rows shape o costs lines keeps is noted priced sound start from =
    let run = sound.ends (points program graph start) (program_run promises program graph keeps is rows start from) in
    let so = passes_runs program graph rows run.passes in
    let begins : start ≡ moment_at graph 0 run.start = stands_there promises program graph keeps is rows start from 0 0 run.start run.here in
    let runs : Runs program graph.nodes start run.trace so.outcome = subst (λ (m : Moment). Runs program graph.nodes m run.trace so.outcome) (sym begins) so.runs in
    record {
      trace = run.trace;
      outcome = so.outcome;
      runs = runs;
      right = λ c fits.
          right_for program graph shape o noted costs lines run.trace runs.run c priced runs.numbers
          (sound.right run.start run.trace run.fault run.starts run.passes c (contents_same program graph shape o noted c fits));
    }

pub sound_for : Promises → SoundForSystemIsSound
sound_for promises parts shape o costs lines keeps is noted priced sound = sound_of promises (seen parts.checked) parts.graph parts.rows shape o costs lines keeps is noted priced sound
