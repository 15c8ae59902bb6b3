-- `cache FILE`: what the runs of the program cost with the misses of an instruction cache.
--   cache_shape given            the cache
--   IsCacheLeftAt program rows costs shape policy turns outcome   places are left after so many turns, and the outcome
--       tells the scope of the first one
--   CacheMeans program rows costs shape policy turns meaning      nodes at which each access hits and a bound, or that
--       places are left
--   caching given                the order of work
--   TellsCache given files text  the promise: the text tells hits and a bound that are right for the program's runs
--   cache given                  the task
use Rattle.std.specs.Prelude.{◌≡◌, ℕ, List, Result, Ok, Err}
use Rattle.flow_base.specs.Outside.{Files}
use Rattle.alf_check.specs.declared.rows.InputRow.{InputRow}
use Rattle.alf_check.specs.CheckedPrograms.{NumberedProgram}
use Rattle.alf_check.specs.Inputs.{KeepInputs}
use Rattle.flow_graph.specs.Numbering.{GraphParts, IsGraph}
use Rattle.cost_table.specs.CostTables.{CostTable}
use Rattle.worklist_rules.specs.declared.policy.Policy.{Policy}
use Rattle.line_cache.specs.declared.shape.Shape.{Shape}
use Rattle.cached_runs.specs.Answers.{CacheLines, Told, Unbounded as LeftIn}
use Rattle.cache_analysis.specs.Analyses.{IsCacheAnalysis}
use Rattle.cache_analysis.specs.Sound.{IsSoundCache}
use Rattle.command_plans.specs.Outcome.{Outcome, Unbounded}
use Rattle.command_plans.specs.Work.{Work, judged, done, ◌>>=◌}
use Rattle.program_files.specs.Told.{IsToldProgram}
use Rattle.answer_texts.specs.ScopeLines.{left_line}
use Rattle.answer_texts.specs.CacheText.{cache_text}
use Rattle.command_files.specs.Scopes.{ScopedProgram}
use Rattle.command_files.specs.LaidOut.{laid_out_in}
use Rattle.command_files.specs.Tables.{tables_in, AreInputs, AreCosts}
use Rattle.sweet_cli.specs.Words.{CacheWords}
use Rattle.sweet_cli.specs.Analyse.{policy_of}
use Rattle.sweet_cli.specs.Task.{Task, names_read}

-- the cache
abbrev pub cache_shape : CacheWords → Shape
cache_shape given = record { sets = given.sets; ways = given.ways; line = given.line; penalty = given.penalty }

-- places are left after so many turns, and the outcome tells the scope of the first one
pub record IsCacheLeftAt (program : ScopedProgram) (rows : List InputRow) (costs : CostTable) (shape : Shape)
    (policy : Policy)
    (turns : ℕ) (outcome : Outcome) : Type 0 where
  pub scope : ℕ
  pub left : IsCacheAnalysis program.expanded.program program.expanded.graph rows shape costs policy turns (LeftIn scope)
  pub line : outcome ≡ record { cause = Unbounded; text = left_line program.expanded.graph program.scoped.scopes scope }

-- what the exploration tells of the cache, or that places are left
abbrev pub CacheMeans : ScopedProgram → List InputRow → CostTable → Shape → Policy → ℕ → Result CacheLines Outcome
    → Type 0
CacheMeans program rows costs shape policy turns (Ok lines) =
    IsCacheAnalysis program.expanded.program program.expanded.graph rows shape costs policy turns (Told lines)
CacheMeans program rows costs shape policy turns (Err outcome) = IsCacheLeftAt program rows costs shape policy turns outcome

unfoldable pub caching : CacheWords → Work (List ℕ)
caching given = do
  program ← laid_out_in given.program given.root
  tables ← tables_in program.expanded.program given.inputs given.costs
  lines ← judged (CacheMeans program tables.rows tables.costs (cache_shape given) (policy_of given.merging) given.turns)
  done (cache_text lines)

-- the text tells hits and a bound for the program that the file gives, by the files that the words name: those that the
-- policy's exploration finds with the rule of the recorder of misses. Each run from inputs inside the ranges ends, and
-- whatever the cache has at first, the run costs with the penalties of its misses no more than the bound, and each
-- access at a node that is told hits
pub record TellsCache (given : CacheWords) (files : Files) (text : List ℕ) : Type 0 where
  pub program : NumberedProgram
  pub graph : GraphParts
  pub rows : List InputRow
  pub costs : CostTable
  pub lines : CacheLines
  pub program_told : IsToldProgram given.program given.root files program
  pub graph_is : IsGraph program graph
  pub rows_told : AreInputs given.inputs files program rows
  pub rows_keep : KeepInputs program rows
  pub costs_told : AreCosts given.costs files program costs
  pub shown : text ≡ cache_text lines
  pub found : IsCacheAnalysis program graph rows (cache_shape given) costs (policy_of given.merging) given.turns (Told lines)
  pub sound : IsSoundCache program graph rows (cache_shape given) costs lines

abbrev pub cache : CacheWords → Task
cache given = record { work = caching given; names = names_read given.program given.inputs given.costs; Promise = TellsCache given }
