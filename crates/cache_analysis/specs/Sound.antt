-- When a bound and a list of hits are right for a program, in the words of its runs.
--   IsRightFor program graph shape costs lines trace run c   the run costs with the penalties of its misses no more than the bound, and each
--       access at a node that is told hits, where the cache has c at first
--   IsSoundCacheFor program graph shape costs lines start   the run from the start ends, and so it is of the run for all contents that the cache may have
--   IsSoundCache program graph rows shape costs lines       so it is for each start with inputs inside the ranges of the rows
use Rattle.std.specs.Prelude.{◌≡◌, ◌≤◌, ◌+◌, ◌*◌, true, ℕ, List, Contains}
use Rattle.alf_check.specs.CheckedPrograms.{NumberedProgram}
use Rattle.alf_check.specs.declared.rows.InputRow.{InputRow}
use Rattle.flow_graph.specs.Nodes.{Node}
use Rattle.flow_graph.specs.Numbering.{GraphParts}
use Rattle.alf_runs.specs.Outcomes.{Outcome}
use Rattle.alf_runs.specs.Steps.{Moment}
use Rattle.alf_runs.specs.Starts.{IsStart}
use Rattle.alf_runs.specs.Runs.{cost_of}
use Rattle.alf_interp.specs.Traces.{Runs}
use Rattle.cost_table.specs.CostTables.{CostTable}
use Rattle.program_machines.specs.NodeCosts.{node_cost}
use Rattle.line_cache.specs.declared.shape.Shape.{Shape}
use Rattle.line_cache.specs.Lru.{Contents, IsContents, Access, missed_of}
use Rattle.cached_runs.specs.Answers.{CacheLines}
use Rattle.cache_analysis.specs.CodeAccesses.{code_accesses}

-- the run costs with the penalties of its misses no more than the bound, and each access at a node that is told hits
pub record IsRightFor (program : NumberedProgram) (graph : GraphParts) (shape : Shape) (costs : CostTable)
    (lines : CacheLines) (trace : List ℕ) (run : List Node) (c : Contents) : Type 0 where
  pub bound : cost_of (node_cost program costs) run + shape.penalty * missed_of (code_accesses program graph shape c trace) ≤ lines.bound
  pub hits : (a : Access) → Contains (code_accesses program graph shape c trace) a → Contains lines.hits a.node
      → a.hits ≡ true

-- the run from the start ends, and so it is of the run for all contents that the cache may have at first
pub record IsSoundCacheFor (program : NumberedProgram) (graph : GraphParts) (shape : Shape) (costs : CostTable)
    (lines : CacheLines) (start : Moment) : Type 0 where
  pub trace : List ℕ
  pub outcome : Outcome
  pub runs : Runs program graph.nodes start trace outcome
  pub right : (c : Contents) → IsContents shape.sets shape.ways c
      → IsRightFor program graph shape costs lines trace runs.run c

-- so it is for each start with inputs inside the ranges of the rows
abbrev pub IsSoundCache : NumberedProgram → GraphParts → List InputRow → Shape → CostTable → CacheLines → Type 0
IsSoundCache program graph rows shape costs lines = (start : Moment) → IsStart program rows start → IsSoundCacheFor program graph shape costs lines start
