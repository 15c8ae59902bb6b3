-- A program, a report, tasks and boxes, of which the lines are worked out.
--   small              a program with the frames `x` and `p`, both exported, and its graph of the nodes `a` and `b`
--   ended              it returns -1, nothing is in `x`, and `p` points four bytes into `x`
--   from_b             a scope with header 1
--   told               a report of two nodes and a scope, whose certificate has a merge between two steps
--   task name          a task of this name
--   between            a box of inputs from -3 to 7
use Rattle.std.specs.Prelude.{ℕ, List, [], ◌∷◌, Option, Some, None, codes, false, pos, negsuc}
use Rattle.alf_ops.specs.declared.history.Value.TheVariants.{Int, Ptr}
use Rattle.alf_check.specs.declared.rows.FrameRow.{FrameRow}
use Rattle.domain_core.specs.declared.event.Event.TheVariants.{Step, Merge}
use Rattle.domain_core.specs.declared.outline.ScopeRow.{ScopeRow}
use Rattle.domain_core.specs.declared.scope_kind.ScopeKind.TheVariants as kinds
use Rattle.flow_facts.specs.declared.report.BoundWord.TheVariants as words
use Rattle.flow_facts.specs.Reports.{Reported}
use Rattle.alf_runs.specs.Outcomes.{Outcome, Ended}
use Rattle.program_files.specs.Expanding.{Expanded}
use Rattle.cost_table.specs.declared.task_set.Task.{Task as TimedTask}
use Rattle.worst_inputs.specs.Searches.{Searched}

abbrev pub frame : List ℕ → FrameRow
frame name = record { owner = None; name = name; bits = 32 }

abbrev pub small : Expanded
small = record {
  program = record {
    frames = frame (codes "x") ∷ frame (codes "p") ∷ [];
    funcs = [];
    inits = [];
    exports = 0 ∷ 1 ∷ [];
    root = 0;
  };
  graph = record { nodes = []; funcs = []; names = codes "a" ∷ codes "b" ∷ []; edges = [] };
}

-- 255 is -1 in 8 bits
abbrev pub ended : Outcome
ended = Ended (record { returned = Some (Int 8 255); globals = None ∷ Some (Ptr 0 4) ∷ [] })

abbrev pub from_b : List ScopeRow
from_b = record { parent = None; header = 1; kind = kinds.Call } ∷ []

abbrev pub told : Reported
told = record {
  form = 2;
  nodes = record { scope = 0; cost = 0; name = codes "a" } ∷ record { scope = 0; cost = 1; name = codes "b" } ∷ [];
  scopes = from_b;
  facts = [];
  count_bound = 7;
  path_bound = Some (5, words.Least);
  cert = Some (record { events = Step 0 ∷ Merge 0 1 ∷ Step 0 ∷ []; scale = pos 1; multipliers = [] });
}

abbrev pub task : List ℕ → TimedTask
task name = record { name = name; cost = 1; period = 20; deadline = 20; priority = 3 }

abbrev pub between : Searched
between = record {
  boxes = record { area = record { low = negsuc 2; high = pos 7 } ∷ []; bound = 5 } ∷ [];
  exact = false;
}
