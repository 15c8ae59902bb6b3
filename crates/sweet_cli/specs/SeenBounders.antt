-- What a bounder stands for.
--   bounder_seen program tables policy turns pivots   the bounder of a program and its tables
--   scoped_in_bounder bounder    the program that it bounds, with its scopes
--   BoxesMean bounder splits     what is meant by its boxes, or that places are left
use Rattle.std.specs.Prelude.{ℕ, Result}
use Rattle.worklist_rules.specs.declared.policy.Policy.{Policy}
use Rattle.worst_inputs.specs.Searches.{Searched}
use Rattle.program_bounder.specs.declared.bounder.PathBounder.{PathBounder}
use Rattle.command_plans.specs.Outcome.{Outcome}
use Rattle.alf_check.specs.CheckedPrograms.{seen}
use Rattle.command_files.specs.declared.tables.Tables.{Tables}
use Rattle.command_files.specs.declared.scopes.ScopedProgram.{ScopedProgram as ScopedValue}
use Rattle.command_files.specs.Scopes.{ScopedProgram}
use Rattle.command_files.specs.Seen.{scopes_seen}
use Rattle.sweet_cli.specs.Worst.{WorstMeans}

-- the bounder of a program and its tables
abbrev pub bounder_seen : ScopedValue → Tables → Policy → ℕ → ℕ → PathBounder
bounder_seen program tables policy turns pivots = record {
  checked = program.expanded.checked;
  graph = program.expanded.graph;
  outline = program.outline;
  costs = tables.costs;
  rows = tables.rows;
  policy = policy;
  turns = turns;
  pivots = pivots;
}

-- the program that it bounds, with its scopes
abbrev pub scoped_in_bounder : PathBounder → ScopedProgram
scoped_in_bounder b = record {
  expanded = record { program = seen b.checked; graph = b.graph };
  scoped = scopes_seen b.outline;
}

-- what is meant by its boxes, or that places are left
abbrev pub BoxesMean : PathBounder → ℕ → Result Searched Outcome → Type 0
BoxesMean b splits = WorstMeans (scoped_in_bounder b) b.rows.items b.costs b.policy b.turns b.pivots splits
