-- The program that a command lays out in memory, with the scopes of its graph.
--   code_too_long              the line of a program with more statements than are laid out
--   LaysOut program meaning    the program, where it has no more, or that line
--   short_in given root        a file is read, and its program checked, which has no more
--   laid_out_in given root     and it is expanded and given scopes
use Rattle.std.specs.Prelude.{◌≡◌, ◌<◌, ◌≤◌, ℕ, List, Result, Ok, Err}
use Rattle.flow_base.specs.declared.place.Which.TheVariants.{Statements}
use Rattle.alf_check.specs.CheckedPrograms.{NumberedProgram}
use Rattle.code_layout.specs.Layouts.{all_statements, most_statements}
use Rattle.command_plans.specs.Outcome.{Outcome, refused}
use Rattle.command_plans.specs.Work.{Work, judged, done, ◌>>=◌}
use Rattle.program_files.specs.FaultLines.{limit_line}
use Rattle.program_files.specs.Expanding.{checked_in, GraphMeans}
use Rattle.sweet_words.specs.Files.{ProgramFile}
use Rattle.command_files.specs.Scopes.{ScopesMean, ScopedProgram}

-- the line of a program with more statements than are laid out
abbrev pub code_too_long : List ℕ
code_too_long = limit_line Statements 65537

-- the program, where it has no more, or that line
abbrev pub LaysOut : NumberedProgram → Result NumberedProgram Outcome → Type 0
LaysOut program (Ok same) = (all_statements program ≤ most_statements) × (same ≡ program)
LaysOut program (Err outcome) = (most_statements < all_statements program) × (outcome ≡ refused code_too_long)

-- a program that passes the checks and has no more statements than are laid out
unfoldable pub short_in : ProgramFile → List ℕ → Work NumberedProgram
short_in given root = do
  program ← checked_in given root
  judged (LaysOut program)

-- with its graph, and the scopes of the graph
unfoldable pub laid_out_in : ProgramFile → List ℕ → Work ScopedProgram
laid_out_in given root = do
  program ← short_in given root
  graph ← judged (GraphMeans program)
  scoped ← judged (ScopesMean graph)
  done (record { expanded = record { program = program; graph = graph }; scoped = scoped })
