-- What is promised of a text that tells of a cache.
--   layout_graph   the graph that was drawn is that of the program
--   cache_told     the text is that of the order of work
--   tells_cache    and it keeps the promise
use Rattle.std.proofs.Common.{◌≡◌, ◌≤◌, ℕ, List, Vec, Global, Ok, Option, refl, sym, ◌∙◌, subst, arith, [], ◌∷◌, ◌++◌}
use Rattle.std.specs.Prelude.{option_to_list}
use Rattle.sweet_cli.specs.Task.{names_read}
use Rattle.sweet_words.specs.Files.{file_name}
use Rattle.flow_base.specs.Outside.{Files}
use Rattle.flow_base.specs.Shelves.{ShelfState}
use Rattle.flow_graph.specs.Numbering.{IsGraph}
use Rattle.cost_table.specs.Laws.{RowsKeepTheRules}
use Rattle.cached_runs.specs.Answers.{CacheLines, Told}
use Rattle.cache_analysis.specs.Analyses.{IsCacheAnalysis}
use Rattle.cache_analysis.specs.Sound.{IsSoundCache}
use Rattle.command_plans.specs.Log.{Log, log_of}
use Rattle.command_plans.specs.Work.{IsOnly}
use Rattle.command_plans.specs.Readings.{IsMadeOf, both_made}
use Rattle.command_plans.specs.Works.{Works}
use Rattle.program_files.specs.Told.{IsToldProgram}
use Rattle.answer_texts.specs.CacheText.{cache_text}
use Rattle.command_files.specs.Scopes.{ScopedProgram}
use Rattle.command_files.specs.LaidOut.{laid_out_in}
use Rattle.command_files.specs.Tables.{Tables, tables_in}
use Rattle.sweet_cli.specs.Words.{ProgramFile, CacheWords}
use Rattle.sweet_cli.specs.Analyse.{policy_of}
use Rattle.sweet_cli.specs.Cache.{cache_shape, CacheMeans, caching, TellsCache}
use Rattle.sweet_cli.proofs.Promises.{AreTabled, tables_made, inputs_keep}

-- the graph that was drawn is that of the program
pub layout_graph : (given : ProgramFile) (root : List ℕ) (told : Option Files) (before : Log) (program : ScopedProgram) (after : Log) → (laid_out_in given root).steps.Gives told before program after
    → IsGraph program.expanded.program program.expanded.graph
unfolding laid_out_in
layout_graph given root told before program after (numbered, log, first, (graph, mid, (drawn, stays), (scoped, last, (means, still), (same, done)))) =
    subst (λ (p : ScopedProgram). IsGraph p.expanded.program p.expanded.graph) (sym same) drawn.means

-- the text is that of the order of work
pub cache_told : (given : CacheWords) (before mid end : ShelfState) (program : ScopedProgram) (tables : Tables) (lines : CacheLines) (text : Vec ℕ Global)
    → (laid_out_in given.program given.root).steps.Gives before.files (log_of before) program (log_of mid) × (mid.failed ≡ before.failed) → mid.files ≡ before.files → before.faults ≤ mid.faults
    → (tables_in program.expanded.program given.inputs given.costs).steps.Gives mid.files (log_of mid) tables (log_of end) × (end.failed ≡ mid.failed) → end.files ≡ mid.files → mid.faults ≤ end.faults
    → IsOnly (CacheMeans program tables.rows tables.costs (cache_shape given) (policy_of given.merging) given.turns) (Ok lines) → text.items ≡ cache_text lines
    → Works (caching given) (λ (t : Vec ℕ Global). t.items) before (Ok text) end
unfolding caching
cache_told given before mid end program tables lines text first same later second same_again later_again only is =
    let read = subst (λ (told : Option Files). (tables_in program.expanded.program given.inputs given.costs).steps.Gives told (log_of mid) tables (log_of end)) same second.0 in
    record {
      ends = ((program, log_of mid, first.0, (tables, log_of end, read, (lines, log_of end, (only, refl), (is, refl)))), second.1 ∙ first.1);
      same = same_again ∙ same;
      later = omega (arith, later, later_again);
    }

-- and it keeps the promise
pub tells_cache : RowsKeepTheRules → (given : CacheWords) (told : Option Files) (before mid later : Log) (program : ScopedProgram) (tables : Tables) (lines : CacheLines) (text : List ℕ)
    → (laid_out_in given.program given.root).steps.Gives told before program mid → (tables_in program.expanded.program given.inputs given.costs).steps.Gives told mid tables later
    → IsMadeOf told before mid (file_name given.program ∷ []) (λ files. IsToldProgram given.program given.root files program.expanded.program) → text ≡ cache_text lines
    → IsCacheAnalysis program.expanded.program program.expanded.graph tables.rows (cache_shape given) tables.costs (policy_of given.merging) given.turns (Told lines)
    → IsSoundCache program.expanded.program program.expanded.graph tables.rows (cache_shape given) tables.costs lines → IsMadeOf told before later (names_read given.program given.inputs given.costs) (λ files. TellsCache given files text)
tells_cache law given told before mid later program tables lines text scopes read of shown found sound =
    let expanded = program.expanded in
    both_made told before mid later (file_name given.program ∷ []) (option_to_list given.inputs ++ option_to_list given.costs) (λ files. IsToldProgram given.program given.root files expanded.program)
    (AreTabled given.inputs given.costs expanded.program tables) (λ files. TellsCache given files text) of
    (tables_made expanded.program given.inputs given.costs told mid tables later read)
    (λ files program_told both.
    record {
      program = expanded.program;
      graph = expanded.graph;
      rows = tables.rows;
      costs = tables.costs;
      lines = lines;
      program_told = program_told;
      graph_is = layout_graph given.program given.root told before program mid scopes;
      rows_told = both.0;
      rows_keep = inputs_keep law given.inputs files expanded.program tables.rows both.0;
      costs_told = both.1;
      shown = shown;
      found = found;
      sound = sound;
    })
