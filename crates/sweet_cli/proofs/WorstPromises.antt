-- What is promised of a text that tells boxes of inputs.
--   boxes_told     the text is that of the order of work
--   tells_worst    and it keeps the promise
use Rattle.std.proofs.Common.{◌≡◌, ◌≤◌, ℕ, List, Vec, Global, Ok, Option, refl, ◌∙◌, subst, arith, [], ◌∷◌, ◌++◌}
use Rattle.std.specs.Prelude.{option_to_list}
use Rattle.sweet_cli.specs.Task.{names_read}
use Rattle.sweet_words.specs.Files.{file_name}
use Rattle.flow_base.specs.Outside.{Files}
use Rattle.flow_base.specs.Shelves.{ShelfState}
use Rattle.cost_table.specs.Laws.{RowsKeepTheRules}
use Rattle.worst_inputs.specs.Searches.{Searched, IsSearched}
use Rattle.worst_inputs.specs.Promises.{Bounds}
use Rattle.program_bounder.specs.InputRows.{ranges_of}
use Rattle.program_bounder.specs.InputCosts.{RunsCost}
use Rattle.program_bounder.specs.PathBounds.{path_answers}
use Rattle.command_plans.specs.Log.{Log, log_of}
use Rattle.command_plans.specs.Work.{IsOnly}
use Rattle.command_plans.specs.Readings.{IsMadeOf, both_made}
use Rattle.command_plans.specs.Works.{Works}
use Rattle.program_files.specs.Told.{IsToldProgram}
use Rattle.answer_texts.specs.WorstText.{worst_text}
use Rattle.command_files.specs.Scopes.{ScopedProgram, scoped_in}
use Rattle.command_files.specs.Tables.{Tables, tables_in}
use Rattle.sweet_cli.specs.Words.{WorstWords}
use Rattle.sweet_cli.specs.Analyse.{policy_of}
use Rattle.sweet_cli.specs.Worst.{WorstMeans, worsting, TellsWorst}
use Rattle.sweet_cli.proofs.Promises.{AreTabled, told_graph, tables_made, inputs_keep}

-- the text is that of the order of work
pub boxes_told : (given : WorstWords) (before mid end : ShelfState) (program : ScopedProgram) (tables : Tables) (found : Searched) (text : Vec ℕ Global)
    → (scoped_in given.program given.root).steps.Gives before.files (log_of before) program (log_of mid) × (mid.failed ≡ before.failed) → mid.files ≡ before.files → before.faults ≤ mid.faults
    → (tables_in program.expanded.program given.inputs given.costs).steps.Gives mid.files (log_of mid) tables (log_of end) × (end.failed ≡ mid.failed) → end.files ≡ mid.files → mid.faults ≤ end.faults
    → IsOnly (WorstMeans program tables.rows tables.costs (policy_of given.merging) given.turns given.pivots given.splits) (Ok found) → text.items ≡ worst_text found
    → Works (worsting given) (λ (t : Vec ℕ Global). t.items) before (Ok text) end
unfolding worsting
boxes_told given before mid end program tables found text first same later second same_again later_again only is =
    let read = subst (λ (told : Option Files). (tables_in program.expanded.program given.inputs given.costs).steps.Gives told (log_of mid) tables (log_of end)) same second.0 in
    record {
      ends = ((program, log_of mid, first.0, (tables, log_of end, read, (found, log_of end, (only, refl), (is, refl)))), second.1 ∙ first.1);
      same = same_again ∙ same;
      later = omega (arith, later, later_again);
    }

-- and it keeps the promise
pub tells_worst : RowsKeepTheRules → (given : WorstWords) (told : Option Files) (before mid later : Log) (program : ScopedProgram) (tables : Tables) (found : Searched) (text : List ℕ)
    → (scoped_in given.program given.root).steps.Gives told before program mid → (tables_in program.expanded.program given.inputs given.costs).steps.Gives told mid tables later
    → IsMadeOf told before mid (file_name given.program ∷ []) (λ files. IsToldProgram given.program given.root files program.expanded.program) → text ≡ worst_text found
    → IsSearched (path_answers program.expanded.program program.expanded.graph tables.rows tables.costs (policy_of given.merging) given.turns given.pivots) (ranges_of tables.rows) given.splits found
    → Bounds (RunsCost program.expanded.program program.expanded.graph tables.rows tables.costs) (ranges_of tables.rows) found → IsMadeOf told before later (names_read given.program given.inputs given.costs) (λ files. TellsWorst given files text)
tells_worst law given told before mid later program tables found text scopes read of shown searched bounds =
    let expanded = program.expanded in
    both_made told before mid later (file_name given.program ∷ []) (option_to_list given.inputs ++ option_to_list given.costs) (λ files. IsToldProgram given.program given.root files expanded.program)
    (AreTabled given.inputs given.costs expanded.program tables) (λ files. TellsWorst given files text) of
    (tables_made expanded.program given.inputs given.costs told mid tables later read)
    (λ files program_told both.
    record {
      program = expanded.program;
      graph = expanded.graph;
      rows = tables.rows;
      costs = tables.costs;
      found = found;
      program_told = program_told;
      graph_is = told_graph given.program given.root told before program mid scopes;
      rows_told = both.0;
      rows_keep = inputs_keep law given.inputs files expanded.program tables.rows both.0;
      costs_told = both.1;
      shown = shown;
      searched = searched;
      bounds = bounds;
    })
