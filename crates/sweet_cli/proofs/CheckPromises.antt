-- What is promised of a report that is accepted.
--   told_report    the told file spells the report that was read
--   sound_told     a report that was read of told files, and is sound
--   accepted_shown what is answered then is that it is accepted
--   checks_told    the text is that of the order of work
--   tells_sound    and it keeps the promise
use Rattle.std.proofs.Common.{◌≡◌, ◌≤◌, ℕ, List, Vec, Global, Ok, Option, Some, ◌∙◌, subst, arith, [], ◌∷◌, ◌++◌}
use Rattle.std.specs.Prelude.{option_to_list}
use Rattle.sweet_cli.specs.Task.{names_read}
use Rattle.sweet_words.specs.Files.{file_name}
use Rattle.flow_base.specs.Outside.{Files}
use Rattle.flow_base.specs.Shelves.{ShelfState}
use Rattle.alf_check.specs.CheckedPrograms.{NumberedProgram}
use Rattle.alf_check.specs.declared.rows.InputRow.{InputRow}
use Rattle.flow_graph.specs.Numbering.{GraphParts}
use Rattle.cost_table.specs.CostTables.{CostTable}
use Rattle.flow_facts.specs.Reports.{Reported}
use Rattle.cost_table.specs.Laws.{RowsKeepTheRules}
use Rattle.command_plans.specs.Log.{Log, log_of}
use Rattle.command_plans.specs.Readings.{IsMadeOf, both_made, one_made, widened}
use Rattle.command_plans.specs.Works.{Works}
use Rattle.program_files.specs.Told.{IsToldProgram}
use Rattle.command_files.specs.Scopes.{ScopedProgram, scoped_in}
use Rattle.command_files.specs.Tables.{Tables, tables_in}
use Rattle.command_files.specs.ReportFiles.{report_in, IsToldReport}
use Rattle.sweet_cli.specs.Words.{CheckWords}
use Rattle.sweet_cli.specs.Check.{report_judged, checking, IsAcceptedOf, IsSoundTold, IsAccepted, accepted}
use Rattle.sweet_cli.proofs.Promises.{AreTabled, tables_made, told_graph, inputs_keep}

-- the told file spells the report that was read
pub told_report : (file : List ℕ) (files : Files) (before : Log) (report : Reported) (after : Log)
    → (report_in file).steps.Gives (Some files) before report after → IsToldReport file files report
unfolding report_in
told_report file files before report after (bytes, log, read, (spelled, same)) = (bytes, read.2, spelled.means)

-- and so over all files that hold what was read
pub report_made : (file : List ℕ) (told : Option Files) (before : Log) (report : Reported) (after : Log)
    → (report_in file).steps.Gives told before report after → IsMadeOf told before after (file ∷ []) (λ files. IsToldReport file files report)
unfolding report_in
report_made file told before report after (bytes, log, read, (spelled, same)) =
    one_made told before after file bytes (λ files. IsToldReport file files report) (same ∙ read.0) read.2 (λ files is. (bytes, is, spelled.means))

-- a report that was read of told files, and is sound
pub sound_told : (file : List ℕ) (told : Option Files) (before after : Log) (program : NumberedProgram) (graph : GraphParts) (rows : List InputRow) (costs : CostTable) (report : Reported)
    → (report_in file).steps.Gives told before report after → IsAcceptedOf program graph rows costs report → IsMadeOf told before after (file ∷ []) (λ files. IsSoundTold file files program graph rows costs)
sound_told file told before after program graph rows costs report read sound =
    widened told before after (file ∷ []) (λ files. IsToldReport file files report) (λ files. IsSoundTold file files program graph rows costs)
    (λ files of. record { report = report; told = of; sound = sound }) (report_made file told before report after read)

-- what is answered then is that it is accepted
pub accepted_shown : (file : List ℕ) (program : ScopedProgram) (tables : Tables) (told : Option Files) (before : Log) (text : List ℕ) (after : Log)
    → (report_judged file program tables).steps.Gives told before text after → text ≡ accepted
unfolding report_judged
accepted_shown file program tables told before text after (report, mid, read, (only, same)) = only.means.1

-- the text is that of the order of work
pub checks_told : (given : CheckWords) (before mid late end : ShelfState) (program : ScopedProgram) (tables : Tables) (text : Vec ℕ Global)
    → (scoped_in given.program given.root).steps.Gives before.files (log_of before) program (log_of mid) × (mid.failed ≡ before.failed) → mid.files ≡ before.files → before.faults ≤ mid.faults
    → (tables_in program.expanded.program given.inputs given.costs).steps.Gives mid.files (log_of mid) tables (log_of late) × (late.failed ≡ mid.failed) → late.files ≡ mid.files → mid.faults ≤ late.faults
    → (report_judged given.report program tables).steps.Gives late.files (log_of late) text.items (log_of end) × (end.failed ≡ late.failed) → end.files ≡ late.files → late.faults ≤ end.faults
    → Works (checking given) (λ (t : Vec ℕ Global). t.items) before (Ok text) end
unfolding checking
checks_told given before mid late end program tables text first same later second same_again later_again third same_still later_still =
    let rows = subst (λ (told : Option Files). (tables_in program.expanded.program given.inputs given.costs).steps.Gives told (log_of mid) tables (log_of late)) same second.0 in
    let answer = subst (λ (told : Option Files). (report_judged given.report program tables).steps.Gives told (log_of late) text.items (log_of end)) (same_again ∙ same) third.0 in
    record {
      ends = ((program, log_of mid, first.0, (tables, log_of late, rows, answer)), third.1 ∙ second.1 ∙ first.1);
      same = same_still ∙ same_again ∙ same;
      later = omega (arith, later, later_again, later_still);
    }

-- the files give these tables, and spell a report that is sound with them
abbrev IsTabledSound : CheckWords → ScopedProgram → Tables → Files → Type 0
IsTabledSound given program tables files =
    AreTabled given.inputs given.costs program.expanded.program tables files
    × IsSoundTold given.report files program.expanded.program program.expanded.graph tables.rows tables.costs

-- and it keeps the promise
pub tells_sound : RowsKeepTheRules → (given : CheckWords) (told : Option Files) (before mid late end : Log) (program : ScopedProgram) (tables : Tables) (text : List ℕ)
    → (scoped_in given.program given.root).steps.Gives told before program mid → (tables_in program.expanded.program given.inputs given.costs).steps.Gives told mid tables late
    → IsMadeOf told before mid (file_name given.program ∷ []) (λ files. IsToldProgram given.program given.root files program.expanded.program) → text ≡ accepted
    → IsMadeOf told late end (given.report ∷ []) (λ files. IsSoundTold given.report files program.expanded.program program.expanded.graph tables.rows tables.costs)
    → IsMadeOf told before end (names_read given.program given.inputs given.costs ++ (given.report ∷ [])) (λ files. IsAccepted given files text)
tells_sound law given told before mid late end program tables text scopes read of shown sound =
    let expanded = program.expanded in
    let tabled = option_to_list given.inputs ++ option_to_list given.costs in
    let again = both_made told mid late end tabled (given.report ∷ []) (AreTabled given.inputs given.costs expanded.program tables)
    (λ files. IsSoundTold given.report files expanded.program expanded.graph tables.rows tables.costs) (IsTabledSound given program tables)
    (tables_made expanded.program given.inputs given.costs told mid tables late read) sound (λ files both held. (both, held)) in
    both_made told before mid end (file_name given.program ∷ []) (tabled ++ (given.report ∷ [])) (λ files. IsToldProgram given.program given.root files expanded.program) (IsTabledSound given program tables)
    (λ files. IsAccepted given files text) of again
    (λ files program_told (both, held).
    record {
      program = expanded.program;
      graph = expanded.graph;
      rows = tables.rows;
      costs = tables.costs;
      program_told = program_told;
      graph_is = told_graph given.program given.root told before program mid scopes;
      rows_told = both.0;
      rows_keep = inputs_keep law given.inputs files expanded.program tables.rows both.0;
      costs_told = both.1;
      shown = shown;
      sound = held;
    })
