-- What is promised of a run that a report holds of.
--   holds_of     what is told as a cost says so of the run
--   held_told    so it is of the report and the values that were read of told files
--   replay_told  the text is that of the order of work
--   tells_replay and it keeps the promise
use Rattle.std.proofs.Common.{◌≡◌, ◌≤◌, ℕ, ℤ, List, Vec, Global, length, Ok, Err, Option, None, Some, IfSome, sym, ◌∙◌, subst, arith, [], ◌∷◌, ◌++◌}
use Rattle.std.specs.Prelude.{option_to_list}
use Rattle.sweet_cli.specs.Task.{names_read}
use Rattle.sweet_words.specs.Files.{file_name}
use Rattle.flow_base.specs.Outside.{Files}
use Rattle.flow_base.specs.Shelves.{ShelfState}
use Rattle.alf_check.specs.CheckedPrograms.{NumberedProgram}
use Rattle.alf_check.specs.declared.rows.InputRow.{InputRow}
use Rattle.alf_runs.specs.Outcomes.{Outcome as RunOutcome}
use Rattle.alf_runs.specs.Starts.{AreWithin, start, words_of}
use Rattle.alf_interp.specs.Traces.{Runs}
use Rattle.flow_graph.specs.Numbering.{GraphParts}
use Rattle.cost_table.specs.CostTables.{CostTable}
use Rattle.cost_table.specs.Laws.{RowsKeepTheRules}
use Rattle.domain_core.specs.Outlines.{shape_of}
use Rattle.flow_facts.specs.Reports.{Reported}
use Rattle.ipet_rows.specs.Uses.{run_cost}
use Rattle.program_analysis.specs.SoundLaws.{same_cost}
use Rattle.report_soundness.specs.ReportTold.{costs_of}
use Rattle.report_objections.specs.declared.objection.Objection.{Objection}
use Rattle.run_replays.specs.Replays.{Told, Asks, objects, passes, TellsReplayedRun, stops, ends, fault_of, TellEnd}
use Rattle.command_plans.specs.Log.{Log, log_of}
use Rattle.command_plans.specs.Readings.{IsMadeOf, both_made, one_made, still_made}
use Rattle.command_plans.specs.Works.{Works}
use Rattle.program_files.specs.Told.{IsToldProgram}
use Rattle.command_files.specs.Values.{values_told, values_in, AreValues}
use Rattle.command_files.specs.ReportFiles.{IsToldReport}
use Rattle.command_files.specs.Scopes.{ScopedProgram, scoped_in}
use Rattle.command_files.specs.Tables.{Tables, tables_in}
use Rattle.sweet_cli.specs.Words.{ReplayWords}
use Rattle.sweet_cli.specs.Replay.{IsReplayOf, run_judged, replaying, HoldsOfRun, IsHeldTold, TellsReplay}
use Rattle.sweet_cli.proofs.CheckPromises.{report_made}
use Rattle.sweet_cli.proofs.Promises.{AreTabled, tables_made, told_graph, inputs_keep}

-- ---- what a cost says

module _ (program : NumberedProgram) (graph : GraphParts) (rows : List InputRow) (costs : CostTable) (report : Reported) (values : List ℤ) (cost : ℕ)
    (is : IsReplayOf program graph rows costs report values (Ok cost)) where
  not_told : {e : Objection} → ◌≡◌ {A = Told} (Ok cost) (Err e) → ⊥
  not_told same = cc

  told_same : {other : ℕ} → ◌≡◌ {A = Told} (Ok cost) (Ok other) → cost ≡ other
  told_same same = cc

  -- where a cost is told, what is asked first passes, and the rest tells it
  asked : {Objects : Objection → Type 0} {Passes : Type 0} {Rest : Told → Type 0} → Asks Objects Passes Rest (Ok cost)
      → Passes × Rest (Ok cost)
  asked (objects e objection same) = absurd (not_told same)
  asked (passes holds rest) = (holds, rest)

  of_end : (inside : AreWithin rows values) (trace : List ℕ) (outcome : RunOutcome)
      → Runs program graph.nodes (start program rows (words_of rows values)) trace outcome
      → TellEnd (shape_of is.outline) (costs_of is.outline) report trace (fault_of outcome) (Ok cost) → HoldsOfRun program graph rows costs report values cost
  of_end inside trace outcome runs end =
      let shaped = (asked is.is).0 in
      let alarm = asked end in
      let lines = asked alarm.1 in
      let count = asked lines.1 in
      let path = asked count.1 in
      let same : cost ≡ run_cost (costs_of is.outline) trace = told_same path.1 in
      record {
        outline = is.outline;
        outline_is = is.outline_is;
        legend = record { names = is.names; nodes = shaped.nodes; scopes = shaped.scopes };
        inside = inside;
        trace = trace;
        outcome = outcome;
        runs = runs;
        facts = lines.0;
        alarm = alarm.0;
        cost_is = same ∙ same_cost program graph costs is.outline trace runs.run is.costs_are runs.numbers;
        count = subst (λ (c : ℕ). c ≤ report.count_bound) (sym same) count.0;
        path = subst (λ (c : ℕ). IfSome report.path_bound (λ b. c ≤ b.0)) (sym same) path.0;
      }

  of_run : AreWithin rows values → TellsReplayedRun program graph.nodes (start program rows (words_of rows values)) (shape_of is.outline) (costs_of is.outline) report (Ok cost)
      → HoldsOfRun program graph rows costs report values cost
  of_run inside (stops e stop same) = absurd (not_told same)
  of_run inside (ends trace outcome runs within end) = of_end inside trace outcome runs end

  -- the one run meets the report, and costs so much
  pub holds_of : HoldsOfRun program graph rows costs report values cost
  holds_of = let values_are = asked (asked is.is).1 in of_run values_are.0 values_are.1

-- ---- what was read

-- all files that hold what was read have the numbers
numbers_made : (n : ℕ) (file : Option (List ℕ)) (told : Option Files) (before : Log) (values : List ℤ) (after : Log)
    → (values_in n file).steps.Gives told before values after → IsMadeOf told before after (option_to_list file) (λ files. AreValues file files n values)
unfolding values_told
numbers_made n None told before values after (only, same) = still_made told before after (λ files. AreValues None files n values) same (λ files. only.means)
numbers_made n (Some file) told before values after (bytes, log, read, (only, same)) =
    one_made told before after file bytes (λ files. AreValues (Some file) files n values) (same ∙ read.0) read.2 (λ files is. (bytes, is, only.means))

-- so it is of the report and the values that were read
pub held_told : (given : ReplayWords) (program : ScopedProgram) (tables : Tables) (told : Option Files) (before : Log) (text : List ℕ) (after : Log)
    → (run_judged given program tables).steps.Gives told before text after
    → IsMadeOf told before after (given.report ∷ option_to_list given.values) (λ files. IsHeldTold given files program.expanded.program program.expanded.graph tables.rows tables.costs text)
unfolding run_judged
held_told given program tables told before text after (report, log, read, (values, late, numbers, (only, same))) =
    let held = only.means in
    subst (λ (l : Log). IsMadeOf told before l (given.report ∷ option_to_list given.values) (λ files. IsHeldTold given files program.expanded.program program.expanded.graph tables.rows tables.costs text)) (sym same)
    (both_made told before log late (given.report ∷ []) (option_to_list given.values) (λ files. IsToldReport given.report files report) (λ files. AreValues given.values files (length tables.rows) values)
    (λ files. IsHeldTold given files program.expanded.program program.expanded.graph tables.rows tables.costs text)
    (report_made given.report told before report log read) (numbers_made (length tables.rows) given.values told log values late numbers)
    (λ files report_told values_told. record {
      report = report;
      values = values;
      cost = held.cost;
      report_told = report_told;
      values_told = values_told;
      holds = holds_of program.expanded.program program.expanded.graph tables.rows tables.costs report values held.cost held.holds;
      shown = held.line;
    }))

-- ---- the promise

-- the text is that of the order of work
pub replay_told : (given : ReplayWords) (before mid late end : ShelfState) (program : ScopedProgram) (tables : Tables) (text : Vec ℕ Global)
    → (scoped_in given.program given.root).steps.Gives before.files (log_of before) program (log_of mid) × (mid.failed ≡ before.failed) → mid.files ≡ before.files → before.faults ≤ mid.faults
    → (tables_in program.expanded.program given.inputs given.costs).steps.Gives mid.files (log_of mid) tables (log_of late) × (late.failed ≡ mid.failed) → late.files ≡ mid.files → mid.faults ≤ late.faults
    → (run_judged given program tables).steps.Gives late.files (log_of late) text.items (log_of end) × (end.failed ≡ late.failed) → end.files ≡ late.files → late.faults ≤ end.faults
    → Works (replaying given) (λ (t : Vec ℕ Global). t.items) before (Ok text) end
unfolding replaying
replay_told given before mid late end program tables text first same later second same_again later_again third same_still later_still =
    let rows = subst (λ (told : Option Files). (tables_in program.expanded.program given.inputs given.costs).steps.Gives told (log_of mid) tables (log_of late)) same second.0 in
    let answer = subst (λ (told : Option Files). (run_judged given program tables).steps.Gives told (log_of late) text.items (log_of end)) (same_again ∙ same) third.0 in
    record {
      ends = ((program, log_of mid, first.0, (tables, log_of late, rows, answer)), third.1 ∙ second.1 ∙ first.1);
      same = same_still ∙ same_again ∙ same;
      later = omega (arith, later, later_again, later_still);
    }

-- the files give these tables, and a report and values of which the text tells that they hold with them
abbrev IsTabledHeld : ReplayWords → ScopedProgram → Tables → List ℕ → Files → Type 0
IsTabledHeld given program tables text files =
    AreTabled given.inputs given.costs program.expanded.program tables files
    × IsHeldTold given files program.expanded.program program.expanded.graph tables.rows tables.costs text

-- and it keeps the promise
pub tells_replay : RowsKeepTheRules → (given : ReplayWords) (told : Option Files) (before mid late end : Log) (program : ScopedProgram) (tables : Tables) (text : List ℕ)
    → (scoped_in given.program given.root).steps.Gives told before program mid → (tables_in program.expanded.program given.inputs given.costs).steps.Gives told mid tables late
    → IsMadeOf told before mid (file_name given.program ∷ []) (λ files. IsToldProgram given.program given.root files program.expanded.program)
    → IsMadeOf told late end (given.report ∷ option_to_list given.values) (λ files. IsHeldTold given files program.expanded.program program.expanded.graph tables.rows tables.costs text)
    → IsMadeOf told before end (names_read given.program given.inputs given.costs ++ (given.report ∷ option_to_list given.values)) (λ files. TellsReplay given files text)
tells_replay law given told before mid late end program tables text scopes read of held =
    let expanded = program.expanded in
    let tabled = option_to_list given.inputs ++ option_to_list given.costs in
    let others = given.report ∷ option_to_list given.values in
    let again = both_made told mid late end tabled others (AreTabled given.inputs given.costs expanded.program tables)
    (λ files. IsHeldTold given files expanded.program expanded.graph tables.rows tables.costs text) (IsTabledHeld given program tables text)
    (tables_made expanded.program given.inputs given.costs told mid tables late read) held (λ files both holds. (both, holds)) in
    both_made told before mid end (file_name given.program ∷ []) (tabled ++ others) (λ files. IsToldProgram given.program given.root files expanded.program) (IsTabledHeld given program tables text)
    (λ files. TellsReplay given files text) of again
    (λ files program_told (both, holds).
    record {
      program = expanded.program;
      graph = expanded.graph;
      rows = tables.rows;
      costs = tables.costs;
      program_told = program_told;
      graph_is = told_graph given.program given.root told before program mid scopes;
      rows_told = both.0;
      rows_keep = inputs_keep law given.inputs files expanded.program tables.rows both.0;
      costs_told = both.1;
      held = holds;
    })
