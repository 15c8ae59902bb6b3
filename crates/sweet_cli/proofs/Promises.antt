-- The promises of the commands, and of a run.
use Rattle.std.proofs.Common.{◌≡◌, ◌≤◌, ℕ, true, List, Vec, Global, Ok, Option, None, Some, IfSome, refl, sym, ◌∙◌, subst, arith, [], ◌∷◌, ◌++◌}
use Rattle.std.proofs.lemmas.List.Elements.{All-nil}
use Rattle.std.specs.Prelude.{option_to_list}
use Rattle.sweet_words.specs.Files.{file_name}
use Rattle.flow_base.specs.Outside.{Files, Rose}
use Rattle.flow_base.specs.Shelves.{ShelfState}
use Rattle.flow_base.specs.Sinks.{SinkState}
use Rattle.alf_program.specs.Tree.{WholeProgram}
use Rattle.alf_text.specs.Language.{SpellsProgram}
use Rattle.alf_check.specs.CheckedPrograms.{NumberedProgram}
use Rattle.alf_check.specs.Inputs.{KeepsInput, KeepInputs}
use Rattle.alf_check.specs.Checking.{Passes}
use Rattle.alf_check.specs.declared.rows.InputRow.{InputRow}
use Rattle.flow_graph.specs.Numbering.{IsGraph}
use Rattle.cost_table.specs.CostTables.{CostTable}
use Rattle.cost_table.specs.Laws.{RowsKeepTheRules}
use Rattle.alf_text.specs.Canonical.{canonical_text}
use Rattle.alf_text.specs.CanonicalLaws.{CanonicalTextsSpell}
use Rattle.c_unit.specs.Units.{UnitTree}
use Rattle.c_lowered.specs.Programs.{lowered}
use Rattle.c_lower.specs.Outcomes.{HaveUnitsOutcomes}
use Rattle.command_plans.specs.declared.status.Status.{Status}
use Rattle.command_plans.specs.declared.status.Status.TheVariants as statuses
use Rattle.command_plans.specs.Outcome.{Cause, Usage, Source, Example, Unbounded, No, Unread, Ending, Finished, Stopped, status_of, unread_of, ending_status, ending_text, ending_unread}
use Rattle.command_plans.specs.Lines.{TellsInALine, is_line}
use Rattle.command_plans.specs.Log.{Log, log_after, log_of}
use Rattle.command_plans.specs.Work.{Work, IsOnly, EndsSo}
use Rattle.command_plans.specs.WorkLaws.{ends_by_readings}
use Rattle.command_plans.specs.Readings.{IsMadeOf, both_made, one_made, still_made, widened}
use Rattle.command_plans.specs.Works.{OverRead, Tells, Works}
use Rattle.command_plans.specs.Run.{Wrote, IsAnswerOf}
use Rattle.program_files.specs.Programs.{program_in}
use Rattle.program_files.specs.Units.{unit_in}
use Rattle.program_files.specs.Expanding.{Expanded, expanded_in}
use Rattle.program_files.specs.Told.{IsToldUnit, IsToldProgram}
use Rattle.command_files.specs.Tables.{inputs_in, inputs_told, costs_in, costs_told, Tables, tables_in, AreInputs, AreCosts}
use Rattle.command_files.specs.Scopes.{ScopedProgram, scoped_in}
use Rattle.sweet_cli.specs.Table.{task_of}
use Rattle.sweet_cli.specs.Top.{IsAnswerRead}
use Rattle.sweet_cli.specs.Task.{Task, KeepsOverRead, names_read, KeepsPromise, Promised}
use Rattle.sweet_cli.specs.Words.{ProgramFile, AnalyseWords, LowerWords, RunWords}
use Rattle.sweet_cli.specs.Analyse.{policy_of, ReportMeans, analysing, IsSoundReport}
use Rattle.flow_facts.specs.Reports.{Reported}
use Rattle.fact_words.specs.Canonical.{report_text}
use Rattle.fact_text.specs.Language.{SpellsReport}
use Rattle.c_text.specs.Laws.{PrintedUnitsAreReadBack}
use Rattle.sweet_cli.specs.Print.{printing, IsSameProgram}
use Rattle.sweet_cli.specs.PrintC.{printing_c, IsSameUnit}
use Rattle.sweet_cli.specs.Lower.{IsLoweredText}
use Rattle.sweet_cli.specs.Run.{IsRunText, TellsRun}
use Rattle.sweet_cli.proofs.SoundReports.{SoundPrint}

-- ---- told files

-- the graph that was drawn is that of the program
pub told_graph : (given : ProgramFile) (root : List ℕ) (told : Option Files) (before : Log) (program : ScopedProgram) (after : Log) → (scoped_in given root).steps.Gives told before program after
    → IsGraph program.expanded.program program.expanded.graph
unfolding scoped_in expanded_in
told_graph given root told before program after (expanded, log, (numbered, mid, first, (graph, end, (drawn, stays), (is, over))), (scoped, last, (means, still), (same, done))) =
    subst (λ (p : ScopedProgram). IsGraph p.expanded.program p.expanded.graph) (sym same) (subst (λ (e : Expanded). IsGraph e.program e.graph) (sym is) drawn.means)

told_costs : (program : NumberedProgram) (file : Option (List ℕ)) (files : Files) (before : Log) (costs : CostTable) (after : Log)
    → (costs_in program file).steps.Gives (Some files) before costs after → AreCosts file files program costs
unfolding costs_told
told_costs program None files before costs after (is, same) = is
told_costs program (Some file) files before costs after (bytes, log, read, (meant, same)) = (bytes, read.2, meant.means)

told_rows : (program : NumberedProgram) (file : Option (List ℕ)) (files : Files) (before : Log) (rows : List InputRow) (after : Log)
    → (inputs_in program file).steps.Gives (Some files) before rows after → AreInputs file files program rows
unfolding inputs_told
told_rows program None files before rows after (is, same) = is
told_rows program (Some file) files before rows after (bytes, log, read, (meant, same)) = (bytes, read.2, meant.means)

pub told_tables : (program : NumberedProgram) (inputs costs : Option (List ℕ)) (files : Files) (before : Log) (tables : Tables) (after : Log)
    → (tables_in program inputs costs).steps.Gives (Some files) before tables after → AreInputs inputs files program tables.rows × AreCosts costs files program tables.costs
unfolding tables_in
told_tables program inputs costs files before tables after (rows, a, first, (spent, b, second, (is, over))) = (
  subst (λ (t : Tables). AreInputs inputs files program t.rows) (sym is) (told_rows program inputs files before rows a first),
  subst (λ (t : Tables). AreCosts costs files program t.costs) (sym is) (told_costs program costs files a spent b second),
)

-- the same over all files that hold what was read
rows_made : (program : NumberedProgram) (file : Option (List ℕ)) (told : Option Files) (before : Log) (rows : List InputRow) (after : Log)
    → (inputs_in program file).steps.Gives told before rows after → IsMadeOf told before after (option_to_list file) (λ files. AreInputs file files program rows)
unfolding inputs_told
rows_made program None told before rows after (is, same) = still_made told before after (λ files. AreInputs None files program rows) same (λ files. is)
rows_made program (Some file) told before rows after (bytes, log, read, (meant, same)) =
    one_made told before after file bytes (λ files. AreInputs (Some file) files program rows) (same ∙ read.0) read.2 (λ files is. (bytes, is, meant.means))

costs_made : (program : NumberedProgram) (file : Option (List ℕ)) (told : Option Files) (before : Log) (costs : CostTable) (after : Log)
    → (costs_in program file).steps.Gives told before costs after → IsMadeOf told before after (option_to_list file) (λ files. AreCosts file files program costs)
unfolding costs_told
costs_made program None told before costs after (is, same) = still_made told before after (λ files. AreCosts None files program costs) same (λ files. is)
costs_made program (Some file) told before costs after (bytes, log, read, (meant, same)) =
    one_made told before after file bytes (λ files. AreCosts (Some file) files program costs) (same ∙ read.0) read.2 (λ files is. (bytes, is, meant.means))

-- the files give these rows and these costs
abbrev pub AreTabled : Option (List ℕ) → Option (List ℕ) → NumberedProgram → Tables → Files → Type 0
AreTabled inputs costs program tables files = AreInputs inputs files program tables.rows × AreCosts costs files program tables.costs

pub tables_made : (program : NumberedProgram) (inputs costs : Option (List ℕ)) (told : Option Files) (before : Log) (tables : Tables) (after : Log)
    → (tables_in program inputs costs).steps.Gives told before tables after
    → IsMadeOf told before after (option_to_list inputs ++ option_to_list costs) (AreTabled inputs costs program tables)
unfolding tables_in
tables_made program inputs costs told before tables after (rows, a, first, (spent, b, second, (is, over))) =
    subst (λ (l : Log). IsMadeOf told before l (option_to_list inputs ++ option_to_list costs) (AreTabled inputs costs program tables)) (sym over)
    (both_made told before a b (option_to_list inputs) (option_to_list costs) (λ files. AreInputs inputs files program rows) (λ files. AreCosts costs files program spent) (AreTabled inputs costs program tables)
    (rows_made program inputs told before rows a first) (costs_made program costs told a spent b second)
    (λ files r k. (subst (λ (t : Tables). AreInputs inputs files program t.rows) (sym is) r, subst (λ (t : Tables). AreCosts costs files program t.costs) (sym is) k)))

-- the rows keep the rules of rows
pub inputs_keep : RowsKeepTheRules
    → (file : Option (List ℕ)) (files : Files) (program : NumberedProgram) (rows : List InputRow)
    → AreInputs file files program rows → KeepInputs program rows
inputs_keep law None files program rows is = subst (KeepInputs program) (sym is) (record { each = All-nil (KeepsInput program); apart = λ i j d less low. absurd (omega arith) })
inputs_keep law (Some file) files program rows (bytes, told, means) = law bytes program rows means

-- ---- promises

-- a text that was printed is that of the order of work
pub analysed : (given : AnalyseWords) (before mid end : ShelfState) (program : ScopedProgram) (tables : Tables) (report : Reported) (text : Vec ℕ Global)
    → (scoped_in given.program given.root).steps.Gives before.files (log_of before) program (log_of mid) × (mid.failed ≡ before.failed) → mid.files ≡ before.files → before.faults ≤ mid.faults
    → (tables_in program.expanded.program given.inputs given.costs).steps.Gives mid.files (log_of mid) tables (log_of end) × (end.failed ≡ mid.failed) → end.files ≡ mid.files → mid.faults ≤ end.faults
    → IsOnly (ReportMeans given.certified program tables.rows tables.costs (policy_of given.merging) given.turns given.pivots) (Ok report) → text.items ≡ report_text report
    → Works (analysing given) (λ (t : Vec ℕ Global). t.items) before (Ok text) end
unfolding analysing
analysed given before mid end program tables report text first same later second same_again later_again only is =
    let read = subst (λ (told : Option Files). (tables_in program.expanded.program given.inputs given.costs).steps.Gives told (log_of mid) tables (log_of end)) same second.0 in
    record {
      ends = ((program, log_of mid, first.0, (tables, log_of end, read, (report, log_of end, (only, refl), (is, refl)))), second.1 ∙ first.1);
      same = same_again ∙ same;
      later = omega (arith, later, later_again);
    }

-- a report that was printed is sound
pub prints_sound : RowsKeepTheRules → (given : AnalyseWords) (told : Option Files) (before mid later : Log) (program : ScopedProgram) (tables : Tables) (report : Reported) (text : List ℕ)
    → (scoped_in given.program given.root).steps.Gives told before program mid → (tables_in program.expanded.program given.inputs given.costs).steps.Gives told mid tables later
    → IsMadeOf told before mid (file_name given.program ∷ []) (λ files. IsToldProgram given.program given.root files program.expanded.program)
    → SoundPrint given.certified program.expanded.program program.expanded.graph tables.rows tables.costs report → SpellsReport text report → IsMadeOf told before later (names_read given.program given.inputs given.costs) (λ files. IsSoundReport given files text)
prints_sound law given told before mid later program tables report text scopes read of sound spelled =
    let expanded = program.expanded in
    both_made told before mid later (file_name given.program ∷ []) (option_to_list given.inputs ++ option_to_list given.costs) (λ files. IsToldProgram given.program given.root files expanded.program)
    (AreTabled given.inputs given.costs expanded.program tables) (λ files. IsSoundReport given files text) of
    (tables_made expanded.program given.inputs given.costs told mid tables later read)
    (λ files program_told both.
    record {
      program = expanded.program;
      graph = expanded.graph;
      rows = tables.rows;
      costs = tables.costs;
      report = report;
      program_told = program_told;
      graph_is = told_graph given.program given.root told before program mid scopes;
      rows_told = both.0;
      rows_keep = inputs_keep law given.inputs files expanded.program tables.rows both.0;
      costs_told = both.1;
      shown = spelled;
      sound = sound.sound;
      certificate = sound.certificate;
    })

-- a run that was told is that of the program
pub tells_run : RowsKeepTheRules → (given : RunWords) (told : Option Files) (before mid later : Log) (program : ScopedProgram) (tables : Tables) (text : List ℕ)
    → (scoped_in given.program given.root).steps.Gives told before program mid → (tables_in program.expanded.program given.inputs given.costs).steps.Gives told mid tables later
    → IsMadeOf told before mid (file_name given.program ∷ []) (λ files. IsToldProgram given.program given.root files program.expanded.program)
    → IsRunText program.expanded tables.rows tables.costs given.turns text → IsMadeOf told before later (names_read given.program given.inputs given.costs) (λ files. TellsRun given files text)
tells_run law given told before mid later program tables text scopes read of shown =
    let expanded = program.expanded in
    both_made told before mid later (file_name given.program ∷ []) (option_to_list given.inputs ++ option_to_list given.costs) (λ files. IsToldProgram given.program given.root files expanded.program)
    (AreTabled given.inputs given.costs expanded.program tables) (λ files. TellsRun given files text) of
    (tables_made expanded.program given.inputs given.costs told mid tables later read)
    (λ files program_told both.
    record {
      program = expanded.program;
      graph = expanded.graph;
      rows = tables.rows;
      costs = tables.costs;
      program_told = program_told;
      graph_is = told_graph given.program given.root told before program mid scopes;
      rows_told = both.0;
      rows_keep = inputs_keep law given.inputs files expanded.program tables.rows both.0;
      costs_told = both.1;
      shown = shown;
    })

-- a text that a unit was lowered to does what the unit does
pub lowers_text : (given : LowerWords) (told : Option Files) (before after : Log) (unit : UnitTree) (name : List ℕ) (whole : WholeProgram) (text : List ℕ)
    → IsMadeOf told before after (given.file ∷ []) (λ files. IsToldUnit given.file given.root files unit) → name ≡ given.root → whole ≡ lowered unit → SpellsProgram (canonical_text whole) whole → text ≡ canonical_text whole
    → Passes (lowered unit) name → HaveUnitsOutcomes unit name → IsMadeOf told before after (given.file ∷ []) (λ files. IsLoweredText given files text)
lowers_text given told before after unit name whole text of named is spelled shown passes outcomes =
    widened told before after (given.file ∷ []) (λ files. IsToldUnit given.file given.root files unit) (λ files. IsLoweredText given files text)
    (λ files unit_told. record {
      unit = unit;
      unit_told = unit_told;
      again = subst (λ (w : WholeProgram). SpellsProgram text w) is (subst (λ (l : List ℕ). SpellsProgram l whole) (sym shown) spelled);
      passes = subst (Passes (lowered unit)) named passes;
      outcomes = subst (HaveUnitsOutcomes unit) named outcomes;
    }) of

-- a text that was printed spells the same program
pub prints_same : CanonicalTextsSpell
    → (file : List ℕ) (told : Option Files) (before : Log) (text : List ℕ) (after : Log)
    → (printing file).steps.Gives told before text after → IsMadeOf told before after (file ∷ []) (λ files. IsSameProgram file files text)
unfolding printing program_in
prints_same back file told before text after (whole, mid, (bytes, log, read, (spelled, same)), (shown, over)) =
    one_made told before after file bytes (λ files. IsSameProgram file files text) (over ∙ same ∙ read.0) read.2
    (λ files is. record { bytes = bytes; whole = whole; told = is; spelled = spelled.means; again = rw shown (back whole (bytes, spelled.means)) })

-- and so does a text of C, but for places
pub prints_same_unit : PrintedUnitsAreReadBack
    → (file : List ℕ) (told : Option Files) (before : Log) (text : List ℕ) (after : Log)
    → (printing_c file).steps.Gives told before text after → IsMadeOf told before after (file ∷ []) (λ files. IsSameUnit file files text)
unfolding printing_c unit_in
prints_same_unit back file told before text after (whole, mid, (bytes, log, read, (spelled, same)), (shown, over)) =
    one_made told before after file bytes (λ files. IsSameUnit file files text) (over ∙ same ∙ read.0) read.2
    (λ files is. record { bytes = bytes; whole = whole; told = is; spelled = spelled.means; again = rw shown (back whole (bytes, spelled.means)) })

-- a stop is not done
not_done : (c : Cause) → status_of c ≡ statuses.Done → ⊥
not_done Usage e = cc
not_done Source e = cc
not_done Example e = cc
not_done Unbounded e = cc
not_done No e = cc
not_done (Unread name) e = cc

-- after `Done` the promise is kept
pub promised : (task : Task) (told : Option Files) (ending : Ending) (from to : SinkState)
    → ending_status ending ≡ statuses.Done
    → IfSome told (λ files. KeepsPromise task files ending) → Wrote (ending_text ending) from to → IfSome told (λ files. Promised task files from to)
promised task None ending from to e h w = tt
promised task (Some files) (Finished text) from to e h w = (text, h, w)
promised task (Some files) (Stopped outcome) from to e h w = absurd (not_done outcome.cause e)

-- nor is a failed read, where the status is none
pub not_unread : (ending : Ending) (status : Status) → status ≡ ending_status ending → (status ≡ statuses.ReadFailed → ⊥) → ending_unread ending ≡ None
not_unread (Finished text) status is other = refl
not_unread (Stopped outcome) status is other = of_cause outcome.cause (λ failed. other (is ∙ failed))
  where
    of_cause : (c : Cause) → (status_of c ≡ statuses.ReadFailed → ⊥) → unread_of c ≡ None
    of_cause Usage never = refl
    of_cause Source never = refl
    of_cause Example never = refl
    of_cause Unbounded never = refl
    of_cause No never = refl
    of_cause (Unread name) never = absurd (never refl)

-- what is not done is told in one line
pub line_of : (ending : Ending) (status : Status) (from to : SinkState) → status ≡ ending_status ending → (status ≡ statuses.Done → ⊥) → TellsInALine ending → Wrote (ending_text ending) from to
    → (line : List ℕ) × (is_line line ≡ true) × Wrote line from to
line_of (Finished text) status from to is other tells wrote = absurd (other is)
line_of (Stopped outcome) status from to is other tells wrote = (outcome.text, tells, wrote)

-- an answer is that of files that hold what was read
pub answered_over : (words : List (List ℕ)) (before after : ShelfState) (ending : Ending) (status : Status) (from to : SinkState) → EndsSo (task_of words).work before.files (log_of before) ending (log_of after)
    → status ≡ ending_status ending → (status ≡ statuses.ReadFailed → ⊥) → Wrote (ending_text ending) from to
    → IsAnswerRead words status before after from to
answered_over words before after ending status from to due is other wrote =
    let none = not_unread ending status is other in
    let w = (task_of words).work in
    let of = ends_by_readings w before.files (log_of before) ending (log_of after) none due in
    record {
      ending = ending;
      names = of.names;
      anyhow = of.anyhow;
      over = widened before.files (log_of before) (log_of after) of.names (λ files. (log : Log) → EndsSo w (Some files) log ending (log_after log of.names)) (λ files. IsAnswerOf w files status (ending_text ending))
          (λ files so. record { ending = ending; before = log_of before; after = log_after (log_of before) of.names; due = so (log_of before); no_failed_read = none; status_is = is; text_is = refl }) of.made;
      wrote = wrote;
    }

-- and after `Done` the promise is kept for them
pub promised_over : (task : Task) (before after : ShelfState) (ending : Ending) (from to : SinkState) → ending_status ending ≡ statuses.Done
    → KeepsOverRead task before after ending → Wrote (ending_text ending) from to → OverRead before after task.names (λ files. Promised task files from to)
promised_over task before after (Finished text) from to e kept wrote =
    widened before.files (log_of before) (log_of after) task.names (λ files. task.Promise files text) (λ files. Promised task files from to) (λ files holds. (text, holds, wrote)) kept
promised_over task before after (Stopped outcome) from to e kept wrote = absurd (not_done outcome.cause e)

-- where the count of faults did not rise, no failed read is told
pub no_failed_read : (name : Option (List ℕ)) (before after : ShelfState) → Tells name before after
    → (Rose before.faults after.faults → ⊥) → name ≡ None
no_failed_read None before after t n = refl
no_failed_read (Some name) before after t n = absurd (n t.0)

-- an answer that tells no failed read is that of the told files
pub settle : (w : Work (List ℕ)) (told : Option Files) (p : Log) (ending : Ending) (q : Log) (status : Status) (from to : SinkState) → EndsSo w told p ending q → ending_unread ending ≡ None
    → status ≡ ending_status ending → Wrote (ending_text ending) from to → IfSome told (λ files. (text : List ℕ) × IsAnswerOf w files status text × Wrote text from to)
settle w None p ending q status from to due none is wrote = tt
settle w (Some files) p ending q status from to due none is wrote =
    (ending_text ending, record { ending = ending; before = p; after = q; due = due; no_failed_read = none; status_is = is; text_is = refl }, wrote)
