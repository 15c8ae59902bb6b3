-- What is promised of the numbers of a report.
--   steps_counted    the steps of a policy's run are those among its events
--   turns_counted    so the turns that a report with its certificate tells are those of its exploration
--   summed_only      the answer over files in memory is the only one
--   judged_works     an answer that no shelf is touched for
--   kept_anyway      and of which something holds whatever the files are
--   summary_told     the text is that of the order of work
--   tells_summary    and it keeps the promise
use Rattle.std.proofs.Common.{◌≡◌, ◌≤◌, ◌+◌, ℕ, List, [], ◌∷◌, Vec, Global, Result, Ok, Err, Option, None, Some, IfOk, IfSome, true, refl, sym, ap, ◌∙◌, subst, arith}
use Rattle.flow_base.specs.Outside.{Files, Rose}
use Rattle.flow_base.specs.Shelves.{ShelfState}
use Rattle.alf_check.specs.declared.rows.InputRow.{InputRow}
use Rattle.alf_check.specs.CheckedPrograms.{NumberedProgram}
use Rattle.flow_graph.specs.Numbering.{GraphParts}
use Rattle.cost_table.specs.CostTables.{CostTable, one_each}
use Rattle.domain_core.specs.declared.event.Event.{Event}
use Rattle.domain_core.specs.declared.event.Event.TheVariants.{Step, Merge}
use Rattle.domain_core.specs.Machines.{Machine}
use Rattle.domain_core.specs.Orders.{Order}
use Rattle.domain_core.specs.Recordings.{Recording}
use Rattle.flow_facts.specs.Reports.{Certificate, Reported}
use Rattle.worklist_rules.specs.declared.policy.Policy.{Policy}
use Rattle.worklist_rules.specs.Pools.{Pooled}
use Rattle.worklist_rules.specs.Policies.{IsPolicyRun}
use Rattle.memory_model.specs.SeenOrders.{parts_order}
use Rattle.abstract_step.specs.Steppers.{StepperParts, stepped_by}
use Rattle.report_soundness.specs.ReportTold.{four_order, four_recording}
use Rattle.program_analysis.specs.Analyses.{first_pool}
use Rattle.program_analysis.specs.BoundedAnalyses.{IsPrintedReport}
use Rattle.command_plans.specs.declared.stop.Stop.{Stop}
use Rattle.command_plans.specs.declared.stop.Stop.TheVariants as stops
use Rattle.command_plans.specs.Outcome.{Outcome, AreAlikeResults, cause_of, unread_of}
use Rattle.command_plans.specs.Log.{Log, log_of}
use Rattle.command_plans.specs.Work.{Work, IsOnly, judged}
use Rattle.command_plans.specs.Readings.{still_made}
use Rattle.command_plans.specs.Works.{Works, Judges, OverRead, Tells}
use Rattle.program_files.specs.Told.{IsToldProgram}
use Rattle.answer_texts.specs.SummaryText.{steps_among, summary_text, turns_of}
use Rattle.command_files.specs.Scopes.{ScopedProgram, scoped_in}
use Rattle.command_files.specs.Tables.{Tables, tables_in}
use Rattle.sweet_cli.specs.Analyse.{policy_of, ReportMeans}
use Rattle.sweet_cli.specs.MadeFile.{made_words}
use Rattle.sweet_cli.specs.Generate.{EndsOver, TellsSummary, summing}
use Rattle.sweet_cli.proofs.Promises.{told_graph, told_tables}
use Rattle.sweet_cli.proofs.SoundReports.{SoundPrint}

-- ---- turns

module _ {S T C R B : Type 0} (machine : S → Machine T C) (states : Order T) (recorders : Order R) (z : Recording R B) (policy : Policy) (turns : ℕ) where
  -- the steps of a policy's run are those among its events
  pub steps_counted : (events : List Event) (old new : Pooled S T R B)
      → IsPolicyRun machine states recorders z policy turns old events new
      → new.steps ≡ old.steps + steps_among events
  steps_counted [] old new (is, end) = let same : new.steps ≡ old.steps = ap (λ (p : Pooled S T R B). p.steps) is in omega (arith, same)
  steps_counted (Step i ∷ events) old new (more, choice, mid, (spot, found, is), rest) =
      let one : mid.steps ≡ old.steps + 1 = ap (λ (p : Pooled S T R B). p.steps) is in
      let others = steps_counted events mid new rest in
      omega (arith, one, others)
  steps_counted (Merge i j ∷ events) old new (more, choice, mid, (a, b, before, first, second, same, is), rest) =
      let none : mid.steps ≡ old.steps = ap (λ (p : Pooled S T R B). p.steps) is in
      let others = steps_counted events mid new rest in
      omega (arith, none, others)

-- so the turns that a report with its certificate tells are those of its exploration
pub turns_counted : (program : NumberedProgram) (graph : GraphParts) (rows : List InputRow) (costs : CostTable) (policy : Policy) (turns pivots : ℕ) (report : Reported)
    (h : IsPrintedReport true program graph rows costs policy turns pivots report) → turns_of report ≡ h.analysis.found.pool.steps
turns_counted program graph rows costs policy turns pivots report h =
    let found = h.analysis.found in
    let parts : StepperParts = record { checked = h.analysis.checked; graph = graph; rows = rows } in
    let all = steps_counted stepped_by parts_order four_order four_recording policy turns found.events (first_pool parts h.analysis.outline) found.pool found.explored in
    let told : turns_of report ≡ steps_among h.cert.events = ap turns_of h.shown in
    let events : steps_among h.cert.events ≡ steps_among found.events = ap (λ (c : Certificate). steps_among c.events) h.bound.cert_is in
    told ∙ events ∙ counted_from (steps_among found.events) found.pool.steps all
  where
    counted_from : (n m : ℕ) → m ≡ 0 + n → n ≡ m
    counted_from n m e = omega (arith, e)

-- ---- the only answer

module _ (work : Work (List ℕ)) (files : Files) where
  -- a value is the only meaning
  value_only : (before after : Log) (a : List ℕ) → work.steps.Gives (Some files) before a after
      → IsOnly (EndsOver work files) (Ok a)
  value_only before after a gives = record { means = (before, after, gives); only = only }
    where
      only : (y : Result (List ℕ) Outcome) → EndsOver work files y → AreAlikeResults (Ok a) y
      only (Ok b) (p, q, other) = (work.one.gives files before p a b after q gives other).0
      only (Err o) (p, q, of, other) = work.one.apart files before p a o after q of gives other

  -- and so is an outcome that tells no failed read
  outcome_only : (before after : Log) (x : Outcome) → unread_of x.cause ≡ None
      → work.steps.Stops (Some files) before x after
      → IsOnly (EndsOver work files) (Err x)
  outcome_only before after x of stops = record { means = (before, after, of, stops); only = only }
    where
      only : (y : Result (List ℕ) Outcome) → EndsOver work files y → AreAlikeResults (Err x) y
      only (Ok b) (p, q, other) = work.one.apart files p before b x q after of other stops
      only (Err o) (p, q, none, other) = (work.one.stops files before p x o after q of none stops other).0

  -- no failed read is told where none has failed
  none_failed : (name : Option (List ℕ)) (before after : ShelfState) → (Rose before.faults after.faults → ⊥)
      → Tells name before after → name ≡ None
  none_failed None before after whole told = refl
  none_failed (Some name) before after whole told = absurd (whole told.0)

  -- what was worked for over these files, of which no read failed, is judged
  pub summed_only : (before after : ShelfState) (result : Result (Vec ℕ Global) Stop) → before.files ≡ Some files
      → (Rose before.faults after.faults → ⊥)
      → Works work (λ (t : Vec ℕ Global). t.items) before result after → Judges (EndsOver work files) (λ (t : Vec ℕ Global). t.items) result
  summed_only before after (Ok text) told whole works =
      value_only (log_of before) (log_of after) text.items
      (subst (λ (fs : Option Files). work.steps.Gives fs (log_of before) text.items (log_of after)) told works.ends.0)
  summed_only before after (Err (stops.Told why text)) told whole works =
      let outcome : Outcome = record { cause = cause_of why; text = text.items } in
      let of = none_failed (unread_of (cause_of why)) before after whole works.ends.1 in (
        of,
        outcome_only (log_of before) (log_of after) outcome of
            (subst (λ (fs : Option Files). work.steps.Stops fs (log_of before) outcome (log_of after)) told works.ends.0),
      )
  summed_only before after (Err stops.Memory) told whole works = tt

-- an answer that no shelf is touched for
pub judged_works : {X : Type 0} (Means : Result (List ℕ) Outcome → Type 0) (view : X → List ℕ) (shelf : ShelfState) (result : Result X Stop)
    → Judges Means view result → Works (judged Means) view shelf result shelf
judged_works Means view shelf (Ok x) only = record { ends = ((only, refl), refl); same = refl; later = omega arith }
judged_works Means view shelf (Err (stops.Told why text)) only = record {
  ends = ((only.1, refl), subst (λ (name : Option (List ℕ)). Tells name shelf shelf) (sym only.0) refl);
  same = refl;
  later = omega arith;
}
judged_works Means view shelf (Err stops.Memory) only = record { ends = tt; same = refl; later = omega arith }

-- and of which something holds whatever the files are
pub kept_anyway : {X : Type 0} (shelf : ShelfState) (P : X → Type 0) (result : Result X Stop) → IfOk result P
    → IfOk result (λ x. OverRead shelf shelf [] (λ files. P x))
kept_anyway shelf P (Ok x) kept = still_made shelf.files (log_of shelf) (log_of shelf) (λ files. P x) refl (λ files. kept)
kept_anyway shelf P (Err stop) kept = tt

-- ---- the promise

-- the text is that of the order of work
pub summary_told : (before mid end : ShelfState) (program : ScopedProgram) (tables : Tables) (report : Reported) (text : Vec ℕ Global)
    → (scoped_in made_words.program made_words.root).steps.Gives before.files (log_of before) program (log_of mid) × (mid.failed ≡ before.failed) → mid.files ≡ before.files → before.faults ≤ mid.faults
    → (tables_in program.expanded.program None None).steps.Gives mid.files (log_of mid) tables (log_of end) × (end.failed ≡ mid.failed) → end.files ≡ mid.files → mid.faults ≤ end.faults
    → IsOnly (ReportMeans true program tables.rows tables.costs (policy_of made_words.merging) made_words.turns made_words.pivots) (Ok report) → text.items ≡ summary_text report
    → Works summing (λ (t : Vec ℕ Global). t.items) before (Ok text) end
unfolding summing
summary_told before mid end program tables report text first same later second same_again later_again only is =
    let read = subst (λ (told : Option Files). (tables_in program.expanded.program None None).steps.Gives told (log_of mid) tables (log_of end)) same second.0 in
    record {
      ends = ((program, log_of mid, first.0, (tables, log_of end, read, (report, log_of end, (only, refl), (is, refl)))), second.1 ∙ first.1);
      same = same_again ∙ same;
      later = omega (arith, later, later_again);
    }

-- and it keeps the promise
pub tells_summary : (told : Option Files) (before mid later : Log) (program : ScopedProgram) (tables : Tables) (report : Reported) (text : List ℕ)
    → (scoped_in made_words.program made_words.root).steps.Gives told before program mid → (tables_in program.expanded.program None None).steps.Gives told mid tables later
    → IfSome told (λ files. IsToldProgram made_words.program made_words.root files program.expanded.program) → text ≡ summary_text report
    → (found : IsPrintedReport true program.expanded.program program.expanded.graph tables.rows tables.costs (policy_of made_words.merging) made_words.turns made_words.pivots report)
    → SoundPrint true program.expanded.program program.expanded.graph tables.rows tables.costs report → IfSome told (λ files. TellsSummary files text)
tells_summary None before mid later program tables report text scopes read of shown found sound = tt
tells_summary (Some files) before mid later program tables report text scopes read of shown found sound =
    let expanded = program.expanded in
    let both = told_tables expanded.program None None files mid tables later read in
    let policy = policy_of made_words.merging in
    let printed = subst (λ (costs : CostTable). IsPrintedReport true expanded.program expanded.graph [] costs policy made_words.turns made_words.pivots report) both.1
    (subst (λ (rows : List InputRow). IsPrintedReport true expanded.program expanded.graph rows tables.costs policy made_words.turns made_words.pivots report) both.0 found) in
    record {
      program = expanded.program;
      graph = expanded.graph;
      report = report;
      program_told = of;
      graph_is = told_graph made_words.program made_words.root (Some files) before program mid scopes;
      found = printed;
      turns_are = turns_counted expanded.program expanded.graph [] one_each policy made_words.turns made_words.pivots report printed;
      sound = (subst (λ (costs : CostTable). SoundPrint true expanded.program expanded.graph [] costs report) both.1
          (subst (λ (rows : List InputRow). SoundPrint true expanded.program expanded.graph rows tables.costs report) both.0 sound)).sound;
      shown = shown;
    }
