-- Where each range has one number, what is told is exactly the one run.
use Rattle.std.proofs.Common.{◌≡◌, ℕ, Bool, true, false, List, map, slice_index, Option, None, Some, Result, Ok, Err, inl, inr, refl, sym, ap, subst, ◌∙◌}
use Rattle.flow_base.specs.Outside.{Files}
use Rattle.alf_ops.specs.declared.history.RunFault.{RunFault}
use Rattle.alf_check.specs.declared.rows.InputRow.{InputRow}
use Rattle.alf_check.specs.CheckedPrograms.{CheckedParts, NumberedProgram, seen}
use Rattle.flow_graph.specs.Nodes.{Node}
use Rattle.flow_graph.specs.Numbering.{GraphParts}
use Rattle.flow_graph.specs.Graphs.{HasProgram}
use Rattle.alf_runs.specs.Outcomes.{Outcome as RunOutcome}
use Rattle.alf_runs.specs.Runs.{Ends, cost_of}
use Rattle.alf_interp.specs.Traces.{IsPast}
use Rattle.cost_table.specs.CostTables.{CostTable}
use Rattle.domain_core.specs.Outlines.{Outlined, Shape, shape_of}
use Rattle.scope_graph.specs.Laws.{HasOneOutline}
use Rattle.flow_facts.specs.declared.report.BoundWord.{BoundWord}
use Rattle.flow_facts.specs.Reports.{Certificate, Reported}
use Rattle.worklist_rules.specs.declared.policy.Policy.{Policy}
use Rattle.path_lp.specs.Bounding.{told_path_bound}
use Rattle.report_soundness.specs.Exact.{IsExact}
use Rattle.program_machines.specs.NodeCosts.{node_cost}
use Rattle.program_machines.specs.Starts.{AreLone}
use Rattle.program_analysis.specs.Answers.{Told, Unbounded as LeftIn}
use Rattle.report_soundness.specs.Bounded.{with_path_bound, bounded}
use Rattle.report_soundness.specs.Certified.{printed_as}
use Rattle.program_analysis.specs.TwinMachines.{IsProgramOf}
use Rattle.program_analysis.specs.LoneAnalyses.{LoneAnalysisIsExact}
use Rattle.program_analysis.specs.BoundedAnalyses.{IsBoundedReport, IsPrintedReport}
use Rattle.program_analysis.specs.AlikeBoundLaws.{bounded_of}
use Rattle.program_analysis.specs.BoundedSound.{LoneBoundsAgree}
use Rattle.command_plans.specs.Log.{Log}
use Rattle.command_plans.specs.Outcome.{Outcome, Unbounded, Ending, Finished, Stopped, ending_unread}
use Rattle.command_plans.specs.Work.{EndsSo}
use Rattle.answer_texts.specs.ScopeLines.{left_line}
use Rattle.command_files.specs.Scopes.{ScopedProgram, IsScoped, scoped_in}
use Rattle.command_files.specs.Tables.{Tables, tables_in}
use Rattle.sweet_cli.specs.Run.{IsLeft, low_start}
use Rattle.sweet_cli.specs.Words.{AnalyseWords, Command}
use Rattle.sweet_cli.specs.Table.{task_for_some}
use Rattle.sweet_cli.specs.Analyse.{analysing, policy_of, IsLeftAt, ReportMeans}
use Rattle.sweet_cli.specs.Exact.{TellsOneRun, MeansOneRun, EndsAsOneRun, OneInputIsToldExactly, OneInputIsAnsweredExactly}
use Rattle.sweet_cli.proofs.SoundReports.{costs_same}

-- ---- in the words of the program

module _ (program : NumberedProgram) (checked : CheckedParts) (is : IsProgramOf program checked) where
  ends_same : (rows : List InputRow) (run : List Node) (outcome : RunOutcome)
      → Ends (seen checked) (low_start (seen checked) rows) run outcome
      → Ends program (low_start program rows) run outcome
  ends_same rows run outcome h = subst (λ (p : NumberedProgram). Ends p (low_start p rows) run outcome) is h

  past_same : (nodes : List Node) (rows : List InputRow) (turns n : ℕ)
      → IsPast (seen checked) nodes (low_start (seen checked) rows) turns n
      → IsPast program nodes (low_start program rows) turns n
  past_same nodes rows turns n h = subst (λ (p : NumberedProgram). IsPast p nodes (low_start p rows) turns n) is h

-- ---- what is told

-- a path bound changes nothing of it
exact_with : (o : Outlined) (given : Reported) (b : ℕ × BoundWord) (trace : List ℕ) (fault : Option RunFault)
    → IsExact o given trace fault → IsExact o (with_path_bound given b) trace fault
exact_with o given b trace fault is =
    record { totals = is.totals; deads = is.deads; loops = is.loops; counts = is.counts; pairs = is.pairs; alarms = is.alarms; bound = is.bound }

told_exactly : LoneAnalysisIsExact → LoneBoundsAgree → (program : ScopedProgram) (rows : List InputRow) (costs : CostTable) (policy : Policy) (turns pivots : ℕ) (report : Reported) → AreLone rows
    → IsBoundedReport program.expanded.program program.expanded.graph rows costs policy turns pivots report
    → TellsOneRun program.expanded.program program.expanded.graph rows costs turns report
told_exactly law agree program rows costs policy turns pivots report lone h =
    let numbered = program.expanded.program in
    let graph = program.expanded.graph in
    let a = h.analysis in
    let given = h.given in
    let told = law numbered graph rows costs policy turns (Told given) lone a in
    let same = costs_same numbered a.checked a.program_is costs in
    let priced = a.costs_are ∙ ap (λ (cost : Node → ℕ). map cost graph.nodes) (sym same) in
    let count : given.count_bound ≡ cost_of (node_cost numbered costs) told.runs.run = told.cost costs priced ∙ ap (λ (cost : Node → ℕ). cost_of cost told.runs.run) same in
    let both : (told_path_bound a.outline given.facts pivots).0 ≡ given.count_bound = agree numbered graph rows costs policy turns pivots (bounded a.outline given pivots) lone (record { given = given; analysis = a; bounded = refl }) in
    subst (λ (r : Reported). TellsOneRun numbered graph rows costs turns r) (sym h.bounded)
    (record {
      trace = told.nodes;
      outcome = told.outcome;
      runs = record { run = told.runs.run; ends = ends_same numbered a.checked a.program_is rows told.runs.run told.outcome told.runs.ends; numbers = told.runs.numbers };
      within = told.within;
      fault = told.fault;
      ends = told.ends;
      outline = a.outline;
      outline_is = a.outline_is;
      exact = exact_with a.outline given (told_path_bound a.outline given.facts pivots) told.nodes told.fault told.exact;
      count = count;
      path = both ∙ count;
    })

-- and neither does a certificate
printed_tells : (certify : Bool) (program : NumberedProgram) (graph : GraphParts) (rows : List InputRow) (costs : CostTable) (turns : ℕ) (bare : Reported) (cert : Certificate)
    → TellsOneRun program graph rows costs turns bare → TellsOneRun program graph rows costs turns (printed_as certify bare cert)
printed_tells false program graph rows costs turns bare cert h = h
printed_tells true program graph rows costs turns bare cert h =
    let is = h.exact in
    record {
      trace = h.trace;
      outcome = h.outcome;
      runs = h.runs;
      within = h.within;
      fault = h.fault;
      ends = h.ends;
      outline = h.outline;
      outline_is = h.outline_is;
      exact = record { totals = is.totals; deads = is.deads; loops = is.loops; counts = is.counts; pairs = is.pairs; alarms = is.alarms; bound = is.bound };
      count = h.count;
      path = h.path;
    }

printed_exactly : LoneAnalysisIsExact → LoneBoundsAgree → (certify : Bool) (program : ScopedProgram) (rows : List InputRow) (costs : CostTable) (policy : Policy) (turns pivots : ℕ) (report : Reported)
    → AreLone rows → IsPrintedReport certify program.expanded.program program.expanded.graph rows costs policy turns pivots report
    → TellsOneRun program.expanded.program program.expanded.graph rows costs turns report
printed_exactly law agree certify program rows costs policy turns pivots report lone h =
    let numbered = program.expanded.program in
    let graph = program.expanded.graph in
    let bare = told_exactly law agree program rows costs policy turns pivots h.bare lone (bounded_of certify numbered graph rows costs policy turns pivots report h) in
    subst (λ (r : Reported). TellsOneRun numbered graph rows costs turns r) (sym h.shown) (printed_tells certify numbered graph rows costs turns h.bare h.cert bare)

left_exactly : HasOneOutline → LoneAnalysisIsExact → (program : ScopedProgram) (rows : List InputRow) (costs : CostTable) (policy : Policy) (turns : ℕ) (outcome : Outcome) → AreLone rows
    → IsScoped program.expanded.graph program.scoped → IsLeftAt program rows costs policy turns outcome → IsLeft program (low_start program.expanded.program rows) turns outcome
left_exactly one law program rows costs policy turns outcome lone scoped left =
    let numbered = program.expanded.program in
    let graph = program.expanded.graph in
    let h = left.left in
    let goes = law numbered graph rows costs policy turns (LeftIn left.scope) lone h in
    let has : HasProgram graph = record { program = seen h.checked; keeps = h.keeps; is = h.graph_is } in
    let shape : Shape = record { edges = graph.edges; own = program.scoped.own; ranks = scoped.ranks; scopes = program.scoped.scopes } in
    let same = one graph (shape_of h.outline) shape has h.outline_is scoped.outline in
    let scope : left.scope ≡ slice_index program.scoped.own goes.node = goes.own ∙ ap (λ (own : List ℕ). slice_index own goes.node) same.own in
    record {
      node = goes.node;
      past = past_same numbered h.checked h.program_is graph.nodes rows turns goes.node goes.past;
      line = left.line ∙ ap (λ (s : ℕ). record { cause = Unbounded; text = left_line graph program.scoped.scopes s }) scope;
    }

pub exactly : HasOneOutline → LoneAnalysisIsExact → LoneBoundsAgree → OneInputIsToldExactly
exactly one law agree certify program rows costs policy turns pivots (Ok report) lone scoped means = printed_exactly law agree certify program rows costs policy turns pivots report lone means
exactly one law agree certify program rows costs policy turns pivots (Err outcome) lone scoped means = left_exactly one law program rows costs policy turns outcome lone scoped means

-- ---- over files

-- the scopes that a file gives are those of its graph
scopes_are : (given : AnalyseWords) (told : Option Files) (before : Log) (program : ScopedProgram) (after : Log) → (scoped_in given.program given.root).steps.Gives told before program after
    → IsScoped program.expanded.graph program.scoped
unfolding scoped_in
scopes_are given told before program after (expanded, log, first, (scoped, mid, (means, still), (same, over))) =
    subst (λ (p : ScopedProgram). IsScoped p.expanded.graph p.scoped) (sym same) means.means

module _ (one : HasOneOutline) (law : LoneAnalysisIsExact) (agree : LoneBoundsAgree) (given : AnalyseWords) (files : Files) (before mid late : Log) (program : ScopedProgram) (tables : Tables)
    (scopes : (scoped_in given.program given.root).steps.Gives (Some files) before program mid)
    (rows : (tables_in program.expanded.program given.inputs given.costs).steps.Gives (Some files) mid tables late)
    (lone : AreLone tables.rows) where
  judged_exactly : (meaning : Result Reported Outcome) → ReportMeans given.certified program tables.rows tables.costs (policy_of given.merging) given.turns given.pivots meaning
      → MeansOneRun program tables.rows tables.costs given.turns meaning
  judged_exactly meaning means =
      exactly one law agree given.certified program tables.rows tables.costs (policy_of given.merging) given.turns given.pivots meaning lone (scopes_are given (Some files) before program mid scopes) means

  -- after the program and the tables that the files give, whatever the work was given of them
  abbrev MeansJudged : ScopedProgram → Tables → Result Reported Outcome → Type 0
  MeansJudged p t meaning = ReportMeans given.certified p t.rows t.costs (policy_of given.merging) given.turns given.pivots meaning

  same_meaning : (p : ScopedProgram) (t : Tables) (l n : Log) (meaning : Result Reported Outcome)
      → (scoped_in given.program given.root).steps.Gives (Some files) before p l
      → (tables_in p.expanded.program given.inputs given.costs).steps.Gives (Some files) l t n
      → MeansJudged p t meaning → MeansJudged program tables meaning
  same_meaning p t l n meaning first second means =
      let is : p ≡ program = ((scoped_in given.program given.root).one.gives files before before p program l mid first scopes).0 in
      let second_is = subst (λ (q : ScopedProgram). (tables_in q.expanded.program given.inputs given.costs).steps.Gives (Some files) l t n) is second in
      let tables_are : t ≡ tables = ((tables_in program.expanded.program given.inputs given.costs).one.gives files l mid t tables n late second_is rows).0 in
      subst (λ (u : Tables). MeansJudged program u meaning) tables_are (subst (λ (q : ScopedProgram). MeansJudged q t meaning) is means)

  pub ends_exactly : (ending : Ending) (after : Log) → EndsSo (analysing given) (Some files) before ending after → ending_unread ending ≡ None
      → EndsAsOneRun program tables.rows tables.costs given.turns ending
  unfolding analysing
  ends_exactly (Finished text) after (p, l, first, (t, n, second, (report, m, (only, still), (is, over)))) of =
      (report, is, judged_exactly (Ok report) (same_meaning p t l n (Ok report) first second only.means))
  ends_exactly (Stopped outcome) after (inl first) of = absurd ((scoped_in given.program given.root).one.apart files before before program outcome mid after of scopes first)
  ends_exactly (Stopped outcome) after (inr (p, l, first, inl second)) of =
      let is : p ≡ program = ((scoped_in given.program given.root).one.gives files before before p program l mid first scopes).0 in
      let stops = subst (λ (q : ScopedProgram). (tables_in q.expanded.program given.inputs given.costs).steps.Stops (Some files) l outcome after) is second in
      absurd ((tables_in program.expanded.program given.inputs given.costs).one.apart files mid l tables outcome late after of rows stops)
  ends_exactly (Stopped outcome) after (inr (p, l, first, inr (t, n, second, inl (only, still)))) of = judged_exactly (Err outcome) (same_meaning p t l n (Err outcome) first second only.means)
  ends_exactly (Stopped outcome) after (inr (p, l, first, inr (t, n, second, inr (report, m, third, never)))) of = absurd never

pub answered_exactly : HasOneOutline → LoneAnalysisIsExact → LoneBoundsAgree → OneInputIsAnsweredExactly
answered_exactly one law agree words given files before mid late after program tables ending is scopes rows lone ends of =
    let told = subst (λ (asked : Option Command). EndsSo (task_for_some asked).work (Some files) before ending after) is ends in
    ends_exactly one law agree given files before mid late program tables scopes rows lone ending after told of
