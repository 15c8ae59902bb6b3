-- What is told of a replay is one thing.
--   HasOneReplay                two things that are told of one replay along one outline are one
--   held_only, objected_only    the run's cost, and the line of what speaks against the report
use Rattle.std.proofs.Common.{◌≡◌, ◌<◌, ℕ, ℤ, List, length, Result, Ok, Err, ap, sym, ◌∙◌, subst}
use Rattle.std.proofs.lemmas.List.{length-map}
use Rattle.alf_check.specs.declared.rows.InputRow.{InputRow}
use Rattle.alf_check.specs.CheckedPrograms.{NumberedProgram}
use Rattle.alf_runs.specs.Starts.{AreWithin, start, words_of}
use Rattle.flow_graph.specs.Nodes.{Node}
use Rattle.flow_graph.specs.Graphs.{HasProgram}
use Rattle.cost_table.specs.CostTables.{CostTable}
use Rattle.domain_core.specs.declared.outline.NodeRow.{NodeRow}
use Rattle.domain_core.specs.Outlines.{Outlined, Shape, shape_of}
use Rattle.flow_facts.specs.Reports.{Reported}
use Rattle.ipet_rows.specs.Shaped.{FitOutline}
use Rattle.program_analysis.specs.AnalysisLaws.{AreAlike, HasOneAlike, same_named}
use Rattle.report_objections.specs.declared.objection.Objection.{Objection}
use Rattle.report_objections.specs.Shaping.{IsShaped}
use Rattle.report_soundness.specs.ReportTold.{costs_of, named_nodes}
use Rattle.run_replays.specs.OneReplay.{Differ}
use Rattle.run_replays.specs.Replays.{Told, Asks, objects, passes, IsOutside, IsReplayed, TellsValues, TellsReplayedRun}
use Rattle.command_plans.specs.Outcome.{Outcome, No, AreAlikeResults}
use Rattle.command_plans.specs.Work.{IsOnly, alike}
use Rattle.answer_texts.specs.NoLines.{holds_line, objection_line}
use Rattle.command_files.specs.Scopes.{ScopedProgram}
use Rattle.sweet_cli.specs.Replay.{ReplayMeans, IsReplayOf}

-- ---- along two outlines of one shape, with the same names and costs

shaped_along : (o other : Outlined) (report : Reported) → AreAlike o other → IsShaped o report → IsShaped other report
shaped_along o other report alike is =
    let named : named_nodes o ≡ named_nodes other = same_named o.nodes other.nodes (ap (λ (s : Shape). s.own) alike.shape) alike.costs alike.names in
    let count : length o.nodes ≡ length other.nodes = sym (length-map o.nodes (λ (row : NodeRow). row.cost)) ∙ ap (λ (l : List ℕ). length l) alike.costs ∙ length-map other.nodes (λ (row : NodeRow). row.cost) in
    record {
      nodes = is.nodes ∙ named;
      scopes = is.scopes ∙ ap (λ (s : Shape). s.scopes) alike.shape;
      facts = subst (λ (s : Shape). FitOutline s report.facts) alike.shape is.facts;
      totals = λ n low. is.totals n (subst (λ (k : ℕ). n < k) (sym count) low);
    }

alike_back : (o other : Outlined) → AreAlike o other → AreAlike other o
alike_back o other alike = record { shape = sym alike.shape; names = sym alike.names; costs = sym alike.costs }

module _ (program : NumberedProgram) (nodes : List Node) (rows : List InputRow) (report : Reported) (values : List ℤ) (told : Told) where
  -- what is told of the values and of the run, by a shape and costs
  abbrev TellsBy : Shape → List ℕ → Type 0
  TellsBy s costs = Asks (IsOutside rows values) (AreWithin rows values) (TellsReplayedRun program nodes (start program rows (words_of rows values)) s costs report) told

  tells_along : (o other : Outlined) → AreAlike o other → TellsValues program nodes rows o report values told
      → TellsValues program nodes rows other report values told
  tells_along o other alike is = subst (TellsBy (shape_of other)) alike.costs (subst (λ (s : Shape). TellsBy s (costs_of o)) alike.shape is)

  replayed_along : (o other : Outlined) → AreAlike o other → IsReplayed program nodes rows o report values told
      → IsReplayed program nodes rows other report values told
  replayed_along o other alike (objects e is same) =
      objects e (record { shapeless = λ shape. is.shapeless (shaped_along other o report (alike_back o other alike) shape); is = is.is }) same
  replayed_along o other alike (passes shape tells) = passes (shaped_along o other report alike shape) (tells_along o other alike tells)

-- ---- what is told of a replay

-- two things that are told of one replay along one outline are one
abbrev pub HasOneReplay : Type 0
HasOneReplay = (program : NumberedProgram) (nodes : List Node) (rows : List InputRow) (o : Outlined) (report : Reported) (values : List ℤ) → Differ nodes → (a b : Told)
    → IsReplayed program nodes rows o report values a → IsReplayed program nodes rows o report values b → a ≡ b

module _ (along : HasOneAlike) (one : HasOneReplay) (program : ScopedProgram) (rows : List InputRow) (costs : CostTable) (report : Reported) (values : List ℤ)
    (has : HasProgram program.expanded.graph) (apart : Differ program.expanded.graph.nodes) where
  -- so is told
  abbrev Tells : Told → Type 0
  Tells = IsReplayOf program.expanded.program program.expanded.graph rows costs report values

  told_one : (a b : Told) → Tells a → Tells b → a ≡ b
  told_one a b h k =
      let are = along program.expanded.program program.expanded.graph costs h.outline k.outline has h.outline_is h.names h.costs_are k.outline_is k.names k.costs_are in
      one program.expanded.program program.expanded.graph.nodes rows k.outline report values apart a b
      (replayed_along program.expanded.program program.expanded.graph.nodes rows report values a h.outline k.outline are h.is) k.is

  costs_one : (a b : ℕ) → Tells (Ok a) → Tells (Ok b) → a ≡ b
  costs_one a b h k = let same : ◌≡◌ {A = Told} (Ok a) (Ok b) = told_one (Ok a) (Ok b) h k in cc

  objections_one : (e f : Objection) → Tells (Err e) → Tells (Err f) → e ≡ f
  objections_one e f h k = let same : ◌≡◌ {A = Told} (Err e) (Err f) = told_one (Err e) (Err f) h k in cc

  not_both : (cost : ℕ) (e : Objection) → Tells (Ok cost) → Tells (Err e) → ⊥
  not_both cost e h k = let same : ◌≡◌ {A = Told} (Ok cost) (Err e) = told_one (Ok cost) (Err e) h k in cc

  -- the line of what speaks against the report
  abbrev objected_by : Objection → Outcome
  objected_by objection = record { cause = No; text = objection_line objection }

  -- the run's cost is the only meaning
  pub held_only : (cost : ℕ) (text : List ℕ) → Tells (Ok cost) → text ≡ holds_line cost
      → IsOnly (ReplayMeans program rows costs report values) (Ok text)
  held_only cost text h line = record { means = record { cost = cost; holds = h; line = line }; only = only }
    where
      only : (y : Result (List ℕ) Outcome) → ReplayMeans program rows costs report values y
          → AreAlikeResults (Ok text) y
      only (Ok other) k = line ∙ ap holds_line (costs_one cost k.cost h k.holds) ∙ sym k.line
      only (Err o) k = not_both cost k.objection h k.first

  -- and so is what speaks against the report
  pub objected_only : (objection : Objection) (text : List ℕ) → Tells (Err objection) → text ≡ objection_line objection
      → IsOnly (ReplayMeans program rows costs report values) (Err (record { cause = No; text = text }))
  objected_only objection text h is = record { means = record { objection = objection; first = h; line = here }; only = only }
    where
      o : Outcome
      o = record { cause = No; text = text }

      here : o ≡ objected_by objection
      here = λ i. record { cause = No; text = is i }

      only : (y : Result (List ℕ) Outcome) → ReplayMeans program rows costs report values y → AreAlikeResults (Err o) y
      only (Ok other) k = not_both k.cost objection k.holds h
      only (Err x) k = alike o x (here ∙ ap objected_by (objections_one objection k.objection h k.first) ∙ sym k.line)
