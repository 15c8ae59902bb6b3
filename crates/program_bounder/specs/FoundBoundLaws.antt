-- Laws of found bounds.
--   found_bounds     so it is of each input inside the ranges
--   lone_costs       so it is where each range has one number
use Rattle.std.proofs.Common.{◌≡◌, ℕ, ℤ, List, map, refl, sym, ap, subst, ◌∙◌}
use Rattle.alf_check.specs.declared.rows.InputRow.{InputRow}
use Rattle.alf_check.specs.CheckedPrograms.{CheckedParts, NumberedProgram, seen}
use Rattle.flow_graph.specs.Nodes.{Node}
use Rattle.flow_graph.specs.Numbering.{GraphParts}
use Rattle.alf_runs.specs.Starts.{AreWithin, start, words_of}
use Rattle.cost_table.specs.CostTables.{CostTable}
use Rattle.domain_core.specs.Outlines.{Shape}
use Rattle.flow_facts.specs.Reports.{Reported}
use Rattle.worklist_rules.specs.declared.policy.Policy.{Policy}
use Rattle.report_soundness.specs.Bounded.{HasPathBound}
use Rattle.program_machines.specs.NodeCosts.{node_cost, HasCosts}
use Rattle.program_machines.specs.Starts.{AreLone}
use Rattle.program_analysis.specs.Answers.{Told}
use Rattle.program_analysis.specs.TwinMachines.{IsProgramOf}
use Rattle.program_analysis.specs.LoneAnalyses.{LoneAnalysisIsExact}
use Rattle.program_analysis.specs.BoundedAnalyses.{IsBoundedReport}
use Rattle.program_analysis.specs.BoundedSound.{IsSoundByBoundsFor, FoundReportsAreRight, LoneBoundsAgree}
use Rattle.program_bounder.specs.FoundBounds.{BoundedRun, LoneCost}

-- ---- in the words of the program

module _ (program : NumberedProgram) (checked : CheckedParts) (is : IsProgramOf program checked) where
  costs_same : (costs : CostTable) → node_cost (seen checked) costs ≡ node_cost program costs
  costs_same costs = ap (λ (p : NumberedProgram). node_cost p costs) is

  bounded_run : (graph : GraphParts) (rows : List InputRow) (o : Shape) (costs : CostTable) (report : Reported) (input : List ℤ)
      → IsSoundByBoundsFor (seen checked) graph o costs report (start (seen checked) rows (words_of rows input)) → BoundedRun program graph rows costs report input
  bounded_run graph rows o costs report input h =
      subst (λ (p : NumberedProgram). BoundedRun p graph rows costs report input) is (record { trace = h.trace; outcome = h.outcome; runs = h.runs; path = h.path })

-- ---- reports that are found

module _ (program : NumberedProgram) (graph : GraphParts) (rows : List InputRow) (costs : CostTable) (policy : Policy) (turns pivots : ℕ) (report : Reported)
    (h : IsBoundedReport program graph rows costs policy turns pivots report) where
  -- what the nodes of the parts cost
  priced : HasCosts (seen h.analysis.checked) graph costs h.analysis.outline
  priced = h.analysis.costs_are ∙ ap (λ (cost : Node → ℕ). map cost graph.nodes) (sym (costs_same program h.analysis.checked h.analysis.program_is costs))

  -- the run with an input inside the ranges costs at most the path bound
  pub found_bounds : FoundReportsAreRight → (input : List ℤ) → AreWithin rows input
      → BoundedRun program graph rows costs report input
  found_bounds law input within =
      let a = h.analysis in
      let right = law (record { checked = a.checked; graph = graph; rows = rows }) a.outline policy turns pivots report a.keeps a.graph_is a.inputs a.outline_kept a.outline_is
      (record { given = h.given; closed = a.found; bounded = h.bounded }) in
      let sound = right.sound costs priced (start (seen a.checked) rows (words_of rows input)) (record { numbers = input; within = within; starts = refl }) in
      bounded_run program a.checked a.program_is graph rows _ costs report input sound

  -- and where each range has one number, the one run costs the path bound
  pub lone_costs : LoneAnalysisIsExact → LoneBoundsAgree → AreLone rows → LoneCost program graph rows costs report
  lone_costs law agree lone =
      let a = h.analysis in
      let told = law program graph rows costs policy turns (Told h.given) lone a in
      let count = told.cost costs priced in
      let both : HasPathBound (λ b. b.0 ≡ h.given.count_bound) report =
      subst (λ (r : Reported). HasPathBound (λ b. b.0 ≡ h.given.count_bound) r) (sym h.bounded)
      (subst (λ (r : Reported). HasPathBound (λ b. b.0 ≡ r.count_bound) r) h.bounded (agree program graph rows costs policy turns pivots report lone h)) in
      subst (λ (p : NumberedProgram). LoneCost p graph rows costs report) a.program_is
      (record { trace = told.nodes; outcome = told.outcome; runs = told.runs; path = subst (λ (k : ℕ). HasPathBound (λ b. b.0 ≡ k) report) count both })
