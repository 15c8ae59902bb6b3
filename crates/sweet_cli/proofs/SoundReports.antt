-- A report that is found is sound, and its path bound is what its word says.
--   costs_same     what nodes cost, by the parts of the program
--   sound_of       why
--   SoundPrint certify program graph rows costs report   the report is sound, and has a certificate where one is wanted
--   printed_sound  so it is of each report that is printed
use Rattle.std.proofs.Common.{◌≡◌, ℕ, Bool, true, false, List, None, map, refl, sym, ap, subst, ◌∙◌}
use Rattle.alf_check.specs.declared.rows.InputRow.{InputRow}
use Rattle.alf_check.specs.CheckedPrograms.{CheckedParts, NumberedProgram, seen}
use Rattle.flow_graph.specs.Nodes.{Node}
use Rattle.flow_graph.specs.Numbering.{GraphParts}
use Rattle.cost_table.specs.CostTables.{CostTable}
use Rattle.domain_core.specs.Outlines.{Outlined, shape_of}
use Rattle.flow_facts.specs.declared.fact.Fact.{Fact}
use Rattle.flow_facts.specs.Reports.{Certificate, Reported}
use Rattle.dual_check.specs.Openings.{system_of}
use Rattle.path_lp.specs.Bounding.{AreHeld}
use Rattle.worklist_rules.specs.declared.policy.Policy.{Policy}
use Rattle.program_machines.specs.NodeCosts.{node_cost}
use Rattle.report_soundness.specs.Certified.{with_certificate, printed_as}
use Rattle.program_analysis.specs.TwinMachines.{IsProgramOf}
use Rattle.program_analysis.specs.BoundedAnalyses.{IsBoundedReport, IsPrintedReport}
use Rattle.program_analysis.specs.BoundedSound.{IsSoundByBounds, FoundReportsAreRight}
use Rattle.sweet_cli.specs.Analyse.{IsSoundOf, HasCertificate}

-- what nodes cost, by the parts of the program
pub costs_same : (program : NumberedProgram) (checked : CheckedParts) → IsProgramOf program checked
    → (costs : CostTable) → node_cost (seen checked) costs ≡ node_cost program costs
costs_same program checked is costs = ap (λ (p : NumberedProgram). node_cost p costs) is

-- a report that is found is sound, and its path bound is what its word says
pub sound_of : FoundReportsAreRight → (program : NumberedProgram) (graph : GraphParts) (rows : List InputRow) (costs : CostTable) (policy : Policy) (turns pivots : ℕ) (report : Reported)
    → IsBoundedReport program graph rows costs policy turns pivots report → IsSoundOf program graph rows costs report
sound_of law program graph rows costs policy turns pivots report h =
    let a = h.analysis in
    let checked = a.checked in
    let right = law (record { checked = checked; graph = graph; rows = rows }) a.outline policy turns pivots report a.keeps a.graph_is a.inputs a.outline_kept a.outline_is
    (record { given = h.given; closed = a.found; bounded = h.bounded }) in
    let priced = a.costs_are ∙ ap (λ (cost : Node → ℕ). map cost graph.nodes) (sym (costs_same program checked a.program_is costs)) in
    record {
      outline = a.outline;
      outline_is = a.outline_is;
      legend = record {
        names = a.names;
        nodes = ap (λ (r : Reported). r.nodes) h.bounded ∙ ap (λ (r : Reported). r.nodes) a.found.told;
        scopes = ap (λ (r : Reported). r.scopes) h.bounded ∙ ap (λ (r : Reported). r.scopes) a.found.told;
      };
      costs_are = a.costs_are;
      sound = subst (λ (p : NumberedProgram). IsSoundByBounds p graph rows (shape_of a.outline) costs report) a.program_is (right.sound costs priced);
      within = right.within;
      least = right.least;
    }

-- ---- with a certificate

-- the report is sound, and has a certificate where one is wanted
pub record SoundPrint (certify : Bool) (program : NumberedProgram) (graph : GraphParts) (rows : List InputRow)
    (costs : CostTable) (report : Reported) : Type 0 where
  pub sound : IsSoundOf program graph rows costs report
  pub certificate : HasCertificate certify sound.outline report

module _ (program : NumberedProgram) (graph : GraphParts) (rows : List InputRow) (costs : CostTable) (bare : Reported) (cert : Certificate) (s : IsSoundOf program graph rows costs bare) where
  -- a certificate changes nothing of what is said
  certified_sound : IsSoundOf program graph rows costs (with_certificate bare cert)
  certified_sound = record {
    outline = s.outline;
    outline_is = s.outline_is;
    legend = record { names = s.legend.names; nodes = s.legend.nodes; scopes = s.legend.scopes };
    costs_are = s.costs_are;
    sound = λ start from.
        let h = s.sound start from in
        record { trace = h.trace; outcome = h.outcome; runs = h.runs; facts = h.facts; alarm = h.alarm; count = h.count; path = h.path };
    within = s.within;
    least = s.least;
  }

  shown_sound : (certify : Bool) → bare.cert ≡ None
      → AreHeld (system_of s.outline bare.facts).program cert.scale cert.multipliers
      → SoundPrint certify program graph rows costs (printed_as certify bare cert)
  unfolding certified_sound
  shown_sound true none held = record { sound = certified_sound; certificate = record { cert = cert; there = refl; held = held } }
  shown_sound false none held = record { sound = s; certificate = none }

-- so it is of each report that is printed
pub printed_sound : FoundReportsAreRight → (certify : Bool) (program : NumberedProgram) (graph : GraphParts) (rows : List InputRow) (costs : CostTable) (policy : Policy) (turns pivots : ℕ) (report : Reported)
    → IsPrintedReport certify program graph rows costs policy turns pivots report → SoundPrint certify program graph rows costs report
unfolding sound_of
printed_sound law certify program graph rows costs policy turns pivots report h =
    let o : Outlined = h.analysis.outline in
    let s = sound_of law program graph rows costs policy turns pivots h.bare (record { given = h.given; analysis = h.analysis; bounded = h.bound.bounded }) in
    let facts : h.given.facts ≡ h.bare.facts = ap (λ (r : Reported). r.facts) (sym h.bound.bounded) in
    let none : h.bare.cert ≡ None = ap (λ (r : Reported). r.cert) h.bound.bounded ∙ ap (λ (r : Reported). r.cert) h.analysis.found.told in
    let held = subst (λ (fs : List Fact). AreHeld (system_of o fs).program h.cert.scale h.cert.multipliers) facts h.bound.held in
    subst (SoundPrint certify program graph rows costs) (sym h.shown) (shown_sound program graph rows costs h.bare h.cert s certify none held)
