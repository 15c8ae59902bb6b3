-- Laws of alike bounds.
--   bounded_alike     the path bound is the same along alike outlines
--   one_bounded       a program has one answer
--   longer_bounded    and more turns find the same report
--   one_printed, longer_printed   a program has one report as it is printed, and more turns find the same
--   lone_bounds       where there is one input alone, both bounds are one number
use Rattle.std.proofs.Common.{◌≡◌, ℕ, List, length, sym, ap, subst, ◌∙◌}
use Rattle.alf_check.specs.declared.rows.InputRow.{InputRow}
use Rattle.alf_check.specs.CheckedPrograms.{NumberedProgram, seen}
use Rattle.flow_graph.specs.Numbering.{GraphParts}
use Rattle.flow_graph.specs.Graphs.{HasProgram}
use Rattle.cost_table.specs.CostTables.{CostTable}
use Rattle.domain_core.specs.declared.event.Event.{Event}
use Rattle.domain_core.specs.Outlines.{Outlined, Shape, shape_of}
use Rattle.flow_facts.specs.declared.fact.Fact.{Fact}
use Rattle.flow_facts.specs.Reports.{Certificate, Reported}
use Rattle.ipet_rows.specs.Columns.{columns_of}
use Rattle.ipet_rows.specs.Rows.{program_of}
use Rattle.dual_check.specs.Systems.{System}
use Rattle.dual_check.specs.Constraints.{constraints_of}
use Rattle.dual_check.specs.Openings.{costs_of, openings_of, system_of}
use Rattle.simplex_rules.specs.OpeningPlaces.{ended}
use Rattle.worklist_rules.specs.declared.policy.Policy.{Policy}
use Rattle.path_lp.specs.Bounding.{bound_of, duals_of, AreHeld}
use Rattle.path_lp.specs.Holding.{ToldBoundsAreRight}
use Rattle.report_soundness.specs.Bounded.{with_path_bound, bounded}
use Rattle.report_soundness.specs.Certified.{told_certificate, printed_as}
use Rattle.program_analysis.specs.Answers.{Answer, Told, Unbounded}
use Rattle.program_analysis.specs.AnalysisLaws.{AreAlike, HasOneAlike}
use Rattle.program_analysis.specs.FourTwinLaws.{by_shape}
use Rattle.program_analysis.specs.ProgramAnalyses.{IsAnalysis, HasOneAnalysis, HasOneEventList, StaysAnalysed}
use Rattle.program_analysis.specs.BoundedAnalyses.{HasOneBoundedAnalysis, StaysBounded, HasOnePrintedReport, StaysPrinted}
use Rattle.program_analysis.specs.Fitting.{PartsFit}
use Rattle.program_analysis.specs.BoundedSound.{LoneBoundsAgree}
use Rattle.program_analysis.proofs.BoundedLaws.{agree_in}

-- ---- along alike outlines

system_alike : (o other : Outlined) (facts : List Fact) → AreAlike o other → system_of o facts ≡ system_of other facts
system_alike o other facts alike =
    let made : List ℕ → Shape → ℕ → System = λ costs shape count. record {
      program = program_of shape costs facts;
      openings = openings_of (columns_of shape facts) (constraints_of shape facts) count;
    } in
    ap (λ (costs : List ℕ). made costs (shape_of o) (length o.nodes)) alike.costs ∙ by_shape o other alike.shape (made (costs_of other))

-- the path bound is the same
pub bounded_alike : (o other : Outlined) (given : Reported) (pivots : ℕ) → AreAlike o other
    → bounded o given pivots ≡ bounded other given pivots
bounded_alike o other given pivots alike =
    ap (λ (s : System). with_path_bound given (bound_of s.program (ended s.program s.openings pivots))) (system_alike o other given.facts alike)

-- and so is the certificate
certificate_alike : (o other : Outlined) (given : Reported) (events : List Event) (pivots : ℕ) → AreAlike o other
    → told_certificate o given.facts events pivots ≡ told_certificate other given.facts events pivots
certificate_alike o other given events pivots alike =
    let made : System → Certificate = λ s.
    let duals = duals_of s.program (ended s.program s.openings pivots) in
    record { events = events; scale = duals.0; multipliers = duals.1 } in
    ap made (system_alike o other given.facts alike)

-- ---- one answer

module _ (alike : HasOneAlike) (program : NumberedProgram) (graph : GraphParts) (rows : List InputRow) (costs : CostTable) (policy : Policy) where
  -- outlines of two analyses are alike
  outlines_alike : (turns more : ℕ) (a b : Answer) (h : IsAnalysis program graph rows costs policy turns a) (k : IsAnalysis program graph rows costs policy more b) → AreAlike h.outline k.outline
  outlines_alike turns more a b h k =
      let has : HasProgram graph = record { program = seen h.checked; keeps = h.keeps; is = h.graph_is } in
      alike program graph costs h.outline k.outline has h.outline_is h.names h.costs_are k.outline_is k.names k.costs_are

  same_bound : (turns more pivots : ℕ) (given : Reported) (h : IsAnalysis program graph rows costs policy turns (Told given)) (k : IsAnalysis program graph rows costs policy more (Told given))
      → bounded h.outline given pivots ≡ bounded k.outline given pivots
  same_bound turns more pivots given h k = bounded_alike h.outline k.outline given pivots (outlines_alike turns more (Told given) (Told given) h k)

told_is : (a b : Reported) → Told a ≡ Told b → a ≡ b
told_is a b e = cc

told_not : (report : Reported) (scope : ℕ) → Told report ≡ Unbounded scope → ⊥
told_not report scope e = cc

pub one_bounded : HasOneAnalysis → HasOneAlike → HasOneBoundedAnalysis
one_bounded one alike program graph rows costs policy turns pivots (Told a) (Told b) h k =
    let same : h.given ≡ k.given = told_is h.given k.given (one program graph rows costs policy turns (Told h.given) (Told k.given) h.analysis k.analysis) in
    let moved : IsAnalysis program graph rows costs policy turns (Told k.given) = k.analysis in
    let alike_outlines = outlines_alike alike program graph rows costs policy turns turns (Told h.given) (Told k.given) h.analysis moved in
    ap Told (h.bounded ∙ ap (λ (g : Reported). bounded h.analysis.outline g pivots) same ∙ bounded_alike h.analysis.outline k.analysis.outline k.given pivots alike_outlines ∙ sym k.bounded)
one_bounded one alike program graph rows costs policy turns pivots (Told a) (Unbounded scope) h k =
    absurd (told_not h.given scope (one program graph rows costs policy turns (Told h.given) (Unbounded scope) h.analysis k))
one_bounded one alike program graph rows costs policy turns pivots (Unbounded scope) (Told b) h k =
    absurd (told_not k.given scope (one program graph rows costs policy turns (Told k.given) (Unbounded scope) k.analysis h))
one_bounded one alike program graph rows costs policy turns pivots (Unbounded scope) (Unbounded other) h k =
    one program graph rows costs policy turns (Unbounded scope) (Unbounded other) h k

-- more turns find the same report
pub longer_bounded : StaysAnalysed → HasOneAlike → StaysBounded
longer_bounded stays alike program graph rows costs policy turns pivots report h =
    let kept = stays program graph rows costs policy turns h.given h.analysis in (
      kept.0,
      λ more enough.
          let k = kept.1 more enough in
          record { given = h.given; analysis = k; bounded = h.bounded ∙ same_bound alike program graph rows costs policy turns more pivots h.given h.analysis k },
    )

pub one_printed : HasOneAnalysis → HasOneAlike → HasOneEventList → HasOnePrintedReport
one_printed one alike events certify program graph rows costs policy turns pivots a b h k =
    let given : h.given ≡ k.given = told_is h.given k.given (one program graph rows costs policy turns (Told h.given) (Told k.given) h.analysis k.analysis) in
    let o = h.analysis.outline in
    let other = k.analysis.outline in
    let outlines = outlines_alike alike program graph rows costs policy turns turns (Told h.given) (Told k.given) h.analysis k.analysis in
    let list = events program graph rows costs policy turns turns h.given k.given h.analysis k.analysis in
    let bare : h.bare ≡ k.bare = h.bound.bounded ∙ ap (λ (g : Reported). bounded o g pivots) given ∙ bounded_alike o other k.given pivots outlines ∙ sym k.bound.bounded in
    let cert : h.cert ≡ k.cert =
    h.bound.cert_is ∙ ap (λ (g : Reported). told_certificate o g.facts h.analysis.found.events pivots) given
    ∙ ap (λ (es : List Event). told_certificate o k.given.facts es pivots) list
    ∙ certificate_alike o other k.given k.analysis.found.events pivots outlines ∙ sym k.bound.cert_is in
    h.shown ∙ ap (λ (r : Reported). printed_as certify r h.cert) bare ∙ ap (λ (c : Certificate). printed_as certify k.bare c) cert ∙ sym k.shown

pub longer_printed : StaysAnalysed → HasOneAlike → HasOneEventList → StaysPrinted
longer_printed stays alike events certify program graph rows costs policy turns pivots report h =
    let kept = stays program graph rows costs policy turns h.given h.analysis in (
      kept.0,
      λ more enough.
          let k = kept.1 more enough in
          let o = h.analysis.outline in
          let outlines = outlines_alike alike program graph rows costs policy turns more (Told h.given) (Told h.given) h.analysis k in
          let list = events program graph rows costs policy turns more h.given h.given h.analysis k in
          record {
            given = h.given;
            analysis = k;
            bare = h.bare;
            cert = h.cert;
            bound = record {
              bounded = h.bound.bounded ∙ bounded_alike o k.outline h.given pivots outlines;
              cert_is = h.bound.cert_is ∙ ap (λ (es : List Event). told_certificate o h.given.facts es pivots) list ∙ certificate_alike o k.outline h.given k.found.events pivots outlines;
              held = subst (λ (s : System). AreHeld s.program h.cert.scale h.cert.multipliers) (system_alike o k.outline h.given.facts outlines) h.bound.held;
            };
            shown = h.shown;
            writable = h.writable;
          },
    )

-- where there is one input alone, both bounds are one number
pub lone_bounds : ToldBoundsAreRight → PartsFit → LoneBoundsAgree
lone_bounds law fit program graph rows costs policy turns pivots report lone h =
    let a = h.analysis in
    agree_in (record { checked = a.checked; graph = graph; rows = rows }) a.outline policy turns
    (fit (record { checked = a.checked; graph = graph; rows = rows }) a.outline a.keeps a.graph_is a.inputs a.outline_kept a.outline_is) h.given a.found law pivots lone report h.bounded
