-- The report of an exploration, or that places are left, is its only meaning.
use Rattle.std.proofs.Common.{◌≡◌, ℕ, Bool, true, false, List, map, Vec, Global, Result, Ok, Err, refl, ap, sym, ◌∙◌}
use Rattle.std.proofs.lemmas.Simd.{map-map}
use Rattle.alf_check.specs.CheckedPrograms.{CheckedParts, seen}
use Rattle.alf_check.specs.declared.rows.InputRow.{InputRow}
use Rattle.alf_check.specs.Kept.{IsKept}
use Rattle.alf_check.specs.Inputs.{KeepInputs}
use Rattle.flow_graph.specs.Numbering.{GraphParts, IsGraph}
use Rattle.cost_table.specs.CostTables.{CostTable}
use Rattle.domain_core.specs.declared.outline.NodeRow.{NodeRow}
use Rattle.domain_core.specs.Outlines.{Outlined, IsOutline, shape_of}
use Rattle.flow_facts.specs.Reports.{Certificate, Reported}
use Rattle.flow_facts.specs.Writable.{IsWritable}
use Rattle.worklist_rules.specs.declared.policy.Policy.{Policy}
use Rattle.program_machines.specs.NodeCosts.{HasCosts}
use Rattle.program_analysis.specs.Pricing.{IsPricedAs}
use Rattle.program_analysis.specs.Answers.{Answer, Told, Unbounded as LeftIn}
use Rattle.program_analysis.specs.Analyses.{IsFound, IsLeft}
use Rattle.report_soundness.specs.Certified.{printed_as}
use Rattle.report_soundness.specs.CertifiedLaws.{certificate_writable}
use Rattle.program_analysis.specs.ProgramAnalyses.{IsAnalysis}
use Rattle.program_analysis.specs.BoundedAnalyses.{IsCertifiedWith, AreWritable, IsBoundedAnalysis, HasOneBoundedAnalysis, IsPrintedReport, HasOnePrintedReport}
use Rattle.program_analysis.specs.AlikeBoundLaws.{bounded_of}
use Rattle.command_plans.specs.Outcome.{Outcome, Unbounded, AreAlikeResults}
use Rattle.command_plans.specs.Work.{IsOnly, alike}
use Rattle.answer_texts.specs.ScopeLines.{left_line}
use Rattle.command_files.specs.Scopes.{ScopedProgram}
use Rattle.command_files.specs.Seen.{IsOutlined}
use Rattle.sweet_cli.specs.Analyse.{ReportMeans}

-- other costs leave the names
pub named_again : (old new : Outlined) → IsPricedAs old new
    → map (λ row. row.name.items) new.nodes ≡ map (λ row. row.name.items) old.nodes
named_again old new kept =
    let bytes : Vec ℕ Global → List ℕ = λ name. name.items in
    sym (map-map bytes (λ (row : NodeRow). row.name) new.nodes) ∙ ap (map bytes) kept.names ∙ map-map bytes (λ (row : NodeRow). row.name) old.nodes

left_is : (s t : ℕ) → LeftIn s ≡ LeftIn t → s ≡ t
left_is s t e = cc

told_not : (report : Reported) (scope : ℕ) → Told report ≡ LeftIn scope → ⊥
told_not report scope e = cc

module _ (one : HasOneBoundedAnalysis) (printed : HasOnePrintedReport) (certify : Bool) (program : ScopedProgram) (rows : List InputRow) (costs : CostTable) (policy : Policy) (turns pivots : ℕ) where
  -- what is found
  abbrev Finds : Answer → Type 0
  Finds = IsBoundedAnalysis program.expanded.program program.expanded.graph rows costs policy turns pivots

  same : (a b : Answer) → Finds a → Finds b → a ≡ b
  same a b h k = one program.expanded.program program.expanded.graph rows costs policy turns pivots a b h k

  -- what is printed
  abbrev Prints : Reported → Type 0
  Prints = IsPrintedReport certify program.expanded.program program.expanded.graph rows costs policy turns pivots

  -- it is found but for its certificate
  bare_found : (report : Reported) (h : Prints report) → Finds (Told h.bare)
  bare_found report h = bounded_of certify program.expanded.program program.expanded.graph rows costs policy turns pivots report h

  -- the line of the scope in which places are left
  abbrev left_at : ℕ → Outcome
  left_at scope = record { cause = Unbounded; text = left_line program.expanded.graph program.scoped.scopes scope }

  -- a report is the only meaning
  pub report_only : (report : Reported) → Prints report
      → IsOnly (ReportMeans certify program rows costs policy turns pivots) (Ok report)
  report_only report h = record { means = h; only = only }
    where
      only : (y : Result Reported Outcome) → ReportMeans certify program rows costs policy turns pivots y
          → AreAlikeResults (Ok report) y
      only (Ok other) k = printed certify program.expanded.program program.expanded.graph rows costs policy turns pivots report other h k
      only (Err o) k = told_not h.bare k.scope (same (Told h.bare) (LeftIn k.scope) (bare_found report h) k.left)

  -- and so is that places are left
  pub left_only : (scope : ℕ) (text : List ℕ) → Finds (LeftIn scope)
      → text ≡ left_line program.expanded.graph program.scoped.scopes scope
      → IsOnly (ReportMeans certify program rows costs policy turns pivots) (Err (record { cause = Unbounded; text = text }))
  left_only scope text h is = record { means = record { scope = scope; left = h; line = here }; only = only }
    where
      o : Outcome
      o = record { cause = Unbounded; text = text }

      here : o ≡ left_at scope
      here = λ i. record { cause = Unbounded; text = is i }

      only : (y : Result Reported Outcome) → ReportMeans certify program rows costs policy turns pivots y
          → AreAlikeResults (Err o) y
      only (Ok other) k = told_not k.bare scope (same (Told k.bare) (LeftIn scope) (bare_found other k) h)
      only (Err x) k = alike o x (here ∙ ap left_at (left_is scope k.scope (same (LeftIn scope) (LeftIn k.scope) h k.left)) ∙ sym k.line)

-- some text spells what is printed
printed_writable : (certify : Bool) (report : Reported) (cert : Certificate) → AreWritable report cert
    → IsWritable (printed_as certify report cert)
printed_writable true report cert are = certificate_writable report cert are.report_is are.cert_is
printed_writable false report cert are = are.report_is

-- ---- ranks have no part

module _ (checked : CheckedParts) (graph : GraphParts) (rows : List InputRow) (keeps : IsKept (seen checked)) (graph_is : IsGraph (seen checked) graph) (inputs : KeepInputs (seen checked) rows)
    (costs : CostTable) (outline : Outlined) (policy : Policy) (turns pivots : ℕ) where
  -- what was found of the parts of the program, but for the path bound
  analysis_of : (answer : Answer) → IsOutline (shape_of outline) → IsOutlined graph outline
      → HasCosts (seen checked) graph costs outline
      → IsFound (record { checked = checked; graph = graph; rows = rows }) outline policy turns answer
      → IsAnalysis (seen checked) graph rows costs policy turns answer
  analysis_of answer outline_kept outlined priced found = record {
    checked = checked;
    keeps = keeps;
    graph_is = graph_is;
    inputs = inputs;
    outline = outline;
    program_is = refl;
    outline_kept = outline_kept;
    outline_is = outlined.outline_is;
    names = outlined.named;
    costs_are = priced;
    found = found;
  }

  -- and with it, and with the certificate where one is wanted
  pub printed_of : (certify : Bool) (report : Reported) (cert : Certificate) → IsOutline (shape_of outline)
      → IsOutlined graph outline → HasCosts (seen checked) graph costs outline
      → IsCertifiedWith (record { checked = checked; graph = graph; rows = rows }) outline policy turns pivots report cert → AreWritable report cert
      → IsPrintedReport certify (seen checked) graph rows costs policy turns pivots (printed_as certify report cert)
  unfolding analysis_of
  printed_of certify report cert outline_kept outlined priced found writable = record {
    given = found.given;
    analysis = analysis_of (Told found.given) outline_kept outlined priced found.closed;
    bare = report;
    cert = cert;
    bound = found.bound;
    shown = refl;
    writable = printed_writable certify report cert writable;
  }

  -- or that places are left
  pub left_of : (scope : ℕ) → IsOutline (shape_of outline) → IsOutlined graph outline
      → HasCosts (seen checked) graph costs outline
      → IsLeft (record { checked = checked; graph = graph; rows = rows }) outline policy turns scope
      → IsBoundedAnalysis (seen checked) graph rows costs policy turns pivots (LeftIn scope)
  left_of scope outline_kept outlined priced found = analysis_of (LeftIn scope) outline_kept outlined priced found
