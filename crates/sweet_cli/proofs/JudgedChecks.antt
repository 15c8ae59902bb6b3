-- What a report is answered is its only answer.
--   accepted_only, refused_only    that nothing speaks against the report, and the line of what does
--   check_of                       what is answered by the checked parts of a program is answered for the program
--   writable_scaled                a report that some text spells has a scale of at least 1
use Rattle.std.proofs.Common.{◌≡◌, ◌≤◌, ℕ, ℤ, List, Result, Ok, Err, Option, None, Some, IfSome, pos, refl, ap, sym, ◌∙◌, subst, arith}
use Rattle.std.specs.Prelude.{◌<ℤ◌}
use Rattle.std.proofs.lemmas.Int.{ints}
use Rattle.std.proofs.lemmas.Option.{none-some, same_Some}
use Rattle.alf_check.specs.CheckedPrograms.{CheckedParts, seen}
use Rattle.alf_check.specs.declared.rows.InputRow.{InputRow}
use Rattle.alf_check.specs.Kept.{IsKept}
use Rattle.alf_check.specs.Inputs.{KeepInputs}
use Rattle.flow_graph.specs.Numbering.{GraphParts, IsGraph}
use Rattle.cost_table.specs.CostTables.{CostTable}
use Rattle.domain_core.specs.Outlines.{Outlined, IsOutline, shape_of}
use Rattle.flow_facts.specs.Reports.{Certificate, Reported}
use Rattle.flow_facts.specs.Writable.{IsWritable, CertificateIsWritable}
use Rattle.memory_model.specs.SeenOrders.{parts_order}
use Rattle.abstract_step.specs.Steppers.{stepped_by}
use Rattle.program_machines.specs.NodeCosts.{HasCosts}
use Rattle.report_objections.specs.declared.objection.Objection.{Objection}
use Rattle.report_objections.specs.Accepted.{IsScaled}
use Rattle.report_objections.specs.Checks.{IsChecked}
use Rattle.program_checks.specs.Checking.{IsCheckOf, HasOneCheck}
use Rattle.command_plans.specs.Outcome.{Outcome, No, AreAlikeResults}
use Rattle.command_plans.specs.Work.{IsOnly, alike}
use Rattle.answer_texts.specs.NoLines.{objection_line}
use Rattle.command_files.specs.Scopes.{ScopedProgram}
use Rattle.command_files.specs.Seen.{IsOutlined}
use Rattle.sweet_cli.specs.Check.{AcceptMeans, accepted}

-- ---- what the report is answered

module _ (one : HasOneCheck) (program : ScopedProgram) (rows : List InputRow) (costs : CostTable) (report : Reported) where
  -- what is answered
  abbrev Answered : Option Objection → Type 0
  Answered = IsCheckOf program.expanded.program program.expanded.graph rows costs report

  same : (a b : Option Objection) → Answered a → Answered b → a ≡ b
  same a b h k = one program.expanded.program program.expanded.graph rows costs report a b h k

  -- the line of what speaks against the report
  abbrev refused_by : Objection → Outcome
  refused_by objection = record { cause = No; text = objection_line objection }

  -- that nothing does is the only meaning
  pub accepted_only : (text : List ℕ) → Answered None → text ≡ accepted
      → IsOnly (AcceptMeans program rows costs report) (Ok text)
  accepted_only text h is = record { means = (h, is); only = only }
    where
      only : (y : Result (List ℕ) Outcome) → AcceptMeans program rows costs report y → AreAlikeResults (Ok text) y
      only (Ok other) k = is ∙ sym k.1
      only (Err o) k = none-some k.objection (same None (Some k.objection) h k.first)

  -- and so is what does
  pub refused_only : (objection : Objection) (text : List ℕ) → Answered (Some objection)
      → text ≡ objection_line objection
      → IsOnly (AcceptMeans program rows costs report) (Err (record { cause = No; text = text }))
  refused_only objection text h is = record { means = record { objection = objection; first = h; line = here }; only = only }
    where
      o : Outcome
      o = record { cause = No; text = text }

      here : o ≡ refused_by objection
      here = λ i. record { cause = No; text = is i }

      only : (y : Result (List ℕ) Outcome) → AcceptMeans program rows costs report y → AreAlikeResults (Err o) y
      only (Ok other) k = none-some objection (same None (Some objection) k.0 h)
      only (Err x) k = alike o x (here ∙ ap refused_by (same_Some objection k.objection (same (Some objection) (Some k.objection) h k.first)) ∙ sym k.line)

-- ---- ranks have no part

-- what is answered by the checked parts of a program is answered for the program
pub check_of : (checked : CheckedParts) (graph : GraphParts) (rows : List InputRow) → IsKept (seen checked)
    → IsGraph (seen checked) graph → KeepInputs (seen checked) rows
    → (costs : CostTable) (outline : Outlined) (report : Reported) (answer : Option Objection) → IsOutline (shape_of outline) → IsOutlined graph outline → HasCosts (seen checked) graph costs outline
    → IsChecked stepped_by parts_order (record { checked = checked; graph = graph; rows = rows }) outline report answer
    → IsCheckOf (seen checked) graph rows costs report answer
check_of checked graph rows keeps graph_is inputs costs outline report answer outline_kept outlined priced answered = record {
  checked = checked;
  keeps = keeps;
  graph_is = graph_is;
  inputs = inputs;
  outline = outline;
  program_is = refl;
  outline_kept = outline_kept;
  outline_is = outlined.outline_is;
  names = outlined.named;
  costs_are = priced;
  answer_is = answered;
}

-- ---- scales

at_least : (scale : ℤ) (n : ℕ) → scale ≡ pos n → 1 ≤ n → pos 0 <ℤ scale
at_least scale n is low = subst (λ (z : ℤ). pos 0 <ℤ z) (sym is) (omega (arith, ints, low))

-- a report that some text spells has a scale of at least 1
pub writable_scaled : (report : Reported) → IsWritable report → IsScaled report
writable_scaled report written = by report.cert written.certificate
  where
    by : (cert : Option Certificate) → IfSome cert CertificateIsWritable → IfSome cert (λ c. pos 0 <ℤ c.scale)
    by None is = tt
    by (Some c) is = at_least c.scale is.scale.0 is.scale.1 is.scale.2
