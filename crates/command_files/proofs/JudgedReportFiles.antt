-- What the bytes of a report's file spell is their only meaning.
--   spelled_only, departed_only    the report that was read, and the line of the departure that was met
use Rattle.std.proofs.Common.{◌≡◌, ℕ, List, Result, Ok, Err, Option, None, Some, IfSome, IsSomeAnd, ap, sym, ◌∙◌}
use Rattle.flow_facts.specs.Reports.{Reported}
use Rattle.fact_text.specs.Language.{Departure, Means, HasOneMeaning}
use Rattle.command_plans.specs.Outcome.{Outcome, AreAlikeResults, refused}
use Rattle.command_plans.specs.Work.{IsOnly, alike}
use Rattle.answer_texts.specs.ReportFaultLines.{report_fault_line}
use Rattle.command_files.specs.ReportFiles.{ReportSpelled}

module _ (bytes : List ℕ) (one : HasOneMeaning bytes) where
  -- bytes mean one thing
  means_one : (m n : Result Reported Departure) → Means bytes m → Means bytes n → m ≡ n
  means_one m n h k = sym (one.only m h) ∙ one.only n k

  departures_one : (d e : Departure) → Means bytes (Err d) → Means bytes (Err e) → d ≡ e
  departures_one d e h k = let same : ◌≡◌ {A = Result Reported Departure} (Err d) (Err e) = means_one (Err d) (Err e) h k in cc

  reports_one : (a b : Reported) → Means bytes (Ok a) → Means bytes (Ok b) → a ≡ b
  reports_one a b h k = let same : ◌≡◌ {A = Result Reported Departure} (Ok a) (Ok b) = means_one (Ok a) (Ok b) h k in cc

  departs_not : (d : Departure) (report : Reported) → Means bytes (Err d) → Means bytes (Ok report) → ⊥
  departs_not d report h k = let same : Err d ≡ Ok report = means_one (Err d) (Ok report) h k in cc

  -- the report that was read is the only meaning
  pub spelled_only : (report : Reported) → Means bytes (Ok report) → IsOnly (ReportSpelled bytes) (Ok report)
  spelled_only report h = record { means = h; only = only }
    where
      only : (y : Result Reported Outcome) → ReportSpelled bytes y → AreAlikeResults (Ok report) y
      only (Ok b) k = reports_one report b h k
      only (Err o) (d, k, e) = departs_not d report k h

  -- the line of the departure that was met is the only meaning
  pub departed_only : (o : Option Departure) (text : List ℕ)
      → IsSomeAnd o (λ departure. text ≡ report_fault_line departure)
      → IfSome o (λ departure. Means bytes (Err departure))
      → IsOnly (ReportSpelled bytes) (Err (refused text))
  departed_only None text line h = absurd line
  departed_only (Some d) text line h = record { means = (d, h, ap refused line); only = only }
    where
      only : (y : Result Reported Outcome) → ReportSpelled bytes y → AreAlikeResults (Err (refused text)) y
      only (Ok b) k = departs_not d b h k
      only (Err o) (f, k, e) = alike (refused text) o (ap refused (line ∙ ap report_fault_line (departures_one d f h k)) ∙ sym e)
