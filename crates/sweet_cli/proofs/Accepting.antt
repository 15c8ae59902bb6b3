-- What `analyse --cert` printed is accepted.
--   accepted_again   `check` of the text accepts it
--   own_accepted     so the words end, and so alone
use Rattle.std.proofs.Common.{◌≡◌, ◌≤◌, ℕ, Bool, true, List, length, Option, Some, refl, sym, ap, subst}
use Rattle.flow_base.specs.Outside.{Files}
use Rattle.fact_text.specs.Language.{SpellsReport}
use Rattle.fact_text.specs.Laws.{ReportTextsSpell}
use Rattle.program_analysis.specs.BoundedAnalyses.{IsPrintedReport}
use Rattle.program_analysis.specs.BoundedSound.{ClosedExplorationsHaveTotals}
use Rattle.program_checks.specs.Checking.{HasOneCheck}
use Rattle.command_plans.specs.Log.{Log, log_with}
use Rattle.command_plans.specs.Outcome.{Ending, Finished, Stopped, AreAlikeEndings}
use Rattle.command_plans.specs.Work.{EndsSo}
use Rattle.command_plans.specs.WorkLaws.{ends_one}
use Rattle.command_files.specs.Laws.{FilesMeanTheirReport}
use Rattle.command_files.specs.ReportFiles.{most_report_bytes, report_in}
use Rattle.sweet_cli.specs.Words.{AnalyseWords, Command}
use Rattle.sweet_cli.specs.Analyse.{analysing, policy_of}
use Rattle.sweet_cli.specs.Check.{report_judged, checking, accepted}
use Rattle.sweet_cli.specs.Laws.{check_words, HoldSame, OwnReportsAreAccepted}
use Rattle.sweet_cli.specs.Table.{task_for_some, task_of}
use Rattle.sweet_cli.proofs.Carried.{program_carried, tables_carried}
use Rattle.sweet_cli.proofs.JudgedChecks.{accepted_only}
use Rattle.sweet_cli.proofs.OwnReports.{own_checked}

module _ (one : HasOneCheck) (totals : ClosedExplorationsHaveTotals) (meant_only : FilesMeanTheirReport) (spell : ReportTextsSpell) where
  -- `check` of the text accepts it, whatever was read before
  accepted_again : (given : AnalyseWords) (report : List ℕ) (files later : Files) (before after : Log) (text : List ℕ)
      → given.certified ≡ true
      → (analysing given).steps.Gives (Some files) before text after → HoldSame given files later → later report ≡ Some text → length text ≤ most_report_bytes
      → (again : Log) → (last : Log) × (checking (check_words given report)).steps.Gives (Some later) again accepted last
  unfolding analysing checking report_judged report_in
  accepted_again given report files later before after text certified (program, mid, first, (tables, end, read, (told, last, (only, still), (is, over)))) same there short again =
      let numbered = program.expanded.program in
      let graph = program.expanded.graph in
      let printed = subst (λ (b : Bool). IsPrintedReport b numbered graph tables.rows tables.costs (policy_of given.merging) given.turns given.pivots told) certified only.means in
      let spelled : SpellsReport text told = rw is (spell told printed.writable) in
      let scopes = program_carried files later given.program given.root same.program before mid program first again in
      let both = tables_carried files later numbered given.inputs given.costs same.inputs same.costs mid end tables read scopes.0 in
      let log = log_with both.0 report in
      let checked = own_checked totals numbered graph tables.rows tables.costs (policy_of given.merging) given.turns given.pivots told printed in (
        log,
        (
          program,
          scopes.0,
          scopes.1,
          (
            tables,
            both.0,
            both.1,
            (
              told,
              log,
              (text, log, (refl, short, there), (meant_only text told spelled, refl)),
              (accepted_only one program tables.rows tables.costs told accepted checked refl, refl),
            ),
          ),
        ),
      )

  is_accepted : (ending : Ending) → AreAlikeEndings (Finished accepted) ending → ending ≡ Finished accepted
  is_accepted (Finished text) same = ap Finished (sym same)
  is_accepted (Stopped outcome) same = absurd same

  -- so the words end, and so alone
  pub own_accepted : OwnReportsAreAccepted
  own_accepted words again given report analyses certified checks files later before after text printed same there short =
      let by_words = subst (λ (command : Option Command). EndsSo (task_for_some command).work (Some files) before (Finished text) after) analyses printed in
      let accept = accepted_again given report files later before after text certified by_words same there short in
      let ends : (p : Log) → (q : Log) × EndsSo (task_of again).work (Some later) p (Finished accepted) q = λ p.
      let last = accept p in
      (last.0, subst (λ (command : Option Command). EndsSo (task_for_some command).work (Some later) p (Finished accepted) last.0) (sym checks) last.1) in
      record {
        ends = ends;
        only = λ p q ending unread due.
            let here = ends p in
            is_accepted ending (ends_one (task_of again).work later p p (Finished accepted) ending here.0 q refl unread here.1 due).0;
      }
