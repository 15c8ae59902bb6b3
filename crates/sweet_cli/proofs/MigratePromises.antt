-- The promise of `migrate`.
--   tells_migrated   a text that the work gives spells the report of the told file in the second form
use Rattle.std.proofs.Common.{ℕ, List, Option, sym, subst, ◌∙◌, [], ◌∷◌}
use Rattle.flow_base.specs.Outside.{Files}
use Rattle.fact_text.specs.Language.{SpellsReport}
use Rattle.fact_text.specs.Laws.{SpelledWhereWritable, ReportTextsSpell}
use Rattle.report_forms.specs.Migrating.{migrated}
use Rattle.report_forms.specs.MigratingLaws.{migrated_writable}
use Rattle.command_plans.specs.Log.{Log}
use Rattle.command_plans.specs.Readings.{IsMadeOf, one_made}
use Rattle.command_files.specs.ReportFiles.{report_in}
use Rattle.sweet_cli.specs.Migrate.{migrating, IsMigratedReport}

-- a text that the work gives spells the report of the told file in the second form
pub tells_migrated : SpelledWhereWritable → ReportTextsSpell
    → (file : List ℕ) (told : Option Files) (before : Log) (text : List ℕ) (after : Log)
    → (migrating file).steps.Gives told before text after → IsMadeOf told before after (file ∷ []) (λ files. IsMigratedReport file files text)
unfolding migrating report_in
tells_migrated exactly own file told before text after (report, mid, (bytes, log, read, (meant, same)), (shown, over)) =
    let writable = migrated_writable report ((exactly report).0 (bytes, meant.means)) in
    one_made told before after file bytes (λ files. IsMigratedReport file files text) (over ∙ same ∙ read.0) read.2
    (λ files is. record {
      report = report;
      report_told = (bytes, is, meant.means);
      shown = subst (λ (t : List ℕ). SpellsReport t (migrated report)) (sym shown) (own (migrated report) writable);
      canonical = shown;
    })
