-- A report and the same in the second form say the same.
use Rattle.sweet_cli.proofs.Migrated.{migrated_sound, sound_migrated, migrated_check, check_migrated}
use Rattle.sweet_cli.proofs.laws.a_migrated_report_says_the_same.Goals as goal

pub returns : goal.returns
returns c = λ program graph rows costs report. (
  (migrated_sound program graph rows costs report, sound_migrated program graph rows costs report),
  λ answer. (migrated_check program graph rows costs report answer, check_migrated program graph rows costs report answer),
)
