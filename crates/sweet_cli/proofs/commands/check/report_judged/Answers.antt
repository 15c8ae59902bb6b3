-- The report was read of told files, and it is sound.
use Rattle.alf_check.specs.CheckedPrograms.{seen}
use Rattle.flow_facts.specs.Reports.{reported}
use Rattle.command_plans.specs.Log.{log_of}
use Rattle.sweet_cli.proofs.JudgedChecks.{writable_scaled}
use Rattle.sweet_cli.proofs.CheckPromises.{sound_told}
use Rattle.sweet_cli.proofs.commands.check.report_judged.Goals as goal

pub judged-requires-clause-scaled : goal.judged-requires-clause-scaled
judged-requires-clause-scaled g c = writable_scaled (reported c.in_ok-report.report) c.in_ok-report.ensures.written

pub returns-clause-sound : goal.returns-clause-sound
returns-clause-sound g c =
    sound_told c.args.file.now (g.F.Shelf.state c.args.shelf.now).files (log_of (g.F.Shelf.state c.args.shelf.now)) (log_of (g.F.Shelf.state c.report_in.new.shelf)) (seen c.args.program.expanded.checked)
    c.args.program.expanded.graph c.args.tables.now.rows.items c.args.tables.now.costs (reported c.in_ok-report.report) c.in_ok-report.ensures.work.ends.0 c.in_ok-text.ensures.sound
