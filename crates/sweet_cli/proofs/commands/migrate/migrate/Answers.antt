-- A text that was printed spells the report of the told file in the second form.
use Rattle.command_plans.specs.Log.{log_of}
use Rattle.sweet_cli.proofs.MigratePromises.{tells_migrated}
use Rattle.sweet_cli.proofs.commands.migrate.migrate.Goals as goal

pub returns-clause-promise : goal.returns-clause-promise
returns-clause-promise g c =
    tells_migrated c.writable_reports_are_spelled.ensures.exactly c.writable_reports_are_spelled.ensures.own c.args.file.now (g.F.Shelf.state c.args.shelf.now).files
    (log_of (g.F.Shelf.state c.args.shelf.now)) c.in_ok-text.text.items (log_of (g.F.Shelf.state c.migrating.new.shelf)) c.in_ok-text.ensures.ends.0
