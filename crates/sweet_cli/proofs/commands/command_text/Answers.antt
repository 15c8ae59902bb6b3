-- Each command keeps its own promise.
use Rattle.sweet_cli.specs.MadeFile.{made_files}
use Rattle.sweet_cli.specs.Generate.{EndsOver, summing}
use Rattle.sweet_cli.proofs.GeneratePromises.{judged_works, kept_anyway}
use Rattle.sweet_cli.proofs.commands.command_text.Goals as goal

pub returns-in-Analyse-clause-promise : goal.returns-in-Analyse-clause-promise
returns-in-Analyse-clause-promise g c = rw c.in-Analyse.is c.analyse.ensures.promise

pub returns-in-Lower-clause-promise : goal.returns-in-Lower-clause-promise
returns-in-Lower-clause-promise g c = rw c.in-Lower.is c.lower.ensures.promise

pub returns-in-Print-clause-promise : goal.returns-in-Print-clause-promise
returns-in-Print-clause-promise g c = rw c.in-Print.is c.print_text.ensures.promise

pub returns-in-Worst-clause-promise : goal.returns-in-Worst-clause-promise
returns-in-Worst-clause-promise g c = rw c.in-Worst.is c.worst.ensures.promise

pub returns-in-Cache-clause-promise : goal.returns-in-Cache-clause-promise
returns-in-Cache-clause-promise g c = rw c.in-Cache.is c.cache.ensures.promise

pub returns-in-Run-clause-promise : goal.returns-in-Run-clause-promise
returns-in-Run-clause-promise g c = rw c.in-Run.is c.run.ensures.promise

pub returns-in-Tasks-clause-promise : goal.returns-in-Tasks-clause-promise
returns-in-Tasks-clause-promise g c = rw c.in-Tasks.is c.tasks.ensures.promise

pub returns-in-Migrate-clause-promise : goal.returns-in-Migrate-clause-promise
returns-in-Migrate-clause-promise g c = rw c.in-Migrate.is c.migrate.ensures.promise

pub returns-in-Replay-clause-promise : goal.returns-in-Replay-clause-promise
returns-in-Replay-clause-promise g c = rw c.in-Replay.is c.replay.ensures.promise

pub returns-in-Check-clause-promise : goal.returns-in-Check-clause-promise
returns-in-Check-clause-promise g c = rw c.in-Check.is c.check.ensures.promise

pub returns-in-Generate-clause-promise : goal.returns-in-Generate-clause-promise
returns-in-Generate-clause-promise g c = rw c.in-Generate.is (kept_anyway (g.F.Shelf.state c.args.shelf.now) _ c.generate.result c.generate.ensures.promise)

pub returns-in-Generate-clause-work : goal.returns-in-Generate-clause-work
returns-in-Generate-clause-work g c =
    rw c.in-Generate.is (judged_works (EndsOver summing (made_files c.in-Generate.number)) (λ text. text.items) (g.F.Shelf.state c.args.shelf.now) c.generate.result c.generate.ensures.means)
