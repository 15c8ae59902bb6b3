-- A text that was printed spells the same program.
use Rattle.command_plans.specs.Log.{log_of}
use Rattle.sweet_cli.proofs.Promises.{prints_same}
use Rattle.sweet_cli.proofs.commands.print.print.Goals as goal

pub returns-clause-promise : goal.returns-clause-promise
returns-clause-promise g c =
    prints_same c.canonical_texts_are_read_back.ensures.spelled c.args.file.now (g.F.Shelf.state c.args.shelf.now).files (log_of (g.F.Shelf.state c.args.shelf.now))
    c.in_ok-text.text.items (log_of (g.F.Shelf.state c.printing.new.shelf)) c.in_ok-text.ensures.ends.0
