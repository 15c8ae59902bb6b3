-- A text that was printed spells the same unit.
use Rattle.command_plans.specs.Log.{log_of}
use Rattle.sweet_cli.proofs.Promises.{prints_same_unit}
use Rattle.sweet_cli.proofs.commands.print_c.print_c.Goals as goal

pub returns-clause-promise : goal.returns-clause-promise
returns-clause-promise g c =
    prints_same_unit c.spelled_units_are_read_back.ensures.again c.args.file.now (g.F.Shelf.state c.args.shelf.now).files (log_of (g.F.Shelf.state c.args.shelf.now))
    c.in_ok-text.text.items (log_of (g.F.Shelf.state c.printing_c.new.shelf)) c.in_ok-text.ensures.ends.0
