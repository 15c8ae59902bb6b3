-- The words' command keeps its promise.
use Rattle.std.proofs.Common.{IfOk, Option, sym, subst}
use Rattle.sweet_cli.specs.Words.{Command}
use Rattle.sweet_cli.specs.Task.{IsPromised}
use Rattle.sweet_cli.specs.Table.{task_for_some}
use Rattle.sweet_cli.proofs.commands.words_text.Goals as goal

pub returns-in-Ok-clause-promise : goal.returns-in-Ok-clause-promise
returns-in-Ok-clause-promise g c =
    subst (λ (asked : Option Command). IfOk c.command_text.result (λ text. IsPromised (task_for_some asked) (g.F.Shelf.state c.args.shelf.now) (g.F.Shelf.state c.command_text.new.shelf) text.items))
    (sym c.in-Ok.ensures.command) c.command_text.ensures.promise
