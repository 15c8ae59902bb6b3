-- The text of either language keeps its own promise.
use Rattle.sweet_cli.proofs.commands.print_text.Goals as goal

pub returns-in-Alf-clause-promise : goal.returns-in-Alf-clause-promise
returns-in-Alf-clause-promise g c = rw c.in-Alf.is c.print.ensures.promise

pub returns-in-C-clause-promise : goal.returns-in-C-clause-promise
returns-in-C-clause-promise g c = rw c.in-C.is c.print_c.ensures.promise
