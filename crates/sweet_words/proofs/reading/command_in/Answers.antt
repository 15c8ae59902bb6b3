use Rattle.std.proofs.Common.{◌∙◌}
use Rattle.sweet_words.proofs.Entered.{command_is}
use Rattle.sweet_words.proofs.reading.command_in.Goals as goal

pub returns-clause-command : goal.returns-clause-command
returns-clause-command c = c.named.ensures.command ∙ command_is c.args.matches.now c.subcommand.result c.in_ok-name.name c.in_ok-name.given c.in_ok-name.was c.subcommand.ensures.name c.subcommand.ensures.rows
