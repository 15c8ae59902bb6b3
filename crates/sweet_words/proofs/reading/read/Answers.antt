use Rattle.std.proofs.Common.{map, string_bytes, option_map}
use Rattle.clap.specs.Words.{app_of}
use Rattle.sweet_words.specs.Commands.{command_of}
use Rattle.sweet_words.specs.Meant.{command_meant}
use Rattle.sweet_words.proofs.Entered.{taken_command, refused_words, answer_command, answer_usage}
use Rattle.sweet_words.proofs.reading.read.Goals as goal

pub returns-in-Ok-try_get_matches_from-clause-command : goal.returns-in-Ok-try_get_matches_from-clause-command
returns-in-Ok-try_get_matches_from-clause-command c =
    answer_command c.command_in.result c.ok_or.result (command_of (map string_bytes c.args.words.now)) c.ok_or.ensures.value
    (taken_command (app_of c.in-Ok.reader) (map string_bytes c.args.words.now) _ _ _ (option_map command_meant c.command_in.result) c.in-Ok.ensures
    c.in-Ok-try_get_matches_from.ensures.kinds c.in-Ok-try_get_matches_from.ensures.matches c.command_in.ensures.command)

pub returns-in-Ok-try_get_matches_from-clause-usage : goal.returns-in-Ok-try_get_matches_from-clause-usage
returns-in-Ok-try_get_matches_from-clause-usage c =
    answer_usage c.command_in.result c.ok_or.result (command_of (map string_bytes c.args.words.now)) c.ok_or.ensures.value
    (taken_command (app_of c.in-Ok.reader) (map string_bytes c.args.words.now) _ _ _ (option_map command_meant c.command_in.result) c.in-Ok.ensures
    c.in-Ok-try_get_matches_from.ensures.kinds c.in-Ok-try_get_matches_from.ensures.matches c.command_in.ensures.command)

pub returns-in-Err-clause-usage : goal.returns-in-Err-clause-usage
returns-in-Err-clause-usage c = λ usage. refused_words (app_of c.in-Ok.reader) (map string_bytes c.args.words.now) c.in-Err.error c.in-Ok.ensures
    c.in-Err.ensures.kinds (c.fault_of.ensures (cc))
