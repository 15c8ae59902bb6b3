-- What is left to show of `spelled_units_are_counted`.
use Rattle.c_limits.proofs.CountSpelledLaws.{spelled_is_counted}
use Rattle.c_limits.proofs.count_laws.spelled_units_are_counted.Goals as goal

pub returns : goal.returns
returns c unit spelled = spelled_is_counted c.tokens_are_known_by_their_texts.ensures unit spelled
