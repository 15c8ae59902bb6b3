use Rattle.std.proofs.Common.{sym}
use Rattle.interval_congruence.proofs.Readings.{signed_low}
use Rattle.interval_congruence.proofs.value.Strided.signed_word.Goals as goal

pub returns-clause-value : goal.returns-clause-value
returns-clause-value c = rw c.numbers.ensures.value (sym (signed_low c.args.self c.numbers.ensures.stride))
