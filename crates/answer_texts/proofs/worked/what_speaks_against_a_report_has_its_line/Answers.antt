-- What is left to show of `what_speaks_against_a_report_has_its_line`.
use Rattle.std.proofs.Common.{refl}
use Rattle.answer_texts.proofs.worked.what_speaks_against_a_report_has_its_line.Goals as goal

pub returns-clause-cert : goal.returns-clause-cert
unfolding Rattle.std.specs.Fmt.digits
returns-clause-cert c = refl

pub returns-clause-shape : goal.returns-clause-shape
unfolding Rattle.std.specs.Fmt.digits
returns-clause-shape c = refl

pub returns-clause-event : goal.returns-clause-event
unfolding Rattle.std.specs.Fmt.digits
returns-clause-event c = refl

pub returns-clause-left : goal.returns-clause-left
unfolding Rattle.std.specs.Fmt.digits
returns-clause-left c = refl

pub returns-clause-alarm : goal.returns-clause-alarm
unfolding Rattle.std.specs.Fmt.digits
returns-clause-alarm c = refl

pub returns-clause-fact : goal.returns-clause-fact
unfolding Rattle.std.specs.Fmt.digits
returns-clause-fact c = refl

pub returns-clause-count_bound : goal.returns-clause-count_bound
unfolding Rattle.std.specs.Fmt.digits
returns-clause-count_bound c = refl

pub returns-clause-negative : goal.returns-clause-negative
unfolding Rattle.std.specs.Fmt.digits
returns-clause-negative c = refl

pub returns-clause-wide : goal.returns-clause-wide
unfolding Rattle.std.specs.Fmt.digits
returns-clause-wide c = refl

pub returns-clause-column : goal.returns-clause-column
unfolding Rattle.std.specs.Fmt.digits
returns-clause-column c = refl

pub returns-clause-bound : goal.returns-clause-bound
unfolding Rattle.std.specs.Fmt.digits
returns-clause-bound c = refl

pub returns-clause-outside : goal.returns-clause-outside
unfolding Rattle.std.specs.Fmt.digits
returns-clause-outside c = refl

pub returns-clause-path_bound : goal.returns-clause-path_bound
unfolding Rattle.std.specs.Fmt.digits
returns-clause-path_bound c = refl

pub returns-clause-holds : goal.returns-clause-holds
unfolding Rattle.std.specs.Fmt.digits
returns-clause-holds c = refl
