-- What is left to show of `objections_come_in_their_order`.
use Rattle.std.proofs.Common.{refl}
use Rattle.report_objections.proofs.worked.objections_come_in_their_order.Goals as goal

pub returns-clause-alarm : goal.returns-clause-alarm
returns-clause-alarm c = λ name cert. refl

pub returns-clause-line : goal.returns-clause-line
returns-clause-line c = λ name cert. refl

pub returns-clause-bound : goal.returns-clause-bound
returns-clause-bound c = λ name cert. refl

pub returns-clause-left : goal.returns-clause-left
returns-clause-left c = λ name. refl

pub returns-clause-holds : goal.returns-clause-holds
returns-clause-holds c = refl

pub returns-clause-negative : goal.returns-clause-negative
returns-clause-negative c = refl

pub returns-clause-wide : goal.returns-clause-wide
returns-clause-wide c = refl

pub returns-clause-column : goal.returns-clause-column
returns-clause-column c = refl

pub returns-clause-worth : goal.returns-clause-worth
returns-clause-worth c = refl
