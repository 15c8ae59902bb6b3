use Rattle.response_time.proofs.Examples.{again, too_soon, too_much, no_work}
use Rattle.response_time.proofs.worked.releases_are_a_period_apart.Goals as goal

pub returns-clause-again : goal.returns-clause-again
returns-clause-again c = again

pub returns-clause-too_soon : goal.returns-clause-too_soon
returns-clause-too_soon c = too_soon

pub returns-clause-too_much : goal.returns-clause-too_much
returns-clause-too_much c = too_much

pub returns-clause-no_work : goal.returns-clause-no_work
returns-clause-no_work c = no_work
