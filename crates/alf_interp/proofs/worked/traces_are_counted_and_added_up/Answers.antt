-- What is left to show of `traces_are_counted_and_added_up`.
use Rattle.std.proofs.Common.{refl}
use Rattle.alf_interp.proofs.worked.traces_are_counted_and_added_up.Goals as goal

pub returns-clause-last : goal.returns-clause-last
returns-clause-last c = refl

pub returns-clause-none : goal.returns-clause-none
returns-clause-none c = refl

pub returns-clause-places : goal.returns-clause-places
returns-clause-places c = refl

pub returns-clause-cost : goal.returns-clause-cost
returns-clause-cost c = refl
