-- What is left to show of `small_sums_come_out`.
use Rattle.std.proofs.Common.{refl}
use Rattle.ipet_rows.proofs.worked.small_sums_come_out.Goals as goal

pub returns-clause-total : goal.returns-clause-total
returns-clause-total c = refl

pub returns-clause-value : goal.returns-clause-value
returns-clause-value c = refl

pub returns-clause-has : goal.returns-clause-has
returns-clause-has c = refl

pub returns-clause-lacks : goal.returns-clause-lacks
returns-clause-lacks c = refl

pub returns-clause-right : goal.returns-clause-right
returns-clause-right c = refl

pub returns-clause-column : goal.returns-clause-column
returns-clause-column c = refl

pub returns-clause-whole : goal.returns-clause-whole
returns-clause-whole c = refl

pub returns-clause-half : goal.returns-clause-half
returns-clause-half c = refl

pub returns-clause-two_thirds : goal.returns-clause-two_thirds
returns-clause-two_thirds c = refl

pub returns-clause-cost : goal.returns-clause-cost
returns-clause-cost c = refl

pub returns-clause-past : goal.returns-clause-past
returns-clause-past c = refl

pub returns-clause-absent : goal.returns-clause-absent
returns-clause-absent c = refl
