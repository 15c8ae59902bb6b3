-- What is left to show of `numbers_have_128_bits`.
use Rattle.std.proofs.Common.{refl}
use Rattle.ipet_rows.proofs.worked.numbers_have_128_bits.Goals as goal

pub returns-clause-greatest : goal.returns-clause-greatest
returns-clause-greatest c = refl

pub returns-clause-past : goal.returns-clause-past
returns-clause-past c = refl

pub returns-clause-least : goal.returns-clause-least
returns-clause-least c = refl

pub returns-clause-below : goal.returns-clause-below
returns-clause-below c = refl

pub returns-clause-earliest : goal.returns-clause-earliest
returns-clause-earliest c = refl
