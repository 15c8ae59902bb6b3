-- What is left to show of `what_is_wrong_has_a_place`.
use Rattle.std.proofs.Common.{refl}
use Rattle.c_rules.proofs.worked.what_is_wrong_has_a_place.Goals as goal

pub returns-clause-lone : goal.returns-clause-lone
returns-clause-lone c = refl

pub returns-clause-cast : goal.returns-clause-cast
returns-clause-cast c = refl
