-- What is left to show of `tokens_stand_at_their_places`.
use Rattle.std.proofs.Common.{refl}
use Rattle.c_unit.proofs.worked.tokens_stand_at_their_places.Goals as goal

pub returns : goal.returns
returns c = refl
