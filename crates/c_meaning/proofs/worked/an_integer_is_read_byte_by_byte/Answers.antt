-- What is left to show of `an_integer_is_read_byte_by_byte`.
use Rattle.std.proofs.Common.{refl}
use Rattle.c_meaning.proofs.worked.an_integer_is_read_byte_by_byte.Goals as goal

pub returns : goal.returns
returns c = refl
