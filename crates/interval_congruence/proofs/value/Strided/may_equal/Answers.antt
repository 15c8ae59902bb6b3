use Rattle.std.proofs.Common.{refl}
use Rattle.interval_congruence.proofs.value.Strided.may_equal.Goals as goal

pub returns : goal.returns
returns c = rw (c.some_choice.ensures, c.far_unsigned-a.ensures.value, c.far_unsigned-b.ensures.value) refl
