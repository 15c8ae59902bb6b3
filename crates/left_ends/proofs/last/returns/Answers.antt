use Rattle.std.proofs.Common.{refl, ap}
use Rattle.alf_check.specs.CheckedPrograms.{end_of}
use Rattle.left_ends.proofs.last.returns.Goals as goal

pub returns-in-Return : goal.returns-in-Return
returns-in-Return c = ((λ yes. (_, ap end_of c.in-Return.is)), (λ returns. refl))
