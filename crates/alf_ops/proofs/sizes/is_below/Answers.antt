use Rattle.std.proofs.Common.{arith, refl}
use Rattle.alf_ops.proofs.Modular.{below_wide}
use Rattle.alf_ops.proofs.sizes.is_below.Goals as goal

pub returns-else-size-lt64 : goal.returns-else-size-lt64
returns-else-size-lt64 c = (λ all. below_wide c.args.word c.args.size (omega arith) (omega arith), λ below. refl)
