use Rattle.std.specs.Prelude.{slice_get}
use Rattle.alf_ops.specs.Table.{operand_sizes}
use Rattle.interval_congruence.proofs.DivisorSizes.{sized_alike}
use Rattle.interval_congruence.proofs.domain.divided.Goals as goal

pub ruled-requires-clause-second : goal.ruled-requires-clause-second
ruled-requires-clause-second c = sized_alike (slice_get (operand_sizes c.args.op c.args.sizes.now) 1) c.args.b c.in-Some.rest c.in-Some.ensures.size c.requires.second
