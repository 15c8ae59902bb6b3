use Rattle.strided_operators.proofs.Parts.{piece_small}
use Rattle.strided_operators.proofs.kept_parts.end_dropped.Goals as goal

pub without_first-requires : goal.without_first-requires
without_first-requires c = piece_small c.args.p.now c.requires

pub without_last-requires : goal.without_last-requires
without_last-requires c = piece_small c.args.p.now c.requires
