use Rattle.strided_operators.proofs.Parts.{IsFar, piece_small}
use Rattle.strided_operators.proofs.kept_parts.between.Goals as goal

pub between-requires-clause-small : goal.between-requires-clause-small
between-requires-clause-small c = let piece : IsFar c.in-Some.p = rw c.in-Some.is at c.requires in piece_small c.in-Some.p piece
