-- The piece that was cut is the first of the tokens ahead, if it is one.
use Rattle.std.proofs.Common.{arith, length-drop}
use Rattle.c_tokens.proofs.Pieces.{cut_is, cut_tokens}
use Rattle.c_tokens.proofs.cursor.Cursor.piece.Goals as goal

pub split_at-requires : goal.split_at-requires
split_at-requires c = (cut_is c.cut_piece-kind.result c.args.self.now.rest.now c.cut_piece-kind.ensures c.requires).fits

pub returns-clause-tokens : goal.returns-clause-tokens
returns-clause-tokens c = rw c.split_at.ensures.back (cut_tokens c.cut_piece-kind.result c.args.self.now.rest.now c.cut_piece-kind.ensures c.requires c.split_at.result.0.now c.split_at.ensures.front)

pub returns-clause-shorter : goal.returns-clause-shorter
returns-clause-shorter c =
    let k = cut_is c.cut_piece-kind.result c.args.self.now.rest.now c.cut_piece-kind.ensures c.requires in
    rw c.split_at.ensures.back (omega (arith, length-drop c.cut_piece-kind.result.1 c.args.self.now.rest.now, k.takes, c.requires))
