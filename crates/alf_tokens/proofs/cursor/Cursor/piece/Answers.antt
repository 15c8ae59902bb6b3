-- The piece that was cut is the first of the tokens ahead, if it is one.
use Rattle.std.proofs.Common.{arith, length-drop}
use Rattle.alf_tokens.specs.Ahead.{lexeme}
use Rattle.alf_tokens.proofs.Pieces.{cut_is, taken}
use Rattle.alf_tokens.proofs.cursor.Cursor.piece.Goals as goal

pub split_at-requires : goal.split_at-requires
split_at-requires c = (cut_is c.args.self.now.numbered c.piece-kind.result c.args.self.now.rest.now c.piece-kind.ensures c.requires).fits

pub token-requires : goal.token-requires
token-requires c = λ k.
    let two = (cut_is c.args.self.now.numbered c.piece-kind.result c.args.self.now.rest.now c.piece-kind.ensures c.requires).quotes k in
    omega (arith, c.split_at.ensures.front_len, two)

pub returns-clause-tokens : goal.returns-clause-tokens
returns-clause-tokens c =
    rw (c.is_numeral-self.ensures, c.split_at.ensures.back)
    (taken c.args.self.now.numbered c.piece-kind.result c.args.self.now.rest.now c.piece-kind.ensures c.requires c.split_at.result.0.now (lexeme c.token.result) c.split_at.ensures.front c.token.ensures)

pub returns-clause-shorter : goal.returns-clause-shorter
returns-clause-shorter c =
    let k = cut_is c.args.self.now.numbered c.piece-kind.result c.args.self.now.rest.now c.piece-kind.ensures c.requires in
    rw c.split_at.ensures.back (omega (arith, length-drop c.piece-kind.result.1 c.args.self.now.rest.now, k.takes, c.requires))
