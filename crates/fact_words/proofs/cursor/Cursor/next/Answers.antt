-- The token that was cut is the first of the tokens ahead.
use Rattle.std.proofs.Common.{false, ap, ◌∙◌}
use Rattle.fact_words.specs.Ahead.{ahead_of}
use Rattle.fact_words.proofs.Cutting.{first_token}
use Rattle.fact_words.proofs.cursor.Cursor.next.Goals as goal

pub returns-clause-token : goal.returns-clause-token
returns-clause-token c =
    ap (ahead_of c.args.self.now.line) c.in-Some.is ∙
    rw (c.following.ensures, c.split_at.ensures.front, c.split_at.ensures.back, c.word_len.ensures.len)
    (first_token c.args.self.now.line false c.in-Some.rest.now)
