-- The token that was taken is the next.
use Rattle.std.proofs.Common.{◌≡◌, ◌+◌, List, [], ◌∷◌, ◌++◌, sym, subst}
use Rattle.c_tokens.specs.Tokens.{Lexeme}
use Rattle.c_tokens.specs.Ahead.{ahead, lexeme}
use Rattle.c_reader.specs.declared.tokens.CutToken.{CutToken}
use Rattle.c_reader.proofs.Numbered.{Cut, cut_of, cut_more}
use Rattle.c_reader.proofs.tokens.cut.Goals as goal

pub loop-token-preserved : goal.loop-token-preserved
loop-token-preserved c =
    let so = subst (λ (ts : List Lexeme). Cut c.args.text.now c.loop-token.tokens.items c.loop-token.number ts) c.in-Some.ensures.token c.loop-token.invariant in
    let pushed : c.push.new.self.items ≡ c.loop-token.tokens.items ++ cut_of c.args.text.now c.loop-token.number (lexeme c.in-Some.token) ∷ [] = rw (c.saturating_sub.ensures, c.symbol_of.ensures) at c.in_ok-push.ensures.items in
    subst (λ (items : List CutToken). Cut c.args.text.now items (c.loop-token.number + 1) (ahead c.next.new.self)) (sym pushed)
    (cut_more c.args.text.now c.loop-token.tokens.items c.loop-token.number (lexeme c.in-Some.token) (ahead c.next.new.self) so)
