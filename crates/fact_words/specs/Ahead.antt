-- What a cursor stands for.
--   lexeme token     the token, without where its bytes lie in memory
--   ahead cursor     the tokens that are not taken yet
--   taken found      what was taken: a token, or nothing
use Rattle.std.specs.Prelude.{List, [], ◌∷◌, Bool, false, Option, Some, None, ℕ}
use denote.Ref.{Bor}
use Rattle.fact_words.specs.declared.token.Token.{Token}
use Rattle.fact_words.specs.declared.cursor.Cursor.{Cursor}
use Rattle.fact_words.specs.Tokens.{Lexeme, tokens_from}

abbrev pub lexeme : Token → Lexeme
lexeme t = record { line = t.line; text = t.text.now; left = t.left }

abbrev pub ahead_of : Bool → Option (Bor (List ℕ)) → List Lexeme
ahead_of line None = []
ahead_of line (Some rest) = tokens_from line false rest.now

abbrev pub ahead : Cursor → List Lexeme
ahead c = ahead_of c.line c.rest

abbrev pub taken : Option Token → List Lexeme
taken None = []
taken (Some t) = lexeme t ∷ []
