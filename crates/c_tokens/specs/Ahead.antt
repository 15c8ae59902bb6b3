-- What a cursor stands for.
--   lexeme token   the token, without where its bytes lie in memory
--   ahead cursor   the tokens that are not taken yet
--   taken found    what was taken: a token, or nothing
--   first tokens   the first of the tokens, if there is one
use Rattle.std.specs.Prelude.{List, [], ◌∷◌, Option, Some, None}
use Rattle.c_tokens.specs.declared.token.Token.{Token}
use Rattle.c_tokens.specs.declared.cursor.Cursor.{Cursor}
use Rattle.c_tokens.specs.Tokens.{Lexeme, tokens_of}

abbrev pub lexeme : Token → Lexeme
lexeme t = record { kind = t.kind; text = t.text.now; left = t.left }

abbrev pub ahead : Cursor → List Lexeme
ahead c = tokens_of c.rest.now

abbrev pub taken : Option Token → List Lexeme
taken None = []
taken (Some t) = lexeme t ∷ []

abbrev pub first : List Lexeme → List Lexeme
first [] = []
first (t ∷ ts) = t ∷ []
