-- What a cursor stands for.
--   lexeme token     the token, without where its bytes lie in memory
--   ahead cursor     the tokens that are not taken yet
--   taken found      what was taken: a token, or nothing
--   opens tokens     the first token is a brace that opens
use Rattle.std.specs.Prelude.{List, [], ◌∷◌, Bool, false, Option, Some, None}
use Rattle.alf_tokens.specs.declared.token.Kind.TheVariants as kinds
use Rattle.alf_tokens.specs.declared.token.Token.{Token}
use Rattle.alf_tokens.specs.declared.cursor.Cursor.{Cursor}
use Rattle.alf_tokens.specs.Tokens.{Lexeme, is_kind, tokens_from}

abbrev pub lexeme : Token → Lexeme
lexeme t = record { kind = t.kind; text = t.text.now; left = t.left }

abbrev pub ahead : Cursor → List Lexeme
ahead c = tokens_from c.numbered c.rest.now

abbrev pub taken : Option Token → List Lexeme
taken None = []
taken (Some t) = lexeme t ∷ []

abbrev pub opens : List Lexeme → Bool
opens [] = false
opens (t ∷ ts) = is_kind kinds.Open t.kind
