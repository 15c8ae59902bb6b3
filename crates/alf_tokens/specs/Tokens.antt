-- The tokens of a text.
--   Lexeme                   a token, without where its bytes lie in memory
--   piece numbered bytes     the kind and the length of the piece that the bytes begin with, which is as long as it can be
--   pieces_of bytes          the pieces of a text, one after the other
--   tokens_of bytes          the tokens of a text: its pieces without white space
-- `numbered` says that a number ends right before the bytes. A letter there begins no piece. Where no piece begins, the
-- rest of the text is one broken piece.
use Rattle.std.specs.Prelude.{ℕ, zero, suc, ◌+◌, ◌-◌, List, [], ◌∷◌, length, take, drop, filter, Bool, true, false, not, ◌&&◌, ◌==◌, nat_le, nat_lt, Option, Some, None, if◌then◌else◌}
use Rattle.std.specs.List.{prefix_len}
use Rattle.std.specs.Char.{is_ascii_digit, is_ascii_alphabetic}
use Rattle.alf_tokens.specs.declared.token.Kind.{Kind}
use Rattle.alf_tokens.specs.declared.token.Kind.TheVariants as kinds
use Rattle.alf_tokens.specs.Bytes.{is_blank, is_word_byte, is_name_byte, begins_with, to_close}

-- a token: its kind, its bytes, and how many bytes of the text are left where it begins
pub record Lexeme : Type 0 where
  pub kind : Kind
  pub text : List ℕ
  pub left : ℕ

-- ---- kinds

abbrev pub is_kind : Kind → Kind → Bool
is_kind kinds.White kinds.White = true
is_kind kinds.Open kinds.Open = true
is_kind kinds.Close kinds.Close = true
is_kind kinds.Word kinds.Word = true
is_kind kinds.Number kinds.Number = true
is_kind kinds.Long kinds.Long = true
is_kind kinds.Quoted kinds.Quoted = true
is_kind kinds.Broken kinds.Broken = true
is_kind _ _ = false

-- a number, of however many digits
abbrev pub is_numeral : Kind → Bool
is_numeral kinds.Number = true
is_numeral kinds.Long = true
is_numeral _ = false

-- ---- one piece

-- a name of 1 to 64 bytes after its first quote, with its last quote, where so many bytes are left in all
abbrev pub name_piece : List ℕ → ℕ → Kind × ℕ
name_piece bytes all =
    if nat_lt 0 (prefix_len is_name_byte bytes) && nat_le (prefix_len is_name_byte bytes) 64 && begins_with 34 (drop (prefix_len is_name_byte bytes) bytes)
    then (kinds.Quoted, prefix_len is_name_byte bytes + 2) else (kinds.Broken, all)

abbrev pub closed_piece : Option ℕ → ℕ → Kind × ℕ
closed_piece None all = (kinds.Broken, all)
closed_piece (Some n) all = (kinds.White, n + 2)

-- a comment after its slash
abbrev pub comment_piece : List ℕ → ℕ → Kind × ℕ
comment_piece bytes all = if begins_with 42 bytes then closed_piece (to_close (drop 1 bytes)) all else (kinds.Broken, all)

-- so many digits
abbrev pub number_piece : ℕ → Kind × ℕ
number_piece n = if nat_le n 20 then (kinds.Number, n) else (kinds.Long, n)

-- the kind and the length of the piece that the bytes begin with
unfoldable pub piece : Bool → List ℕ → Kind × ℕ
piece numbered [] = (kinds.Broken, 0)
piece numbered (b ∷ bs) =
    if is_blank b then (kinds.White, 1)
    else if b == 123 then (kinds.Open, 1)
    else if b == 125 then (kinds.Close, 1)
    else if b == 34 then name_piece bs (length (b ∷ bs))
    else if b == 47 then comment_piece bs (length (b ∷ bs))
    else if is_ascii_digit b then number_piece (prefix_len is_ascii_digit (b ∷ bs))
    else if is_ascii_alphabetic b && not numbered then (kinds.Word, prefix_len is_word_byte (b ∷ bs))
    else (kinds.Broken, length (b ∷ bs))

-- what a piece of these bytes shows of itself: a name is told without its quotes
abbrev pub text_of : Kind → List ℕ → List ℕ
text_of kinds.Quoted bytes = drop 1 (take (length bytes - 1) bytes)
text_of kind bytes = bytes

-- the piece of this kind and of n bytes
abbrev pub lexeme_of : Kind × ℕ → List ℕ → Lexeme
lexeme_of p bytes = record { kind = p.0; text = text_of p.0 (take p.1 bytes); left = length bytes }

-- ---- texts

-- at most so many pieces
abbrev pub cut : ℕ → Bool → List ℕ → List Lexeme
cut zero numbered bytes = []
cut (suc n) numbered [] = []
cut (suc n) numbered (b ∷ bs) = lexeme_of (piece numbered (b ∷ bs)) (b ∷ bs) ∷ cut n (is_numeral (piece numbered (b ∷ bs)).0) (drop (piece numbered (b ∷ bs)).1 (b ∷ bs))

-- the pieces of a text
abbrev pub pieces_of : List ℕ → List Lexeme
pieces_of bytes = cut (length bytes) false bytes

abbrev pub is_token : Lexeme → Bool
is_token t = not (is_kind kinds.White t.kind)

-- what a piece adds to the tokens
abbrev pub shown : Lexeme → List Lexeme
shown t = if is_token t then t ∷ [] else []

-- the tokens of the bytes
unfoldable pub tokens_from : Bool → List ℕ → List Lexeme
tokens_from numbered bytes = filter is_token (cut (length bytes) numbered bytes)

-- the tokens of a text
unfoldable pub tokens_of : List ℕ → List Lexeme
tokens_of bytes = tokens_from false bytes
