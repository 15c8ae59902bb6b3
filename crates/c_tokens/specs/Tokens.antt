-- The tokens of a text.
--   Lexeme           a token, without where its bytes lie in memory
--   longest bytes    how many bytes the longest piece has that these bytes begin with
--   pieces_of bytes  the pieces of a text, one after the other, each the longest that begins at its place
--   tokens_of bytes  the tokens of a text: its pieces without white space
use Rattle.std.specs.Prelude.{ℕ, zero, suc, List, [], ◌∷◌, length, take, drop, filter, Bool, true, false, not, if◌then◌else◌}
use Rattle.std.specs.Option.{is_some, unwrap_or}
use Rattle.c_tokens.specs.declared.token.Kind.{Kind}
use Rattle.c_tokens.specs.declared.token.Kind.TheVariants as kinds
use Rattle.c_tokens.specs.Kinds.{kind_of}

-- a token: its kind, its bytes, and how many bytes of the text are left where it begins
pub record Lexeme : Type 0 where
  pub kind : Kind
  pub text : List ℕ
  pub left : ℕ

-- the longest piece of at most so many bytes
abbrev pub longest_within : ℕ → List ℕ → ℕ
longest_within zero bytes = 0
longest_within (suc n) bytes = if is_some (kind_of (take (suc n) bytes)) then suc n else longest_within n bytes

unfoldable pub longest : List ℕ → ℕ
longest bytes = longest_within (length bytes) bytes

-- the piece of this text, where so many bytes are left
abbrev pub piece_of : List ℕ → ℕ → Lexeme
piece_of text left = record { kind = unwrap_or (kind_of text) kinds.Other; text = text; left = left }

-- at most so many pieces
abbrev pub cut : ℕ → List ℕ → List Lexeme
cut zero bytes = []
cut (suc n) [] = []
cut (suc n) (b ∷ bs) = piece_of (take (longest (b ∷ bs)) (b ∷ bs)) (length (b ∷ bs)) ∷ cut n (drop (longest (b ∷ bs)) (b ∷ bs))

unfoldable pub pieces_of : List ℕ → List Lexeme
pieces_of bytes = cut (length bytes) bytes

abbrev pub is_white : Kind → Bool
is_white kinds.White = true
is_white _ = false

abbrev pub is_token : Lexeme → Bool
is_token t = not (is_white t.kind)

-- what a piece adds to the tokens
abbrev pub shown : Lexeme → List Lexeme
shown t = if is_token t then t ∷ [] else []

unfoldable pub tokens_of : List ℕ → List Lexeme
tokens_of bytes = filter is_token (pieces_of bytes)
