-- The tokens of a text.
--   Lexeme                   a token, without where its bytes lie in memory
--   ends_word quoted b       a word ends right before the byte b; quotes are open where quoted is true
--   is_quoted_after quoted b quotes are open after the byte b
--   word_len quoted bytes    how many of the bytes belong to the word
--   tokens_from line quoted bytes  the tokens of the bytes, of which the first begins a line where line is true
--   others_of after          the tokens after a word, where these bytes come after it
--   tokens_of bytes          the tokens of a text
use Rattle.std.specs.Prelude.{ℕ, suc, List, [], ◌∷◌, length, Bool, true, false, not, ◌&&◌, ◌||◌, ◌==◌, if◌then◌else◌}

-- a token: whether it begins a line, its bytes, and how many bytes of the text are left where it begins
pub record Lexeme : Type 0 where
  pub line : Bool
  pub text : List ℕ
  pub left : ℕ

-- a line feed ends a word, and so does a space outside quotes
abbrev pub ends_word : Bool → ℕ → Bool
ends_word quoted b = (b == 10) || ((b == 32) && not quoted)

-- a quote opens or closes
abbrev pub is_quoted_after : Bool → ℕ → Bool
is_quoted_after quoted b = if b == 34 then not quoted else quoted

-- how many of the bytes belong to the word
abbrev pub word_len : Bool → List ℕ → ℕ
word_len quoted [] = 0
word_len quoted (b ∷ bs) = if ends_word quoted b then 0 else suc (word_len (is_quoted_after quoted b) bs)

-- the first token with a byte before its own
abbrev pub with_byte : ℕ → List Lexeme → List Lexeme
with_byte b [] = []
with_byte b (t ∷ ts) = record { line = t.line; text = b ∷ t.text; left = suc t.left } ∷ ts

-- a text is cut at each byte that ends a word
abbrev pub tokens_from : Bool → Bool → List ℕ → List Lexeme
tokens_from line quoted [] = record { line = line; text = []; left = 0 } ∷ []
tokens_from line quoted (b ∷ bs) =
    if ends_word quoted b then record { line = line; text = []; left = length (b ∷ bs) } ∷ tokens_from (b == 10) false bs
    else with_byte b (tokens_from line (is_quoted_after quoted b) bs)

-- the byte that ends the word comes first
abbrev pub others_of : List ℕ → List Lexeme
others_of [] = []
others_of (b ∷ bs) = tokens_from (b == 10) false bs

-- the tokens of a text: there is always one
abbrev pub tokens_of : List ℕ → List Lexeme
tokens_of bytes = tokens_from true false bytes
