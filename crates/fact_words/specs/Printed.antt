-- Texts that are printed from tokens.
--   Mark                     a word, and whether it begins a line
--   separator line           the byte before a word: a line feed before a word that begins a line, else a space
--   is_word text             the bytes are one whole word
--   printed mark             the bytes of a mark
--   text_of_marks marks      the text: the marks without the byte before the first
--   tokens_before more marks the tokens that the marks print, and then these
use Rattle.std.specs.Prelude.{ℕ, suc, ◌+◌, List, [], ◌∷◌, length, drop, Bool, false, ◌&&◌, not, if◌then◌else◌}
use Rattle.std.specs.List.{flat_map}
use Rattle.fact_words.specs.Tokens.{Lexeme, ends_word, is_quoted_after}

-- a word, and whether it begins a line
pub record Mark : Type 0 where
  pub line : Bool
  pub text : List ℕ

-- ---- which words can be printed

-- no byte ends the word, and no quote is left open
abbrev pub goes_through : Bool → List ℕ → Bool
goes_through quoted [] = not quoted
goes_through quoted (b ∷ bs) = not (ends_word quoted b) && goes_through (is_quoted_after quoted b) bs

abbrev pub is_word : List ℕ → Bool
is_word text = goes_through false text

abbrev pub is_mark : Mark → Bool
is_mark m = is_word m.text

-- ---- their text

abbrev pub separator : Bool → ℕ
separator line = if line then 10 else 32

abbrev pub printed : Mark → List ℕ
printed m = separator m.line ∷ m.text

-- a token after the byte before it
abbrev pub token_bytes : Lexeme → List ℕ
token_bytes t = separator t.line ∷ t.text

-- the text that the marks print
abbrev pub text_of_marks : List Mark → List ℕ
text_of_marks marks = drop 1 (flat_map printed marks)

-- ---- their tokens

-- how many bytes are left right before these tokens
abbrev pub left_before : List Lexeme → ℕ
left_before [] = 0
left_before (t ∷ ts) = suc t.left

-- the token of a mark
abbrev pub token_before : List Lexeme → Mark → Lexeme
token_before more m = record { line = m.line; text = m.text; left = length m.text + left_before more }

abbrev pub tokens_before : List Lexeme → List Mark → List Lexeme
tokens_before more [] = more
tokens_before more (m ∷ ms) = token_before (tokens_before more ms) m ∷ tokens_before more ms
