-- Texts that are printed from tokens.
--   Mark                     a blank and the token after it
--   can_print kind text      a token of this kind that shows this text can be printed
--   is_mark mark             the blank is a space or a line feed, and the token can be printed
--   piece_bytes piece        the bytes of a piece of a text
--   printed mark             the bytes of a mark
--   text_of_marks marks      the text: the marks without the first blank, and a line feed at the end
--   tokens_before more marks the tokens that the marks print, and then these
--   is_named_well token      where the token is a name, it can be printed
use Rattle.std.specs.Prelude.{ℕ, suc, ◌+◌, List, [], ◌∷◌, ◌++◌, length, drop, Bool, false, ◌&&◌, ◌||◌, ◌==◌, not, nat_le, nat_lt, codes}
use Rattle.std.specs.List.{list_all, flat_map}
use Rattle.std.specs.Str.{bytes_eq}
use Rattle.std.specs.Char.{is_ascii_digit, is_ascii_alphabetic}
use Rattle.alf_tokens.specs.declared.token.Kind.{Kind}
use Rattle.alf_tokens.specs.declared.token.Kind.TheVariants as kinds
use Rattle.alf_tokens.specs.Bytes.{is_word_byte, is_name_byte}
use Rattle.alf_tokens.specs.Tokens.{Lexeme, is_kind}

-- a blank and the token after it
pub record Mark : Type 0 where
  pub blank : ℕ
  pub kind : Kind
  pub text : List ℕ

-- ---- which tokens can be printed

-- a letter, and then letters, digits and underscores
abbrev pub is_word_text : List ℕ → Bool
is_word_text [] = false
is_word_text (b ∷ bs) = is_ascii_alphabetic b && list_all is_word_byte bs

-- 1 to 20 digits
abbrev pub is_number_text : List ℕ → Bool
is_number_text text = nat_lt 0 (length text) && nat_le (length text) 20 && list_all is_ascii_digit text

-- 1 to 64 bytes that may stand in a name
abbrev pub is_name_text : List ℕ → Bool
is_name_text text = nat_lt 0 (length text) && nat_le (length text) 64 && list_all is_name_byte text

abbrev pub can_print : Kind → List ℕ → Bool
can_print kinds.Open text = bytes_eq text (codes "{")
can_print kinds.Close text = bytes_eq text (codes "}")
can_print kinds.Word text = is_word_text text
can_print kinds.Number text = is_number_text text
can_print kinds.Quoted text = is_name_text text
can_print _ text = false

-- a space or a line feed
abbrev pub is_separator : ℕ → Bool
is_separator b = (b == 32) || (b == 10)

abbrev pub is_mark : Mark → Bool
is_mark m = is_separator m.blank && can_print m.kind m.text

-- ---- their text

-- the bytes of a token: those of a name stand between quotes
abbrev pub bytes_of : Kind → List ℕ → List ℕ
bytes_of kinds.Quoted text = 34 ∷ (text ++ 34 ∷ [])
bytes_of kind text = text

-- the bytes of a piece
abbrev pub piece_bytes : Lexeme → List ℕ
piece_bytes t = bytes_of t.kind t.text

abbrev pub printed : Mark → List ℕ
printed m = m.blank ∷ bytes_of m.kind m.text

-- the text that the marks print
abbrev pub text_of_marks : List Mark → List ℕ
text_of_marks marks = drop 1 (flat_map printed marks) ++ 10 ∷ []

-- ---- their tokens

-- how many bytes are left right before these tokens, of which each stands after a blank and the last before a line feed
abbrev pub left_before : List Lexeme → ℕ
left_before [] = 1
left_before (t ∷ ts) = suc t.left

-- the token of a mark
abbrev pub token_before : List Lexeme → Mark → Lexeme
token_before more m = record { kind = m.kind; text = m.text; left = length (bytes_of m.kind m.text) + left_before more }

abbrev pub tokens_before : List Lexeme → List Mark → List Lexeme
tokens_before more [] = more
tokens_before more (m ∷ ms) = token_before (tokens_before more ms) m ∷ tokens_before more ms

-- where the token is a name, it can be printed
abbrev pub is_named_well : Lexeme → Bool
is_named_well t = not (is_kind kinds.Quoted t.kind) || is_name_text t.text
