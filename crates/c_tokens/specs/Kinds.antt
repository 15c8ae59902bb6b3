-- What a text is as a whole.
--   kind_of text   the kind of piece that the text is, if it is one: white space or one preprocessing token of C99
-- A byte that is in no other token is a token of its own. So is a comment that is not closed, up to the end of the
-- text, and a literal that is not, up to the end of its line. Letters are those of ASCII.
use Rattle.std.specs.Prelude.{ℕ, ◌==◌, List, [], ◌∷◌, length, Bool, false, ◌&&◌, Option, Some, None, if◌then◌else◌}
use Rattle.std.specs.List.{list_all}
use Rattle.std.specs.Char.{is_ascii_digit}
use Rattle.c_tokens.specs.declared.token.Kind.{Kind}
use Rattle.c_tokens.specs.declared.token.Kind.TheVariants as kinds
use Rattle.c_tokens.specs.Bytes.{is_blank, is_letter, is_word_byte, is_quote, in_line}
use Rattle.c_tokens.specs.Ends.{comment_end, literal_end, is_end}
use Rattle.c_tokens.specs.Numbers.{is_number_rest, starts_number}
use Rattle.c_tokens.specs.Punctuators.{is_single, is_punctuator}

abbrev pub only : Bool → Kind → Option Kind
only test kind = if test then Some kind else None

-- what a single byte is
abbrev pub kind_of_one : ℕ → Kind
kind_of_one b =
    if is_blank b then kinds.White
    else if is_letter b then kinds.Identifier
    else if is_ascii_digit b then kinds.Number
    else if is_quote b then kinds.OpenLiteral
    else if is_single b then kinds.Punctuator
    else kinds.Other

-- a comment, after its slash and star: it ends here, or nowhere
abbrev pub comment_kind : Option ℕ → List ℕ → Option Kind
comment_kind None bytes = Some kinds.OpenComment
comment_kind (Some n) bytes = only (n == length bytes) kinds.White

abbrev pub literal_kind : ℕ → Kind
literal_kind q = if q == 39 then kinds.Character else kinds.StringLiteral

-- a literal, after the quote that opens it: it is closed here, or nowhere
abbrev pub quoted_kind : ℕ → Option ℕ → List ℕ → Option Kind
quoted_kind q None bytes = only (list_all in_line bytes) kinds.OpenLiteral
quoted_kind q (Some n) bytes = only (n == length bytes) (literal_kind q)

-- a slash and a star, or two slashes
abbrev pub opens_comment : ℕ → ℕ → Bool
opens_comment b c = (b == 47) && (c == 42)

abbrev pub opens_line_comment : ℕ → ℕ → Bool
opens_line_comment b c = (b == 47) && (c == 47)

-- L and a quote
abbrev pub is_wide : ℕ → ℕ → Bool
is_wide b c = (b == 76) && is_quote c

-- what two and more bytes are
abbrev pub kind_of_more : ℕ → ℕ → List ℕ → Option Kind
kind_of_more b c cs =
    if is_blank b then None
    else if opens_comment b c then comment_kind (comment_end cs) cs
    else if opens_line_comment b c then only (list_all in_line cs) kinds.White
    else if is_wide b c then only (is_end (literal_end c cs) cs) (literal_kind c)
    else if is_letter b then only (list_all is_word_byte (c ∷ cs)) kinds.Identifier
    else if starts_number b c then only (is_number_rest false (c ∷ cs)) kinds.Number
    else if is_quote b then quoted_kind b (literal_end b (c ∷ cs)) (c ∷ cs)
    else only (is_punctuator (b ∷ c ∷ cs)) kinds.Punctuator

unfoldable pub kind_of : List ℕ → Option Kind
kind_of [] = None
kind_of (b ∷ []) = Some (kind_of_one b)
kind_of (b ∷ c ∷ cs) = kind_of_more b c cs
