-- What single bytes of a C text are.
--   is_blank b       a space, a tab, a carriage return or a line feed
--   is_letter b      a letter or an underscore, with which identifiers begin
--   is_word_byte b   what an identifier goes on with: a letter, an underscore or a digit
--   is_quote b       the quote of a character constant or of a string literal
--   is_line_feed b, in_line b   the end of a line, and what a comment to the end of its line goes on with
--   among b bytes    the byte is one of these
use Rattle.std.specs.Prelude.{ℕ, ◌==◌, List, Bool, ◌||◌}
use Rattle.std.specs.List.{list_any}
use Rattle.std.specs.Char.{is_ascii_digit, is_ascii_alphabetic}
pub use Rattle.flow_base.specs.Places.{is_line_feed, in_line}

abbrev pub is_blank : ℕ → Bool
is_blank b = (b == 32) || (b == 9) || (b == 13) || (b == 10)

abbrev pub is_letter : ℕ → Bool
is_letter b = is_ascii_alphabetic b || (b == 95)

abbrev pub is_word_byte : ℕ → Bool
is_word_byte b = is_letter b || is_ascii_digit b

abbrev pub is_quote : ℕ → Bool
is_quote b = (b == 39) || (b == 34)

abbrev pub among : ℕ → List ℕ → Bool
among b bytes = list_any (λ c. c == b) bytes
