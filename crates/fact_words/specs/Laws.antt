-- What tokens promise.
--   EachTextIsItsTokens    the tokens of a text, each after the byte before it, are the text after a line feed
--   EachPrintedTextIsCut   what is printed is cut into the tokens that were printed
use Rattle.std.specs.Prelude.{◌≡◌, ℕ, true, List, [], ◌∷◌}
use Rattle.std.specs.List.{list_all, flat_map}
use Rattle.fact_words.specs.Tokens.{tokens_of}
use Rattle.fact_words.specs.Printed.{Mark, token_bytes, is_mark, text_of_marks, tokens_before}

abbrev pub EachTextIsItsTokens : Type 0
EachTextIsItsTokens = (bytes : List ℕ) → flat_map token_bytes (tokens_of bytes) ≡ 10 ∷ bytes

abbrev pub EachPrintedTextIsCut : Type 0
EachPrintedTextIsCut = (first : Mark) (marks : List Mark) → first.line ≡ true → list_all is_mark (first ∷ marks) ≡ true
    → tokens_of (text_of_marks (first ∷ marks)) ≡ tokens_before [] (first ∷ marks)
