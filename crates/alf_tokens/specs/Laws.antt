-- What tokens promise.
--   EachTextIsItsPieces    the pieces of a text in a row are the text
--   EachPrintedTextIsCut   what is printed is cut into the tokens that were printed
--   EachNameIsNamedWell    the names of a text can be printed
use Rattle.std.specs.Prelude.{◌≡◌, ℕ, true, List, []}
use Rattle.std.specs.List.{list_all, flat_map}
use Rattle.alf_tokens.specs.Tokens.{pieces_of, tokens_of}
use Rattle.alf_tokens.specs.Printed.{Mark, piece_bytes, is_mark, text_of_marks, tokens_before, is_named_well}

abbrev pub EachTextIsItsPieces : Type 0
EachTextIsItsPieces = (bytes : List ℕ) → flat_map piece_bytes (pieces_of bytes) ≡ bytes

abbrev pub EachPrintedTextIsCut : Type 0
EachPrintedTextIsCut = (marks : List Mark) → list_all is_mark marks ≡ true → tokens_of (text_of_marks marks) ≡ tokens_before [] marks

abbrev pub EachNameIsNamedWell : Type 0
EachNameIsNamedWell = (bytes : List ℕ) → list_all is_named_well (tokens_of bytes) ≡ true
