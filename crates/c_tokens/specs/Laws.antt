-- What tokens promise.
--   EachTextIsItsPieces     the pieces of a text in a row are the text
--   EachTokenIsOfItsKind    each token of a text is of the kind that its bytes are as a whole
--   StandsIn bytes token     the token is what stands in the bytes where as many are left as it tells
--   EachTokenStandsInItsText   so does each token of a text
--   EachPrintedTextIsCut    what is printed is cut into the tokens that were printed
use Rattle.std.specs.Prelude.{◌≡◌, ◌≤◌, ◌-◌, ℕ, true, List, Some, map, length, take, drop}
use Rattle.std.specs.List.{All, list_all, flat_map}
use Rattle.c_tokens.specs.Kinds.{kind_of}
use Rattle.c_tokens.specs.Tokens.{Lexeme, pieces_of, tokens_of}
use Rattle.c_tokens.specs.Printed.{can_print, printed_text}

abbrev pub EachTextIsItsPieces : Type 0
EachTextIsItsPieces = (bytes : List ℕ) → flat_map (λ (t : Lexeme). t.text) (pieces_of bytes) ≡ bytes

abbrev pub EachTokenIsOfItsKind : Type 0
EachTokenIsOfItsKind = (bytes : List ℕ) → All (λ (t : Lexeme). kind_of t.text ≡ Some t.kind) (tokens_of bytes)

pub record StandsIn (bytes : List ℕ) (t : Lexeme) : Type 0 where
  pub within : t.left ≤ length bytes
  pub there : take (length t.text) (drop (length bytes - t.left) bytes) ≡ t.text

abbrev pub EachTokenStandsInItsText : Type 0
EachTokenStandsInItsText = (bytes : List ℕ) → All (StandsIn bytes) (tokens_of bytes)

abbrev pub EachPrintedTextIsCut : Type 0
EachPrintedTextIsCut = (texts : List (List ℕ)) → list_all can_print texts ≡ true → map (λ (t : Lexeme). t.text) (tokens_of (printed_text texts)) ≡ texts
