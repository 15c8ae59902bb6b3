-- What tokens that spell a unit promise.
--   IsOfItsKind t                 the token is of the kind that its bytes are as a whole
--   EachSpelledTokenCanBePrinted  each token of a text that spells trees can be printed
--   NumberedByTheirTexts          what tokens are to the grammar hangs on their texts alone
use Rattle.std.specs.Prelude.{◌≡◌, ℕ, ◌+◌, List, [], ◌∷◌, true, Some, map}
use Rattle.std.specs.Option.{unwrap_or}
use Rattle.std.specs.List.{All, list_all}
use Rattle.c_tokens.specs.declared.token.Kind.TheVariants as kinds
use Rattle.c_tokens.specs.Kinds.{kind_of}
use Rattle.c_tokens.specs.Tokens.{Lexeme}
use Rattle.c_tokens.specs.Printed.{can_print}
use Rattle.c_unit.specs.Tree.{ExternalTree}
use Rattle.c_grammar.specs.Symbols.{symbol_of}
use Rattle.c_grammar.specs.Tokens.{Seen, Room, Place}
use Rattle.c_grammar.specs.Units.{unit}
use Rattle.c_reader.specs.Reading.{numbered}

-- the token is of the kind that its bytes are as a whole
abbrev pub IsOfItsKind : Lexeme → Type 0
IsOfItsKind t = kind_of t.text ≡ Some t.kind

-- the bytes of a token
abbrev pub text_of : Lexeme → List ℕ
text_of t = t.text

-- where the reading of these tokens starts
abbrev pub from_start : Room → List Lexeme → Place
from_start room ts = record { ahead = numbered 0 ts; room = room }

-- each token of a text that spells trees can be printed
abbrev pub EachSpelledTokenCanBePrinted : Type 0
EachSpelledTokenCanBePrinted =
    (room : Room) (ts : List Lexeme) (externals : List ExternalTree) (rest : Place) → All IsOfItsKind ts → unit.form.Spells (from_start room ts) externals rest
    → list_all can_print (map text_of ts) ≡ true

-- the tokens with these texts, numbered from n on
abbrev pub numbered_texts : ℕ → List (List ℕ) → List Seen
numbered_texts n [] = []
numbered_texts n (text ∷ texts) = record { symbol = symbol_of (unwrap_or (kind_of text) kinds.Other) text; number = n; text = text } ∷ numbered_texts (n + 1) texts

-- what tokens are to the grammar hangs on their texts alone
abbrev pub NumberedByTheirTexts : Type 0
NumberedByTheirTexts = (n : ℕ) (ts : List Lexeme) → All IsOfItsKind ts → numbered n ts ≡ numbered_texts n (map text_of ts)
