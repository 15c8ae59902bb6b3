-- Texts that are printed from tokens.
--   can_print text    the text is one token that can be printed: neither a byte that is in no other token, nor a literal or a comment that is not closed
--   printed_text ts   the texts of tokens in order, with one space between two of them and one line feed at the end
use Rattle.std.specs.Prelude.{ℕ, List, [], ◌∷◌, ◌++◌, drop, Bool, true, false, Option, Some, None}
use Rattle.std.specs.List.{flat_map}
use Rattle.c_tokens.specs.declared.token.Kind.{Kind}
use Rattle.c_tokens.specs.declared.token.Kind.TheVariants as kinds
use Rattle.c_tokens.specs.Kinds.{kind_of}

abbrev pub is_printed_kind : Kind → Bool
is_printed_kind kinds.White = false
is_printed_kind kinds.Other = false
is_printed_kind kinds.OpenLiteral = false
is_printed_kind kinds.OpenComment = false
is_printed_kind _ = true

abbrev pub has_printed_kind : Option Kind → Bool
has_printed_kind None = false
has_printed_kind (Some kind) = is_printed_kind kind

unfoldable pub can_print : List ℕ → Bool
can_print text = has_printed_kind (kind_of text)

-- a space, and then the text
abbrev pub spaced : List ℕ → List ℕ
spaced text = 32 ∷ text

unfoldable pub printed_text : List (List ℕ) → List ℕ
printed_text texts = drop 1 (flat_map spaced texts) ++ 10 ∷ []
