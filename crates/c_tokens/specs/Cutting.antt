-- The longest piece, as the code finds it: by its first bytes, in one pass.
--   cut_piece bytes   its kind and its length
use Rattle.std.specs.Prelude.{ℕ, ◌+◌, List, [], ◌∷◌, length, Bool, false, Option, Some, None, if◌then◌else◌}
use Rattle.std.specs.List.{prefix_len}
use Rattle.c_tokens.specs.declared.token.Kind.{Kind}
use Rattle.c_tokens.specs.declared.token.Kind.TheVariants as kinds
use Rattle.c_tokens.specs.Bytes.{is_blank, is_letter, is_word_byte, is_quote, in_line}
use Rattle.c_tokens.specs.Ends.{comment_end, literal_end}
use Rattle.c_tokens.specs.Numbers.{number_len, starts_number}
use Rattle.c_tokens.specs.Punctuators.{is_pair, is_triple, is_quadruple}
use Rattle.c_tokens.specs.Kinds.{kind_of_one, literal_kind, opens_comment, opens_line_comment, is_wide}

-- a comment, of which so many bytes are left after its slash and star
abbrev pub comment_piece : Option ℕ → ℕ → Kind × ℕ
comment_piece None n = (kinds.OpenComment, n + 2)
comment_piece (Some n) all = (kinds.White, n + 2)

-- a literal after L and its quote, or the name L
abbrev pub wide_piece : ℕ → Option ℕ → Kind × ℕ
wide_piece q None = (kinds.Identifier, 1)
wide_piece q (Some n) = (literal_kind q, n + 2)

-- a literal after its quote, where so many bytes of its line are left
abbrev pub quoted_piece : ℕ → Option ℕ → ℕ → Kind × ℕ
quoted_piece q None line = (kinds.OpenLiteral, line + 1)
quoted_piece q (Some n) line = (literal_kind q, n + 1)

abbrev pub begins_triple : ℕ → ℕ → List ℕ → Bool
begins_triple a b [] = false
begins_triple a b (c ∷ cs) = is_triple a b c

abbrev pub begins_quadruple : ℕ → ℕ → List ℕ → Bool
begins_quadruple a b [] = false
begins_quadruple a b (c ∷ []) = false
begins_quadruple a b (c ∷ d ∷ ds) = is_quadruple a b c d

abbrev pub symbol_piece : ℕ → ℕ → List ℕ → Kind × ℕ
symbol_piece a b cs =
    if begins_quadruple a b cs then (kinds.Punctuator, 4)
    else if begins_triple a b cs then (kinds.Punctuator, 3)
    else if is_pair a b then (kinds.Punctuator, 2)
    else (kind_of_one a, 1)

abbrev pub longer_piece : ℕ → ℕ → List ℕ → Kind × ℕ
longer_piece b c cs =
    if is_blank b then (kinds.White, 1)
    else if opens_comment b c then comment_piece (comment_end cs) (length cs)
    else if opens_line_comment b c then (kinds.White, prefix_len in_line cs + 2)
    else if is_wide b c then wide_piece c (literal_end c cs)
    else if is_letter b then (kinds.Identifier, prefix_len is_word_byte (c ∷ cs) + 1)
    else if starts_number b c then (kinds.Number, number_len false (c ∷ cs) + 1)
    else if is_quote b then quoted_piece b (literal_end b (c ∷ cs)) (prefix_len in_line (c ∷ cs))
    else symbol_piece b c cs

unfoldable pub cut_piece : List ℕ → Kind × ℕ
cut_piece [] = (kinds.Other, 0)
cut_piece (b ∷ []) = (kind_of_one b, 1)
cut_piece (b ∷ c ∷ cs) = longer_piece b c cs
