-- What the bytes of a text are.
--   is_blank b                       a space, a tab, a carriage return or a line feed
--   is_word_byte b, is_name_byte b   what a word goes on with; what may stand between quotes
--   begins_with b bytes              the first byte is b
--   to_close bytes                   how many bytes there are up to the end of the first end of a comment
use Rattle.std.specs.Prelude.{ℕ, ◌+◌, ◌==◌, List, [], ◌∷◌, Bool, false, ◌&&◌, ◌||◌, not, Option, Some, None, nat_le, if◌then◌else◌}
use Rattle.std.specs.Char.{is_ascii_digit, is_ascii_alphabetic}

abbrev pub is_blank : ℕ → Bool
is_blank b = (b == 32) || (b == 9) || (b == 13) || (b == 10)

-- a letter, a digit or an underscore
abbrev pub is_word_byte : ℕ → Bool
is_word_byte b = is_ascii_alphabetic b || is_ascii_digit b || (b == 95)

-- from the space to the tilde, but no quote and no backslash
abbrev pub is_name_byte : ℕ → Bool
is_name_byte b = nat_le 32 b && nat_le b 126 && not (b == 34) && not (b == 92)

abbrev pub begins_with : ℕ → List ℕ → Bool
begins_with b [] = false
begins_with b (c ∷ cs) = c == b

-- a star and a slash come first
abbrev pub closes : List ℕ → Bool
closes [] = false
closes (b ∷ bs) = (b == 42) && begins_with 47 bs

abbrev pub one_more : Option ℕ → Option ℕ
one_more None = None
one_more (Some n) = Some (n + 1)

-- how many bytes there are up to the end of the first star and slash
unfoldable pub to_close : List ℕ → Option ℕ
to_close [] = None
to_close (b ∷ bs) = if closes (b ∷ bs) then Some 2 else one_more (to_close bs)
