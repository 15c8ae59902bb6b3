-- Names of nodes, by the parts that their quotes bound.
--   parts_of text           the parts of a text between its quotes
--   is_name part            1 to 64 bytes that may stand between quotes
--   is_block part           the number of a block
--   fits_parts quoted parts what follows in a node's name, where quoted is true from the inside of quotes on
--   is_node_name text       a node's name
use Rattle.std.specs.Prelude.{ℕ, ◌-◌, ◌^◌, ◌&&◌, ◌||◌, ◌==◌, not, List, [], ◌∷◌, length, Bool, true, false, Option, Some, None, nat_lt, nat_le, codes, if◌then◌else◌}
use denote.Ref.{Bor}
use Rattle.std.specs.List.{list_all}
use Rattle.std.specs.Str.{bytes_eq}
use Rattle.flow_base.specs.Digits.{number_of}
use Rattle.fact_words.specs.Numbers.{is_numeral, has_zeros}

abbrev pub with_first : ℕ → List (List ℕ) → List (List ℕ)
with_first b [] = []
with_first b (p ∷ ps) = (b ∷ p) ∷ ps

-- cut at each quote
abbrev pub parts_of : List ℕ → List (List ℕ)
parts_of [] = [] ∷ []
parts_of (b ∷ bs) = if b == 34 then [] ∷ parts_of bs else with_first b (parts_of bs)

-- the parts after the quote that comes first
abbrev pub further : List ℕ → List (List ℕ)
further [] = []
further (b ∷ bs) = parts_of bs

-- the parts of the bytes, where there are any
abbrev pub parts_after : Option (Bor (List ℕ)) → List (List ℕ)
parts_after None = []
parts_after (Some bytes) = parts_of bytes.now

-- from the space to the tilde, but no quote and no backslash
abbrev pub is_name_byte : ℕ → Bool
is_name_byte b = nat_le 32 b && nat_le b 126 && not (b == 34) && not (b == 92)

abbrev pub is_name : List ℕ → Bool
is_name part = nat_lt 0 (length part) && nat_le (length part) 64 && list_all is_name_byte part

-- digits without zeros before them, of 32 bits
abbrev pub is_block : List ℕ → Bool
is_block part = is_numeral part && nat_le (number_of part) (2 ^ 32 - 1) && not (has_zeros part)

-- a dot and the block of a call
abbrev pub is_call : List ℕ → Bool
is_call [] = false
is_call (b ∷ bs) = (b == 46) && is_block bs

-- a colon, and the word entry or a block
abbrev pub is_end : List ℕ → Bool
is_end [] = false
is_end (b ∷ bs) = (b == 58) && (bytes_eq bs (codes "entry") || is_block bs)

abbrev pub is_over : List (List ℕ) → Bool
is_over [] = true
is_over (p ∷ ps) = false

-- names stand between quotes, calls before each but the first, and the end after the last
abbrev pub fits_parts : Bool → List (List ℕ) → Bool
fits_parts quoted [] = false
fits_parts true (p ∷ ps) = is_name p && fits_parts false ps
fits_parts false (p ∷ ps) = if is_over ps then is_end p else (is_call p && fits_parts true ps)

-- the first quote is the first byte
abbrev pub begins_quoted : List (List ℕ) → Bool
begins_quoted [] = false
begins_quoted (p ∷ ps) = bytes_eq p [] && fits_parts true ps

unfoldable pub is_node_name : List ℕ → Bool
is_node_name text = begins_quoted (parts_of text)
