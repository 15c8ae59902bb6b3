-- Places in a text.
--   is_line_feed b        the end of a line
--   in_line b             any other byte
--   place_after prefix    the place after these bytes: lines and columns count from 1, and a line ends after each line feed
--   place_of bytes left   the place in the text where so many bytes are left
use Rattle.std.specs.Prelude.{ℕ, ◌+◌, ◌-◌, ◌==◌, not, Bool, List, length, take, filter, reverse}
use Rattle.std.specs.List.{prefix_len}
use Rattle.flow_base.specs.declared.place.Place.{Place}

abbrev pub is_line_feed : ℕ → Bool
is_line_feed b = b == 10

abbrev pub in_line : ℕ → Bool
in_line b = not (is_line_feed b)

abbrev pub place_after : List ℕ → Place
place_after prefix = record { offset = length prefix; line = length (filter is_line_feed prefix) + 1; column = prefix_len in_line (reverse prefix) + 1 }

abbrev pub place_of : List ℕ → ℕ → Place
place_of bytes left = place_after (take (length bytes - left) bytes)
