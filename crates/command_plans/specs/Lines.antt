-- Texts of one line.
--   is_line text            its last byte is a line feed, and no other is
--   TellsInALine ending     the outcome of a stop is told in one line
use Rattle.std.specs.Prelude.{◌≡◌, ℕ, List, [], ◌∷◌, Bool, true, false, not, ◌&&◌, ◌==◌}
use Rattle.command_plans.specs.Outcome.{Ending, Finished, Stopped}

-- its last byte is a line feed, and no other is
abbrev pub is_line : List ℕ → Bool
is_line [] = false
is_line (byte ∷ []) = byte == 10
is_line (byte ∷ (next ∷ rest)) = not (byte == 10) && is_line (next ∷ rest)

-- the outcome of a stop is told in one line
abbrev pub TellsInALine : Ending → Type 0
TellsInALine (Finished text) = Unit {0}
TellsInALine (Stopped outcome) = is_line outcome.text ≡ true
