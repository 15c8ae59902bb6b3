-- Joins over pieces, in their order.
--   added w p so_far       what was joined so far with p as well
--   over pieces f so_far   f at each piece in order
--   each w rule pieces     the join over the pieces of what the rule gives
--   each_pair w rule a b   the same over the choices of a piece of each, the first slowest
--   SoFar w so_far t       what was joined so far has the word t
--   settled w o            the value of what was joined; every word where there was no piece
--   kept_value w o         the same; none where there was none
use Rattle.std.specs.Prelude.{ℕ, Option, Some, None}
use Rattle.progressions.specs.declared.ends.Progression.{Progression}
use Rattle.progressions.specs.declared.ends.Pieces.{Pieces}
use Rattle.progressions.specs.Progressions.{IsPlaced}
use Rattle.strided_rules.specs.Strides.{Stride, IsMember, norm, join, whole}

-- what was joined so far with p as well
abbrev pub added : ℕ → Progression → Option Progression → Option Progression
added w p None = Some (norm w p)
added w p (Some so_far) = Some (join w so_far (norm w p))

-- f where there is a piece
abbrev pub at_piece : Option Progression → (Progression → Option Progression → Option Progression) → Option Progression
    → Option Progression
at_piece None f so_far = so_far
at_piece (Some p) f so_far = f p so_far

-- f at each piece in order
abbrev pub over : Pieces → (Progression → Option Progression → Option Progression) → Option Progression
    → Option Progression
over pieces f so_far = at_piece pieces.third f (at_piece pieces.second f (at_piece pieces.first f so_far))

-- the join over the pieces of what the rule gives
unfoldable pub each : ℕ → (Progression → Progression) → Pieces → Option Progression
each w rule pieces = over pieces (λ p. added w (rule p)) None

-- the join over the choices of two pieces, the first slowest
unfoldable pub each_pair : ℕ → (Progression → Progression → Progression) → Pieces → Pieces → Option Progression
each_pair w rule firsts seconds = over firsts (λ p. over seconds (λ q. added w (rule p q))) None

-- what was joined so far has the word t
abbrev pub SoFar : ℕ → Option Progression → ℕ → Type 0
SoFar w None t = ⊥
SoFar w (Some p) t = IsMember w p t

-- what was joined so far is in normal form
abbrev pub IfPlaced : ℕ → Option Progression → Type 0
IfPlaced w None = Unit {0}
IfPlaced w (Some p) = IsPlaced w p

-- the value of what was joined
abbrev pub settled : ℕ → Option Progression → Stride
settled w None = record { size = w; numbers = whole w }
settled w (Some p) = record { size = w; numbers = p }

abbrev pub kept_value : ℕ → Option Progression → Option Stride
kept_value w None = None
kept_value w (Some p) = Some (record { size = w; numbers = p })
