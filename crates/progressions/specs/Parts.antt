-- Parts of progressions.
--   from_least least p         the numbers of p from least on, if there is one
--   up_to greatest p           the numbers of p up to greatest, if there is one
--   between least greatest p   both
--   without_first p, without_last p   p without its low end, without its high end
--   moved_part d o             the part, if there is one, with d added
--   unsigned_pieces w p        the numbers of p modulo 2 to the size, read unsigned, as up to three progressions
--   signed_pieces w p          the same read signed
--   SomeHas pieces n           some piece has n
--   IsPiece, ArePieces least most   a progression from least to most; each piece is one
use Rattle.std.specs.Prelude.{ℕ, ℤ, pos, neg_ℤ, ◌+ℤ◌, ◌-ℤ◌, ◌≤ℤ◌, int_le, int_lt, if◌then◌else◌, Option, Some, None, ◌⊎◌}
use Rattle.std.specs.Int.{int_rem_euclid}
use Rattle.progressions.specs.declared.ends.Progression.{Progression}
use Rattle.progressions.specs.declared.ends.Pieces.{Pieces}
use Rattle.progressions.specs.Progressions.{IsProgression, HasSome, from_to, full, half}
use Rattle.progressions.specs.Images.{moved}

-- the least number from least on that is lo by the step, and the greatest up to greatest
abbrev pub risen : ℤ → Progression → ℤ
risen least p = least +ℤ int_rem_euclid (p.lo -ℤ least) p.step

abbrev pub sunk : ℤ → Progression → ℤ
sunk greatest p = greatest -ℤ int_rem_euclid (greatest -ℤ p.lo) p.step

unfoldable pub from_least : ℤ → Progression → Option Progression
from_least least p = if int_le least p.lo then Some p else (if int_lt p.hi least then None else Some (from_to (risen least p) p.hi p.step))

unfoldable pub up_to : ℤ → Progression → Option Progression
up_to greatest p = if int_le p.hi greatest then Some p else (if int_lt greatest p.lo then None else Some (from_to p.lo (sunk greatest p) p.step))

abbrev pub part_up_to : ℤ → Option Progression → Option Progression
part_up_to greatest None = None
part_up_to greatest (Some p) = up_to greatest p

abbrev pub between : ℤ → ℤ → Progression → Option Progression
between least greatest p = part_up_to greatest (from_least least p)

unfoldable pub without_first : Progression → Option Progression
without_first p = if int_lt p.lo p.hi then Some (from_to (p.lo +ℤ p.step) p.hi p.step) else None

unfoldable pub without_last : Progression → Option Progression
without_last p = if int_lt p.lo p.hi then Some (from_to p.lo (p.hi -ℤ p.step) p.step) else None

abbrev pub moved_part : ℤ → Option Progression → Option Progression
moved_part d None = None
moved_part d (Some p) = Some (moved d p)

-- those below 0 raised by 2 to the size, those of the range, and those past it lowered
abbrev pub unsigned_pieces : ℕ → Progression → Pieces
unsigned_pieces w p = record {
  first = moved_part (full w) (up_to (neg_ℤ (pos 1)) p);
  second = between (pos 0) (full w -ℤ pos 1) p;
  third = moved_part (neg_ℤ (full w)) (from_least (full w) p);
}

-- those of the range, and those past it lowered
abbrev pub signed_pieces : ℕ → Progression → Pieces
signed_pieces w p = record {
  first = up_to (half w -ℤ pos 1) p;
  second = moved_part (neg_ℤ (full w)) (from_least (half w) p);
  third = None;
}

-- some piece has n
abbrev pub SomeHas : Pieces → ℤ → Type 0
SomeHas pieces n = HasSome pieces.first n ⊎ (HasSome pieces.second n ⊎ HasSome pieces.third n)

-- a progression from least to most
pub record IsPiece (least most : ℤ) (p : Progression) : Type 0 where
  pub progression : IsProgression p
  pub low : least ≤ℤ p.lo
  pub high : p.hi ≤ℤ most

abbrev pub IfPiece : ℤ → ℤ → Option Progression → Type 0
IfPiece least most None = Unit {0}
IfPiece least most (Some p) = IsPiece least most p

-- each piece lies from least to most
pub record ArePieces (least most : ℤ) (pieces : Pieces) : Type 0 where
  pub first : IfPiece least most pieces.first
  pub second : IfPiece least most pieces.second
  pub third : IfPiece least most pieces.third
