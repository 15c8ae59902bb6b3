-- Tables of bounds as bounders: a table tells of each number from 0 on what it costs, or where a bound is missing.
--   told_of_all entries   the greatest bound of all, or the first place where one is missing
--   told_of entries area  that of the numbers of the one range
--   IsOfTable entries area   there is one range, of numbers of the table
--   HasCost entries input cost   the table tells this of the one number
--   table_bounding entries   the bounding
use Rattle.std.specs.Prelude.{◌≡◌, ◌+◌, ℕ, ℤ, pos, ◌≤ℤ◌, List, [], ◌∷◌, Some, length, max, slice_get, slice_range}
use Rattle.std.specs.Int.RustNames.{unsigned_abs}
use lib.Signed.{◌<ℤ◌}
use Rattle.worst_inputs.specs.declared.area.Range.{Range}
use Rattle.worst_inputs.specs.declared.bounder.Bounded.{Bounded}
use Rattle.worst_inputs.specs.declared.bounder.Bounded.TheVariants.{At, Left}
use Rattle.worst_inputs.specs.Areas.{Area}
use Rattle.worst_inputs.specs.Bounders.{Bounding}

-- a bound more
abbrev pub with_bound : ℕ → Bounded → Bounded
with_bound bound (At other) = At (max bound other)
with_bound bound (Left scope) = Left scope

-- the greatest bound of all, or the first place where one is missing
abbrev pub told_of_all : List Bounded → Bounded
told_of_all [] = At 0
told_of_all (At bound ∷ entries) = with_bound bound (told_of_all entries)
told_of_all (Left scope ∷ entries) = Left scope

-- that of the numbers of the one range
abbrev pub told_of : List Bounded → Area → Bounded
told_of entries [] = At 0
told_of entries (range ∷ area) =
    told_of_all (slice_range entries (unsigned_abs range.low) (unsigned_abs range.high + 1))

-- there is one range, of numbers of the table
pub record IsOfTable (entries : List Bounded) (area : Area) : Type 0 where
  pub range : Range
  pub one : area ≡ range ∷ []
  pub least : pos 0 ≤ℤ range.low
  pub ordered : range.low ≤ℤ range.high
  pub most : range.high <ℤ pos (length entries)

-- the table tells this of the one number
pub record HasCost (entries : List Bounded) (input : List ℤ) (cost : ℕ) : Type 0 where
  pub number : ℕ
  pub one : input ≡ pos number ∷ []
  pub at : slice_get entries number ≡ Some (At cost)

-- the bounding
abbrev pub table_bounding : List Bounded → Bounding
table_bounding entries = record {
  suits = IsOfTable entries;
  answers = λ area told. told ≡ told_of entries area;
  costs = HasCost entries;
}
