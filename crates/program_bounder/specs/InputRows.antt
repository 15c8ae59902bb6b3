-- Rows of inputs, and the ranges that they have.
--   ranges_of rows          the ranges of the rows, in their order
--   with_range row range    the row with this range
--   with_ranges rows area   the rows with these ranges, each at its place; of a row without a range there is none
use Rattle.std.specs.Prelude.{List, [], ◌∷◌, map}
use Rattle.alf_check.specs.declared.rows.InputRow.{InputRow}
use Rattle.worst_inputs.specs.declared.area.Range.{Range}
use Rattle.worst_inputs.specs.Areas.{Area}

-- the range of a row
abbrev pub range_of : InputRow → Range
range_of row = record { low = row.low; high = row.high }

-- the ranges of the rows
abbrev pub ranges_of : List InputRow → Area
ranges_of rows = map range_of rows

-- the row with this range
abbrev pub with_range : InputRow → Range → InputRow
with_range row range = record {
  frame = row.frame;
  offset = row.offset;
  size = row.size;
  low = range.low;
  high = range.high;
}

-- the rows with these ranges
abbrev pub with_ranges : List InputRow → Area → List InputRow
with_ranges [] area = []
with_ranges (row ∷ rows) [] = []
with_ranges (row ∷ rows) (range ∷ area) = with_range row range ∷ with_ranges rows area
