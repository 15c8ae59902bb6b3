-- A mark for each byte of frames: byte b of frame f has place f * 65,536 + b.
--   IsTaken rows f b             byte b of frame f is one of a row's cell
--   IsMarkedIn marks from to     some byte from one place up to another has a mark
--   MarksIn old new from to      each of these bytes has a mark now, and all others are as they were
--   AreMarks rows marks          the bytes of frames that have a mark are those of the rows
--   start_of row, end_of row n   the places of the first byte of the row's cell, and past the last of n cells
use Rattle.std.specs.Prelude.{◌≡◌, ◌<◌, ◌≤◌, ◌+◌, ◌*◌, ◌/◌, ◌⊎◌, ℕ, Bool, true, List, length, Some, Contains, slice_get}
use Rattle.alf_check.specs.declared.rows.InputRow.{InputRow}

-- byte b of frame f is one of a row's cell
pub record IsTaken (rows : List InputRow) (f b : ℕ) : Type 0 where
  pub row : InputRow
  pub among : Contains rows row
  pub frame : row.frame ≡ f
  pub low : row.offset ≤ b
  pub high : b < row.offset + row.size / 8

-- some byte from one place up to another has a mark
pub record IsMarkedIn (marks : List Bool) (from to : ℕ) : Type 0 where
  pub place : ℕ
  pub low : from ≤ place
  pub high : place < to
  pub marked : slice_get marks place ≡ Some true

-- each of these bytes has a mark now, and all others are as they were
pub record MarksIn (old new : List Bool) (from to : ℕ) : Type 0 where
  pub same_length : length new ≡ length old
  pub inside : (place : ℕ) → from ≤ place → place < to → slice_get new place ≡ Some true
  pub outside : (place : ℕ) → (place < from) ⊎ (to ≤ place) → slice_get new place ≡ slice_get old place

-- the bytes of frames that have a mark are those of the rows
pub record AreMarks (rows : List InputRow) (marks : List Bool) : Type 0 where
  pub taken : (f b : ℕ) → b < 65536 → slice_get marks (f * 65536 + b) ≡ Some true → IsTaken rows f b
  pub marked : (f b : ℕ) → IsTaken rows f b → slice_get marks (f * 65536 + b) ≡ Some true

-- the place of the first byte of the row's cell
abbrev pub start_of : InputRow → ℕ
start_of row = row.frame * 65536 + row.offset

-- the place past the last of n cells
abbrev pub end_of : InputRow → ℕ → ℕ
end_of row n = start_of row + n * (row.size / 8)
