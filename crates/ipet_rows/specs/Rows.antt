-- The linear program of implicit path enumeration (Li and Malik 1995) that an outline and a report's facts make.
--   terms_from f e cs    the weights of the columns that are not 0, each with its column's number, the first being e
--   row_of columns w     the row of a weighing
--   cost_of costs c      what a column costs: what its node does
--   program_of o costs facts   a cost for each column, and all rows
use Rattle.std.specs.Prelude.{ℕ, ◌+◌, ℤ, pos, ◌&&◌, int_le, Bool, List, [], ◌∷◌, map, slice_index, if◌then◌else◌}
use Rattle.domain_core.specs.Outlines.{Shape}
use Rattle.flow_facts.specs.declared.fact.Fact.{Fact}
use Rattle.ipet_rows.specs.Programs.{Row, Program}
use Rattle.ipet_rows.specs.Columns.{Column, columns_of}
use Rattle.ipet_rows.specs.Weights.{Weighing, weighings}

-- the number is 0
abbrev pub vanishes : ℤ → Bool
vanishes z = int_le z (pos 0) && int_le (pos 0) z

-- the weights of the columns that are not 0, each with its column's number
abbrev pub terms_from : (Column → ℤ) → ℕ → List Column → List (ℕ × ℤ)
terms_from f e [] = []
terms_from f e (c ∷ cs) = if vanishes (f c) then terms_from f (e + 1) cs else ((e, f c) ∷ terms_from f (e + 1) cs)

abbrev pub row_of : List Column → Weighing → Row
row_of columns w = record { equation = w.equation; terms = terms_from w.weight 0 columns; right = w.right }

-- what a column costs: what its node does
abbrev pub cost_of : List ℕ → Column → ℕ
cost_of costs c = slice_index costs c.from

-- a cost for each column, and all rows
abbrev pub program_of : Shape → List ℕ → List Fact → Program
program_of o costs facts = record {
  costs = map (λ c. cost_of costs c) (columns_of o facts);
  rows = map (λ w. row_of (columns_of o facts) w) (weighings o facts);
}
