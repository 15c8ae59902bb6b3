-- Costs by function and block.
--   CostTable                for each function the costs of its blocks, and one cost for what is not there
--   cost_at table f b        the cost of block b of function f
--   one_each                 the costs where no file is named: every block costs 1
--   HasRows program table    the table has a row for each function, with a cost for each of its blocks
--   with_cost table f b cost the table with this cost for block b of function f
use Rattle.std.specs.Prelude.{◌≡◌, ℕ, List, [], length, Some, slice_get, unwrap_or, set}
use Rattle.alf_check.specs.CheckedPrograms.{NumberedProgram, blocks_at}

-- for each function the costs of its blocks, and one cost for what is not there
pub record CostTable : Type 0 where
  pub rows : List (List ℕ)
  pub others : ℕ

-- the costs of the blocks of function f
abbrev pub row_at : CostTable → ℕ → List ℕ
row_at table f = unwrap_or (slice_get table.rows f) []

-- the cost of block b of function f
abbrev pub cost_at : CostTable → ℕ → ℕ → ℕ
cost_at table f b = unwrap_or (slice_get (row_at table f) b) table.others

-- every block costs 1
abbrev pub one_each : CostTable
one_each = record { rows = []; others = 1 }

-- a row for each function, with a cost for each of its blocks
pub record HasRows (program : NumberedProgram) (table : CostTable) : Type 0 where
  pub functions : length table.rows ≡ length program.funcs
  pub blocks : (f : ℕ) (row : List ℕ) → slice_get table.rows f ≡ Some row → length row ≡ length (blocks_at program f)

-- the table with this cost for block b of function f
abbrev pub with_cost : CostTable → ℕ → ℕ → ℕ → CostTable
with_cost table f b cost = record { rows = set table.rows f (set (row_at table f) b cost); others = table.others }
