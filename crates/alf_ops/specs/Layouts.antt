-- The layouts of the table's rows: which sizes a row is written with, and which its operands and its result have.
-- The sizes written are called m, n and h in their order, and are 0 where fewer are written.
--   size_count layout                      how many sizes are written
--   is_typed layout m n h                  these sizes may stand there
--   result_by_layout, operands_by_layout   the sizes of the result and of the operands
--   size_by_layout layout sizes            the size of the result, or None where it has none at these sizes
--   operand_by_layout layout sizes i       the size of operand i, or None
use Rattle.std.specs.Prelude.{ℕ, Bool, List, [], ◌∷◌, Option, Some, None, ◌+◌, ◌-◌, ◌==◌, ◌&&◌, nat_le, nat_lt, if◌then◌else◌, length, slice_index, slice_get}
use Rattle.alf_ops.specs.declared.layout.Layout.{Layout}
use Rattle.alf_ops.specs.declared.layout.Layout.TheVariants.{Unary, Sum, Carry, Joined, First, Second, Binary, Comparison, Extension, Truncation, Field, Choice}

-- how many sizes are written
abbrev pub size_count : Layout → ℕ
size_count Unary = 1
size_count Sum = 1
size_count Carry = 1
size_count Joined = 2
size_count First = 2
size_count Second = 2
size_count Binary = 1
size_count Comparison = 1
size_count Extension = 2
size_count Truncation = 2
size_count Field = 3
size_count Choice = 1

-- a size is 1 to 64
abbrev pub is_size : ℕ → Bool
is_size s = nat_le 1 s && nat_le s 64

-- the sizes written, m, then n, then h, may stand in a row of this layout
abbrev pub is_typed : Layout → ℕ → ℕ → ℕ → Bool
is_typed Unary m n h = is_size m
is_typed Sum m n h = is_size m
is_typed Carry m n h = is_size m
is_typed Joined m n h = is_size m && is_size n && is_size (m + n)
is_typed First m n h = is_size m && is_size n
is_typed Second m n h = is_size m && is_size n
is_typed Binary m n h = is_size m
is_typed Comparison m n h = is_size m
is_typed Extension m n h = is_size m && is_size n && nat_le m n
is_typed Truncation m n h = is_size m && is_size n && nat_le n m
is_typed Field m n h = is_size m && nat_le n h && nat_lt h m
is_typed Choice m n h = is_size m

-- the size of the result
abbrev pub result_by_layout : Layout → ℕ → ℕ → ℕ → ℕ
result_by_layout Unary m n h = m
result_by_layout Sum m n h = m
result_by_layout Carry m n h = 1
result_by_layout Joined m n h = m + n
result_by_layout First m n h = m
result_by_layout Second m n h = n
result_by_layout Binary m n h = m
result_by_layout Comparison m n h = 1
result_by_layout Extension m n h = n
result_by_layout Truncation m n h = n
result_by_layout Field m n h = h - n + 1
result_by_layout Choice m n h = m

-- the sizes of the operands, in order
abbrev pub operands_by_layout : Layout → ℕ → ℕ → ℕ → List ℕ
operands_by_layout Unary m n h = m ∷ []
operands_by_layout Sum m n h = m ∷ m ∷ 1 ∷ []
operands_by_layout Carry m n h = m ∷ m ∷ 1 ∷ []
operands_by_layout Joined m n h = m ∷ n ∷ []
operands_by_layout First m n h = m ∷ n ∷ []
operands_by_layout Second m n h = m ∷ n ∷ []
operands_by_layout Binary m n h = m ∷ m ∷ []
operands_by_layout Comparison m n h = m ∷ m ∷ []
operands_by_layout Extension m n h = m ∷ []
operands_by_layout Truncation m n h = m ∷ []
operands_by_layout Field m n h = m ∷ []
operands_by_layout Choice m n h = 1 ∷ m ∷ m ∷ []

-- the sizes written stand in a row of the layout
abbrev pub is_written_so : Layout → List ℕ → Bool
is_written_so layout sizes = (length sizes == size_count layout) && is_typed layout (slice_index sizes 0) (slice_index sizes 1) (slice_index sizes 2)

-- the size of the result at these sizes, or None where they stand in no row
abbrev pub size_by_layout : Layout → List ℕ → Option ℕ
size_by_layout layout sizes = if is_written_so layout sizes
    then Some (result_by_layout layout (slice_index sizes 0) (slice_index sizes 1) (slice_index sizes 2))
    else None

-- the size of operand i at these sizes, or None where there is none
abbrev pub operand_by_layout : Layout → List ℕ → ℕ → Option ℕ
operand_by_layout layout sizes i = if is_written_so layout sizes
    then slice_get (operands_by_layout layout (slice_index sizes 0) (slice_index sizes 1) (slice_index sizes 2)) i
    else None
