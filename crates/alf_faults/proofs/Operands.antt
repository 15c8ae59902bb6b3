-- How many operands an operator has.
use Rattle.std.proofs.Common.{◌≡◌, ◌<◌, ◌≤◌, ℕ, List, Some, None, length, arith}
use Rattle.std.specs.List.{slice_get, slice_index}
use Rattle.std.proofs.lemmas.Option.{slice_get_within}
use Rattle.lists.specs.TestLaws.{by_test}
use Rattle.alf_ops.specs.declared.operator.Op.{Op}
use Rattle.alf_ops.specs.declared.layout.Layout.{Layout}
use Rattle.alf_ops.specs.declared.layout.Layout.TheVariants.{Unary, Sum, Carry, Joined, First, Second, Binary, Comparison, Extension, Truncation, Field, Choice}
use Rattle.alf_ops.specs.Table.{layout_of, operands_by_layout, operand_size, is_written_so}

-- a row has at most three operands
at_most_three : (layout : Layout) (m n h : ℕ) → length (operands_by_layout layout m n h) ≤ 3
at_most_three Unary m n h = omega arith
at_most_three Sum m n h = omega arith
at_most_three Carry m n h = omega arith
at_most_three Joined m n h = omega arith
at_most_three First m n h = omega arith
at_most_three Second m n h = omega arith
at_most_three Binary m n h = omega arith
at_most_three Comparison m n h = omega arith
at_most_three Extension m n h = omega arith
at_most_three Truncation m n h = omega arith
at_most_three Field m n h = omega arith
at_most_three Choice m n h = omega arith

-- an operand stands below the third place
pub operand_within : (op : Op) (sizes : List ℕ) (i n : ℕ) → operand_size op sizes i ≡ Some n → i < 3
operand_within op sizes i n h =
    by_test (is_written_so (layout_of op) sizes)
    (λ e. let got : slice_get (operands_by_layout (layout_of op) (slice_index sizes 0) (slice_index sizes 1) (slice_index sizes 2)) i ≡ Some n = rw e at h in
    omega (arith, slice_get_within (operands_by_layout (layout_of op) (slice_index sizes 0) (slice_index sizes 1) (slice_index sizes 2)) i n got, at_most_three (layout_of op) (slice_index sizes 0) (slice_index sizes 1) (slice_index sizes 2)))
    (λ e. absurd (let none : None ≡ Some n = rw e at h in cc))
