-- Laws of operator sizes.
--   word_below        the word of a size is below 2 to it
--   result_is_size    the size of a result is one of a word
--   few_operands      no operator has more than three operands
use Rattle.std.proofs.Common.{◌≡◌, ℕ, ℤ, pos, negsuc, Bool, true, false, List, IsSome, length, refl, ◌+◌, ◌<◌, ◌≤◌, ◌^◌, arith}
use Rattle.std.specs.Prelude.{◌&&◌, ◌==◌, nat_le, nat_lt, slice_index}
use Rattle.std.proofs.lemmas.Bool.{false≢true, leb-true, ltb-true}
use Rattle.std.proofs.lemmas.Nat.{pow_pos, mod_below}
use Rattle.lists.specs.TestLaws.{by_test}
use Rattle.alf_ops.specs.declared.operator.Op.{Op}
use Rattle.alf_ops.specs.declared.layout.Layout.{Layout}
use Rattle.alf_ops.specs.declared.layout.Layout.TheVariants.{Unary, Sum, Carry, Joined, First, Second, Binary, Comparison, Extension, Truncation, Field, Choice}
use Rattle.alf_ops.specs.Layouts.{size_count, is_size, is_typed, is_written_so, result_by_layout, operands_by_layout}
use Rattle.alf_ops.specs.Table.{result_size, size_of_result, operand_sizes, layout_of}
use Rattle.alf_ops.specs.TwosComplement.{word}
use Rattle.domain_core.specs.WordSets.{IsWordSize}

-- the word of a size is below 2 to it
pub word_below : (size : ℕ) (z : ℤ) → word size z < 2 ^ size
word_below size (pos n) = mod_below n (2 ^ size) (pow_pos size)
word_below size (negsuc n) = omega (arith, pow_pos size)

both : (a b : Bool) → (a && b) ≡ true → (a ≡ true) × (b ≡ true)
both true b e = (refl, e)
both false b e = absurd (false≢true e)

tested : (s : ℕ) → is_size s ≡ true → IsWordSize s
tested s e = let h = both (nat_le 1 s) (nat_le s 64) e in record { least = leb-true 1 s h.0; most = leb-true s 64 h.1 }

-- the sizes of a row
typed_is_size : (layout : Layout) (m n h : ℕ) → is_typed layout m n h ≡ true
    → IsWordSize (result_by_layout layout m n h)
typed_is_size Unary m n h e = tested m e
typed_is_size Sum m n h e = tested m e
typed_is_size Carry m n h e = record { least = omega arith; most = omega arith }
typed_is_size Joined m n h e = tested (m + n) (both (is_size m && is_size n) (is_size (m + n)) e).1
typed_is_size First m n h e = tested m (both (is_size m) (is_size n) e).0
typed_is_size Second m n h e = tested n (both (is_size m) (is_size n) e).1
typed_is_size Binary m n h e = tested m e
typed_is_size Comparison m n h e = record { least = omega arith; most = omega arith }
typed_is_size Extension m n h e = tested n (both (is_size m) (is_size n) (both (is_size m && is_size n) (nat_le m n) e).0).1
typed_is_size Truncation m n h e = tested n (both (is_size m) (is_size n) (both (is_size m && is_size n) (nat_le n m) e).0).1
typed_is_size Field m n h e =
    let all = both (is_size m && nat_le n h) (nat_lt h m) e in
    let first = both (is_size m) (nat_le n h) all.0 in
    record { least = omega arith; most = omega (arith, leb-true n h first.1, ltb-true h m all.1, (tested m first.0).most) }
typed_is_size Choice m n h e = tested m e

-- the size of a result is one of a word
pub result_is_size : (op : Op) (sizes : List ℕ) → IsSome (result_size op sizes) → IsWordSize (size_of_result op sizes)
result_is_size op sizes some = by_test (is_written_so (layout_of op) sizes)
    (λ e. typed_is_size (layout_of op) (slice_index sizes 0) (slice_index sizes 1) (slice_index sizes 2)
    (both (length sizes == size_count (layout_of op)) (is_typed (layout_of op) (slice_index sizes 0) (slice_index sizes 1) (slice_index sizes 2)) e).1)
    (λ e. absurd (false≢true (rw e at some)))

-- no operator has more than three operands
three_at_most : (layout : Layout) (m n h : ℕ) → length (operands_by_layout layout m n h) ≤ 3
three_at_most Unary m n h = omega arith
three_at_most Sum m n h = omega arith
three_at_most Carry m n h = omega arith
three_at_most Joined m n h = omega arith
three_at_most First m n h = omega arith
three_at_most Second m n h = omega arith
three_at_most Binary m n h = omega arith
three_at_most Comparison m n h = omega arith
three_at_most Extension m n h = omega arith
three_at_most Truncation m n h = omega arith
three_at_most Field m n h = omega arith
three_at_most Choice m n h = omega arith

pub few_operands : (op : Op) (sizes : List ℕ) → length (operand_sizes op sizes) ≤ 3
few_operands op sizes = three_at_most (layout_of op) (slice_index sizes 0) (slice_index sizes 1) (slice_index sizes 2)
