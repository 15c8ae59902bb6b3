-- The table of operators. A row has a layout of sizes and operands. Its formula gives the value before it is cut to the
-- size of the result. In a row s, m, n, low and high are the sizes written, and a, b and c the operands, named as the
-- page of operators names them.
--   row_of op                    the operator's row: its name, its layout and its formula
--   operators                    the operators in the order of the table
--   spelling op                  the operator's name
--   layout_of op                 how its sizes, its operands and its result belong together
--   formula op m n h a b c       its value before it is cut: m, n, h are the sizes written, a, b, c the operands, in order
--   result_size op sizes         the size of the operator's result, or None where it has none at these sizes
--   operand_size op sizes i      the size of operand i, or None
--   operand_sizes op sizes       the sizes of all operands
use Rattle.std.specs.Prelude.{ℕ, ℤ, pos, Bool, not, List, [], ◌∷◌, Option, ◌+◌, ◌-◌, ◌*◌, ◌/◌, ◌%◌, ◌^◌, ◌==◌, nat_le, nat_lt, min, max, neg_ℤ, ◌-ℤ◌, ◌*ℤ◌, int_div, int_lt, int_le, bit_and, bit_or, bit_xor, if◌then◌else◌, slice_index, codes}
use Rattle.std.specs.Int.{int_div_euclid, int_min, int_max}
use Rattle.alf_ops.specs.declared.operator.Op.{Op}
use Rattle.alf_ops.specs.declared.operator.Op.TheVariants.{Neg, Not, Add, Sub, CAdd, CSub, UMul, SMul, UDiv, SDiv, UMod, SMod, LShift, RShift, RShiftA, And, Or, Xor, Eq, Neq, ULt, ULe, UGt, UGe, SLt, SLe, SGt, SGe, SExt, ZExt, Trunc, Select, Conc, If, RotL, RotR, UMin, UMax, SMin, SMax}
use Rattle.alf_ops.specs.declared.layout.Layout.{Layout}
use Rattle.alf_ops.specs.declared.layout.Layout.TheVariants.{Unary, Sum, Carry, Joined, First, Second, Binary, Comparison, Extension, Truncation, Field, Choice}
use Rattle.alf_ops.specs.TwosComplement.{signed}
pub use Rattle.alf_ops.specs.Layouts.{size_count, is_size, is_typed, result_by_layout, operands_by_layout, is_written_so, size_by_layout, operand_by_layout}

-- a row of the table
pub record Row : Type 0 where
  pub name : List ℕ
  pub layout : Layout
  pub formula : ℕ → ℕ → ℕ → ℕ → ℕ → ℕ → ℤ

-- 1 where the test holds, else 0
abbrev pub bit : Bool → ℤ
bit test = if test then pos 1 else pos 0

-- ---- rows of each layout

-- one size s, one operand of it
abbrev unary : List ℕ → (ℕ → ℕ → ℤ) → Row
unary name f = record { name = name; layout = Unary; formula = λ m n h a b c. f m a }

-- one size s, two operands of it and the bit c
abbrev sum : List ℕ → (ℕ → ℕ → ℕ → ℕ → ℤ) → Row
sum name f = record { name = name; layout = Sum; formula = λ m n h a b c. f m a b c }

-- the same operands, of which a test holds
abbrev carry : List ℕ → (ℕ → ℕ → ℕ → ℕ → Bool) → Row
carry name f = record { name = name; layout = Carry; formula = λ m n h a b c. bit (f m a b c) }

-- sizes m and n, an operand of each; the result has the sum of the sizes
abbrev joined : List ℕ → (ℕ → ℕ → ℕ → ℕ → ℤ) → Row
joined name f = record { name = name; layout = Joined; formula = λ m n h a b c. f m n a b }

-- the same; the result has the first size
abbrev first : List ℕ → (ℕ → ℕ → ℕ → ℕ → ℤ) → Row
first name f = record { name = name; layout = First; formula = λ m n h a b c. f m n a b }

-- the same; the result has the second size
abbrev second : List ℕ → (ℕ → ℕ → ℕ → ℕ → ℤ) → Row
second name f = record { name = name; layout = Second; formula = λ m n h a b c. f m n a b }

-- one size s, two operands of it
abbrev binary : List ℕ → (ℕ → ℕ → ℕ → ℤ) → Row
binary name f = record { name = name; layout = Binary; formula = λ m n h a b c. f m a b }

-- the same operands, of which a test holds
abbrev comparison : List ℕ → (ℕ → ℕ → ℕ → Bool) → Row
comparison name f = record { name = name; layout = Comparison; formula = λ m n h a b c. bit (f m a b) }

-- an operand of size m, a result of size n, which is no smaller
abbrev extension : List ℕ → (ℕ → ℕ → ℕ → ℤ) → Row
extension name f = record { name = name; layout = Extension; formula = λ m n h a b c. f m n a }

-- an operand of size m, a result of size n, which is no greater
abbrev truncation : List ℕ → (ℕ → ℕ → ℕ → ℤ) → Row
truncation name f = record { name = name; layout = Truncation; formula = λ m n h a b c. f m n a }

-- one size s, places low and high in it, one operand
abbrev field : List ℕ → (ℕ → ℕ → ℕ → ℕ → ℤ) → Row
field name f = record { name = name; layout = Field; formula = λ m n h a b c. f m n h a }

-- one size s, the bit c, and two operands of the size
abbrev choice : List ℕ → (ℕ → ℕ → ℕ → ℕ → ℤ) → Row
choice name f = record { name = name; layout = Choice; formula = λ m n h a b c. f m a b c }

-- ---- the rows

abbrev pub row_of : Op → Row
row_of Neg = unary (codes "neg") (λ s a. neg_ℤ (pos a))
row_of Not = unary (codes "not") (λ s a. pos (2 ^ s - 1 - a))
row_of Add = sum (codes "add") (λ s a b c. pos (a + b + c))
row_of Sub = sum (codes "sub") (λ s a b c. pos (a + (2 ^ s - 1 - b) + c))
row_of CAdd = carry (codes "c_add") (λ s a b c. nat_le (2 ^ s) (a + b + c))
row_of CSub = carry (codes "c_sub") (λ s a b c. nat_le (2 ^ s) (a + (2 ^ s - 1 - b) + c))
row_of UMul = joined (codes "u_mul") (λ m n a b. pos (a * b))
row_of SMul = joined (codes "s_mul") (λ m n a b. signed m a *ℤ signed n b)
row_of UDiv = first (codes "u_div") (λ m n a b. pos (a / b))
row_of SDiv = first (codes "s_div") (λ m n a b. int_div (signed m a) (signed n b))
row_of UMod = second (codes "u_mod") (λ m n a b. pos a -ℤ (pos b *ℤ pos (a / b)))
row_of SMod = second (codes "s_mod") (λ m n a b. signed m a -ℤ (signed n b *ℤ int_div (signed m a) (signed n b)))
row_of LShift = first (codes "l_shift") (λ m n a b. pos (a * 2 ^ b))
row_of RShift = first (codes "r_shift") (λ m n a b. pos (a / 2 ^ b))
row_of RShiftA = first (codes "r_shift_a") (λ m n a b. int_div_euclid (signed m a) (pos (2 ^ b)))
row_of And = binary (codes "and") (λ s a b. pos (bit_and a b))
row_of Or = binary (codes "or") (λ s a b. pos (bit_or a b))
row_of Xor = binary (codes "xor") (λ s a b. pos (bit_xor a b))
row_of Eq = comparison (codes "eq") (λ s a b. a == b)
row_of Neq = comparison (codes "neq") (λ s a b. not (a == b))
row_of ULt = comparison (codes "u_lt") (λ s a b. nat_lt a b)
row_of ULe = comparison (codes "u_le") (λ s a b. nat_le a b)
row_of UGt = comparison (codes "u_gt") (λ s a b. nat_lt b a)
row_of UGe = comparison (codes "u_ge") (λ s a b. nat_le b a)
row_of SLt = comparison (codes "s_lt") (λ s a b. int_lt (signed s a) (signed s b))
row_of SLe = comparison (codes "s_le") (λ s a b. int_le (signed s a) (signed s b))
row_of SGt = comparison (codes "s_gt") (λ s a b. int_lt (signed s b) (signed s a))
row_of SGe = comparison (codes "s_ge") (λ s a b. int_le (signed s b) (signed s a))
row_of SExt = extension (codes "s_ext") (λ m n a. signed m a)
row_of ZExt = extension (codes "z_ext") (λ m n a. pos a)
row_of Trunc = truncation (codes "trunc") (λ m n a. pos a)
row_of Select = field (codes "select") (λ s low high a. pos (a / 2 ^ low))
row_of Conc = joined (codes "conc") (λ m n a b. pos (a * 2 ^ n + b))
row_of If = choice (codes "if") (λ s c a b. if c == 1 then pos a else pos b)
row_of RotL = first (codes "rot_l") (λ m n a b. pos (a * 2 ^ (b % m) + a / 2 ^ (m - b % m)))
row_of RotR = first (codes "rot_r") (λ m n a b. pos (a / 2 ^ (b % m) + a * 2 ^ (m - b % m)))
row_of UMin = binary (codes "u_min") (λ s a b. pos (min a b))
row_of UMax = binary (codes "u_max") (λ s a b. pos (max a b))
row_of SMin = binary (codes "s_min") (λ s a b. int_min (signed s a) (signed s b))
row_of SMax = binary (codes "s_max") (λ s a b. int_max (signed s a) (signed s b))

-- the operators in the order of the table
abbrev pub operators : List Op
operators =
    Neg ∷ Not ∷ Add ∷ Sub ∷ CAdd ∷ CSub ∷ UMul ∷ SMul ∷ UDiv ∷ SDiv ∷ UMod ∷ SMod ∷ LShift ∷ RShift ∷ RShiftA ∷ And ∷ Or ∷ Xor ∷ Eq ∷ Neq ∷ ULt
    ∷ ULe ∷ UGt ∷ UGe ∷ SLt ∷ SLe ∷ SGt ∷ SGe ∷ SExt ∷ ZExt ∷ Trunc ∷ Select ∷ Conc ∷ If ∷ RotL ∷ RotR ∷ UMin ∷ UMax ∷ SMin ∷ SMax ∷ []

-- the operator's name
abbrev pub spelling : Op → List ℕ
spelling op = (row_of op).name

-- how the sizes, the operands and the result of the operator's row belong together
abbrev pub layout_of : Op → Layout
layout_of op = (row_of op).layout

-- its value before it is cut to the size of the result
abbrev pub formula : Op → ℕ → ℕ → ℕ → ℕ → ℕ → ℕ → ℤ
formula op m n h a b c = (row_of op).formula m n h a b c

-- ---- sizes

-- the size of an operator's result at sizes that stand in its row
abbrev pub size_of_result : Op → List ℕ → ℕ
size_of_result op sizes = result_by_layout (layout_of op) (slice_index sizes 0) (slice_index sizes 1) (slice_index sizes 2)

-- the size of an operator's result, or None where it has none at these sizes
abbrev pub result_size : Op → List ℕ → Option ℕ
result_size op sizes = size_by_layout (layout_of op) sizes

-- the size of an operator's operand i, or None where there is none
abbrev pub operand_size : Op → List ℕ → ℕ → Option ℕ
operand_size op sizes i = operand_by_layout (layout_of op) sizes i

-- the sizes of an operator's operands, in order
abbrev pub operand_sizes : Op → List ℕ → List ℕ
operand_sizes op sizes = operands_by_layout (layout_of op) (slice_index sizes 0) (slice_index sizes 1) (slice_index sizes 2)
