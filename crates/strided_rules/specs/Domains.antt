-- Strided values as a domain.
--   operand args i         operand i
--   all_one args           each operand has one member
--   known op sizes xs      what the operator gives at words
--   divided op sizes args  what a division gives: 0 is told, and dropped from the divisor
--   applied op sizes args  what the operator gives: at words where each operand has one member, else by its rule
--   stride_order, stride_sets   what the traits ask for
use Rattle.std.specs.Prelude.{◌≡◌, ℕ, Bool, true, false, List, [], ◌∷◌, ◌==◌, ◌&&◌, Option, Some, None, map, slice_get, slice_index, if◌then◌else◌}
use Rattle.alf_ops.specs.declared.operator.Op.{Op}
use Rattle.alf_ops.specs.Table.{size_of_result}
use Rattle.alf_ops.specs.Words.{value, divides}
use Rattle.domain_core.specs.declared.applied.Applied.{Applied}
use Rattle.domain_core.specs.Orders.{Order}
use Rattle.domain_core.specs.WordSets.{WordSets}
use Rattle.strided_rules.specs.Strides.{Stride, IsStride, Covers, one_word, every_word, joined}
use Rattle.strided_rules.specs.Members.{is_one, word_of, has, only, without, assumed}
use Rattle.strided_rules.specs.Operators.{rule}

-- operand i; any value where there is none
abbrev pub operand_of : Option Stride → Stride
operand_of None = one_word 1 0
operand_of (Some x) = x

abbrev pub operand : List Stride → ℕ → Stride
operand args i = operand_of (slice_get args i)

-- each operand has one member
abbrev pub all_one : List Stride → Bool
all_one [] = true
all_one (x ∷ args) = is_one x && all_one args

-- the operator's rule at its sizes and operands
abbrev pub ruled : Op → List ℕ → Stride → Stride → Stride → Stride
ruled op sizes a b c = rule op (slice_index sizes 0) (slice_index sizes 1) (slice_index sizes 2) a b c

-- what the operator gives at words
abbrev pub known : Op → List ℕ → List ℕ → Applied Stride
known op sizes xs = if divides op && (slice_index xs 1 == 0)
    then record { value = None; divide = true }
    else record { value = Some (one_word (size_of_result op sizes) (value op sizes xs)); divide = false }

-- the divisor without 0
abbrev pub divisor : Stride → Option Stride
divisor b = if has b 0 then without b 0 else Some b

abbrev pub by_divisor : Op → List ℕ → Stride → Option Stride → Option Stride
by_divisor op sizes a None = None
by_divisor op sizes a (Some b) = Some (ruled op sizes a b b)

abbrev pub divided : Op → List ℕ → Stride → Stride → Applied Stride
divided op sizes a b = record { value = by_divisor op sizes a (divisor b); divide = has b 0 }

abbrev pub applied : Op → List ℕ → List Stride → Applied Stride
applied op sizes args = if all_one args
    then known op sizes (map word_of args)
    else (if divides op
    then divided op sizes (operand args 0) (operand args 1)
    else record { value = Some (ruled op sizes (operand args 0) (operand args 1) (operand args 2)); divide = false })

-- values of one size may be joined
pub record AreAlike (a b : Stride) : Type 0 where
  pub first : IsStride a
  pub second : IsStride b
  pub size : a.size ≡ b.size

abbrev pub stride_order : Order Stride
stride_order = record {
  alike = AreAlike;
  under = λ a b. (a.size ≡ b.size) × ((t : ℕ) → Covers a t → Covers b t);
  joined = joined;
}

abbrev pub stride_sets : WordSets Stride
stride_sets = record {
  kept = IsStride;
  size_of = λ x. x.size;
  covers = Covers;
  single = one_word;
  whole = every_word;
  has = has;
  applied = applied;
  assumed = assumed;
  only = only;
}
