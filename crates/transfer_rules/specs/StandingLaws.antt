-- Laws of standing.
--   word_told, pointer_told         a word and a pointer
--   one_only   one word of a size
use Rattle.std.specs.Prelude.{◌<◌, ◌^◌, ℕ}
use Rattle.std.proofs.Common.{refl, arith}
use Rattle.alf_ops.specs.declared.history.Value.{Value}
use Rattle.alf_ops.specs.declared.history.Value.TheVariants.{Int, Ptr}
use Rattle.domain_core.specs.WordSets.{IsWordSize, IsOnly, IsOfSize}
use Rattle.strided_rules.specs.Strides.{one_word}
use Rattle.strided_rules.specs.Domains.{stride_sets}
use Rattle.strided_rules.specs.StrideLaws.{stride_is_sets}
use Rattle.pointer_rules.specs.AbstractValues.{AbstractValue, Words, Places, OnlyCovers as OneCovers}
use Rattle.pointer_rules.specs.Covering.{IsValue}
use Rattle.pointer_rules.specs.RuleLaws.{alone_is, alone_covers, alone_only}
use Rattle.memory_rules.specs.ValueSets.{OnlyCovers}
use Rattle.memory_rules.specs.AbstractSets.{abstract_sets}
use Rattle.transfer_rules.specs.Evaluating.{word_value, pointer_value}
use Rattle.transfer_rules.specs.Standing.{ValueTold}

pub one_of : (v : AbstractValue) (value : Value) → OneCovers v value → OnlyCovers abstract_sets v value
one_of v value only = (only.is, only.one)

pub as_one : (v : AbstractValue) (value : Value) → OnlyCovers abstract_sets v value → OneCovers v value
as_one v value only = record { is = only.0; one = only.1 }

-- ---- words and pointers

-- one word of a size
pub one_only : (size bits : ℕ) → IsWordSize size → bits < 2 ^ size → IsOnly stride_sets (one_word size bits) bits
one_only size bits is small = stride_is_sets.single_only size bits is small

pub one_sized : (size bits : ℕ) → IsWordSize size → bits < 2 ^ size → IsOfSize stride_sets size (one_word size bits)
one_sized size bits is small = stride_is_sets.single_size size bits is small

pub word_is : (size bits : ℕ) → IsWordSize size → bits < 2 ^ size → IsValue size (word_value size bits)
word_is size bits is small = alone_is size (Words (one_word size bits)) (one_sized size bits is small)

pub word_told : (Sharp : Type 0) (size bits : ℕ) → IsWordSize size → bits < 2 ^ size
    → ValueTold Sharp (word_value size bits) (Int size bits)
word_told Sharp size bits is small =
    let only = one_only size bits is small in
    record {
      covers = alone_covers (Words (one_word size bits)) (Int size bits) (refl, only.is);
      only = λ sharp. one_of (word_value size bits) (Int size bits) (alone_only (Words (one_word size bits)) (Int size bits) (refl, only));
    }

is_32 : IsWordSize 32
is_32 = record { least = omega arith; most = omega arith }

pub pointer_is : (frame offset : ℕ) → offset < 2 ^ 32 → IsValue 32 (pointer_value frame offset)
pointer_is frame offset small = alone_is 32 (Places frame (one_word 32 offset)) (one_sized 32 offset is_32 small, refl)

pub pointer_told : (Sharp : Type 0) (frame offset : ℕ) → offset < 2 ^ 32
    → ValueTold Sharp (pointer_value frame offset) (Ptr frame offset)
pointer_told Sharp frame offset small =
    let only = one_only 32 offset is_32 small in
    record {
      covers = alone_covers (Places frame (one_word 32 offset)) (Ptr frame offset) (refl, only.is);
      only = λ sharp. one_of (pointer_value frame offset) (Ptr frame offset) (alone_only (Places frame (one_word 32 offset)) (Ptr frame offset) (refl, only));
    }
