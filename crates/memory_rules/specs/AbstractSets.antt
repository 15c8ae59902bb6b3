-- Strided words and abstract values, as a memory holds them.
--   low_byte place word   this byte of each word, by the operator select
--   above_byte a b        each word of the first with a byte of the second below it, by the operator conc
--   has_pointer v         some pointer is among the values
--   abstract_sets         these sets
use Rattle.std.specs.Prelude.{◌≡◌, ℕ, Bool, true, false, List, [], ◌∷◌, ◌+◌, ◌*◌}
use Rattle.alf_ops.specs.declared.operator.Op.TheVariants.{Select, Conc}
use Rattle.domain_core.specs.WordSets.{IsOfSize}
use Rattle.strided_rules.specs.Strides.{Stride, Covers as CoversWord, joined as joined_words}
use Rattle.strided_rules.specs.Domains.{operand_of, applied, stride_sets}
use Rattle.pointer_rules.specs.AbstractValues.{AbstractValue, Words, Covers, alone, joined}
use Rattle.pointer_rules.specs.Covering.{IsValue}
use Rattle.memory_rules.specs.ValueSets.{ValueSets}

-- this byte of each word
abbrev pub low_byte : ℕ → Stride → Stride
low_byte place word = operand_of (applied Select (word.size ∷ 8 * place ∷ (8 * place + 7) ∷ []) (word ∷ [])).value

-- each word of the first with a byte of the second below it
abbrev pub above_byte : Stride → Stride → Stride
above_byte a b = operand_of (applied Conc (a.size ∷ b.size ∷ []) (a ∷ b ∷ [])).value

-- some pointer is among the values
abbrev pub some_place : List (ℕ × Stride) → Bool
some_place [] = false
some_place (place ∷ places) = true

abbrev pub has_pointer : AbstractValue → Bool
has_pointer v = some_place v.places

abbrev pub abstract_sets : ValueSets
abstract_sets = record {
  Word = Stride;
  Val = AbstractValue;
  has = λ word size bits. (word.size ≡ size) × CoversWord word bits;
  covers = Covers;
  sized = λ word size. IsOfSize stride_sets size word;
  val_sized = λ v size. IsValue size v;
  of_word = λ word. alone (Words word);
  word_part = λ v. v.words;
  has_pointer = has_pointer;
  join_words = joined_words;
  join = joined;
  byte = low_byte;
  conc = above_byte;
}
